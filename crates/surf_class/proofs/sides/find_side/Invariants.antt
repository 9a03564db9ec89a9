use Rattle.surf_surfaces.proofs.Common.{◌≡◌, ◌<◌, ℕ, Bool, get_or, xor, face_count}
use Rattle.surf_class.specs.Sides.{IsParted}
use Rattle.surf_class.proofs.sides.find_side.Given as goal

-- the side so far, with that of the face to which the climb has come
abbrev pub invariant-loop-known : goal.invariant-loop-known
invariant-loop-known l = record {
  within : l.at < face_count l.flagged.mesh.now;
  side : (set : ℕ → Bool) → IsParted l.flagged.mesh.now l.cotree l.flagged.flags.now set → xor l.side (set l.at) ≡ set l.fn.face;
}

abbrev pub decreases-loop-known : goal.decreases-loop-known
decreases-loop-known l = get_or l.cotree.depths l.at 0
