use Rattle.surf_surfaces.proofs.Common.{◌≡◌, ◌<◌, ℕ, Bool, IsSome, length, face_count}
use Rattle.surf_class.specs.Sides.{IsParted, AreSidesOf, side_at}
use Rattle.surf_class.proofs.sides.note_all.Given as goal

-- what is known is right, and the faces before are known
abbrev pub invariant-loop-f : goal.invariant-loop-f
invariant-loop-f l = record {
  count : length l.sides ≡ face_count l.flagged.mesh.now;
  right : (set : ℕ → Bool) → IsParted l.flagged.mesh.now l.cotree l.flagged.flags.now set → AreSidesOf set l.fn.sides → AreSidesOf set l.sides;
  known : (k : ℕ) → k < l.f → IsSome (side_at l.sides k);
}
