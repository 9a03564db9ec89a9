use Rattle.surf_surfaces.proofs.Common.{◌≡◌, ◌<◌, ◌⊎◌, ℕ, Bool, IsSome, length, get_or, face_count}
use Rattle.surf_class.specs.Sides.{IsParted, AreSidesOf, side_at}
use Rattle.surf_class.proofs.sides.note_sides.Given as goal

-- the side is that of the face to which the climb has come, and what is known is right
abbrev pub invariant-loop-at : goal.invariant-loop-at
invariant-loop-at l = record {
  within : l.at < face_count l.flagged.mesh.now;
  count : length l.sides ≡ face_count l.flagged.mesh.now;
  right : (set : ℕ → Bool) → IsParted l.flagged.mesh.now l.cotree l.flagged.flags.now set → l.fn.side ≡ set l.fn.face → AreSidesOf set l.fn.sides →
      (l.side ≡ set l.at) × AreSidesOf set l.sides;
  known : IsSome (side_at l.sides l.fn.face) ⊎ (l.at ≡ l.fn.face);
  kept : (f : ℕ) → IsSome (side_at l.fn.sides f) → IsSome (side_at l.sides f);
}

abbrev pub decreases-loop-at : goal.decreases-loop-at
decreases-loop-at l = get_or l.cotree.depths l.at 0
