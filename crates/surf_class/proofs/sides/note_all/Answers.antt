use Rattle.surf_surfaces.proofs.Common.{◌≡◌, ℕ, subst, arith, inl, inr, IsSome, cases_lt}
use Rattle.surf_class.specs.Sides.{side_at}
use Rattle.surf_class.proofs.sides.note_all.Goals as goal

pub loop-f-preserved : goal.loop-f-preserved
loop-f-preserved c =
    let inv = c.loop-f.invariant in
    record {
      count = omega (arith, c.note_sides.auto.sides, inv.count);
      right = λ set parted are.
          c.note_sides.ensures.right set parted (c.find_side-side.ensures.side set parted (inv.right set parted are)) (inv.right set parted are);
      known = λ k l. elim (cases_lt k c.loop-f.f) [
        | inl below ↦ c.note_sides.ensures.kept k (inv.known k below)
        | inr above ↦
            let is : c.new-face.result ≡ k = omega (arith, c.new-face.ensures, l, above) in
            subst (λ (n : ℕ). IsSome (side_at c.note_sides.new.sides n)) is c.note_sides.ensures.known
      ];
    }
