use Rattle.surf_cert.proofs.Common.{◌≡◌, ◌<◌, ℕ, Bool, false, List, length, get_or, sym, ap, ◌∙◌, subst, arith, map, xor, odd, face_count, borders, edge_number, common_steps}
use Rattle.surf_class.proofs.Common.{AreFlags, has_odd_sides}
use Rattle.surf_class.proofs.Lists.{restored}
use Rattle.surf_class.proofs.PairFlags.{odd_by_pairs}
use Rattle.surf_class.proofs.check.odd_faces.Goals as goal

pub returns : goal.returns
returns c =
    let mesh = c.args.mesh.now in
    let pairs = c.args.list.now in
    let size : length c.turn_pairs.new.flags ≡ face_count mesh = omega (arith, c.turn_pairs.auto.flags, c.deref_mut.ensures.len, c.in_ok-odd.ensures.len, c.faces.ensures.count) in
    let off : (f : ℕ) → f < face_count mesh → get_or c.deref_mut.result.now f false ≡ false = grind (arith, common_steps) in
    let flags : AreFlags (face_count mesh) (has_odd_sides mesh pairs) c.turn_pairs.new.flags = record {
      count = size;
      each = λ f l. c.turn_pairs.ensures.turned f l ∙ ap (λ b. xor b (odd (map (λ p. borders mesh f (edge_number mesh p)) pairs))) (off f l)
          ∙ odd_by_pairs mesh pairs f c.faces.ensures.surface c.law_of_pairs.ensures.rises c.requires.edges l;
    } in
    record { flags = subst (λ (xs : List Bool). AreFlags (face_count mesh) (has_odd_sides mesh pairs) xs) (sym (restored _ _ _ (omega (arith, size, c.in_ok-odd.ensures.len, c.faces.ensures.count)))) flags }
