use Rattle.surf_cert.proofs.Common.{ℕ, sym, ap, ◌∙◌, subst, arith, false, position, position-Some}
use Rattle.surf_class.proofs.Common.{IsOddFace}
use Rattle.surf_class.proofs.Checking.{odd_face_at, odd_right, odd_wrong}
use Rattle.surf_class.proofs.check.check_pairs.Goals as goal

pub overflow_cast-f : goal.overflow_cast-f
overflow_cast-f c =
    let found = position-Some (λ b. b) c.in_ok-odd.odd.items c.in-Some-first_flagged.f false
    (ap (position (λ b. b)) (sym c.deref.ensures.value) ∙ sym c.in-Some-first_flagged.ensures.face) in
    omega (arith, found.0, c.in_ok-odd.ensures.flags.count, c.law_of_surface.ensures.faces)

pub returns-in-Some-first_flagged-clause-fault : goal.returns-in-Some-first_flagged-clause-fault
returns-in-Some-first_flagged-clause-fault c = λ chain are.
    let mesh = c.args.flagged.now.mesh.now in
    subst (λ (n : ℕ). IsOddFace mesh c.args.list.now n) (sym c.new.ensures)
    (odd_face_at mesh c.law_of_surface.ensures.surface chain c.args.flagged.now.flags.now are c.args.list.now c.in_default.ensures.pair
    c.in_ok-odd.odd.items c.in_ok-odd.ensures.flags c.in-Some-first_flagged.f
    (ap (position (λ b. b)) (sym c.deref.ensures.value) ∙ sym c.in-Some-first_flagged.ensures.face))

pub returns-then-is_odd-clause-right : goal.returns-then-is_odd-clause-right
returns-then-is_odd-clause-right c = λ chain are.
    let mesh = c.args.flagged.now.mesh.now in
    odd_right mesh c.law_of_surface.ensures.surface chain c.args.flagged.now.flags.now are c.args.list.now c.in_default.ensures.pair
    c.in_ok-odd.odd.items c.in_ok-odd.ensures.flags c.law_of_pairs.ensures.rises
    (ap (position (λ b. b)) (sym c.deref.ensures.value) ∙ sym c.in_default-first_flagged.ensures.face) (sym c.if-is_odd.ensures.odd)

pub returns-clause-fault : goal.returns-clause-fault
returns-clause-fault c = λ chain are.
    let mesh = c.args.flagged.now.mesh.now in
    odd_wrong mesh c.law_of_surface.ensures.surface chain c.args.flagged.now.flags.now are c.args.list.now c.in_default.ensures.pair
    c.in_ok-odd.odd.items c.in_ok-odd.ensures.flags
    (ap (position (λ b. b)) (sym c.deref.ensures.value) ∙ sym c.in_default-first_flagged.ensures.face) (sym c.if-is_odd.ensures.odd)
