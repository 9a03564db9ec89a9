use Rattle.surf_surfaces.proofs.Common.{◌≡◌, Bool, List, length, get_or, sym, ap, ◌∙◌, subst, arith, Option, Some, None, face_count}
use Rattle.surf_class.specs.Sides.{AreAllSidesOf, AreSidesOf}
use Rattle.surf_class.proofs.Lists.{restored}
use Rattle.surf_class.proofs.FaceSides.{all_known}
use Rattle.surf_class.proofs.sides.all_sides.Goals as goal

pub returns-clause-sides : goal.returns-clause-sides
returns-clause-sides c = λ set parted.
    let mesh = c.args.flagged.now.mesh.now in
    let new = c.note_all.new.sides in
    let size : length new ≡ face_count mesh = omega (arith, c.note_all.auto.sides, c.deref_mut.ensures.len, c.in_ok-sides.ensures.count, c.faces.ensures.count) in
    let none : AreSidesOf set c.deref_mut.result.now =
    λ f s l is. absurd (let none = c.in_ok-sides.ensures.none f None (omega (arith, l, c.deref_mut.ensures.len, c.in_ok-sides.ensures.count)) in
    let known : get_or c.in_ok-sides.sides.items f None ≡ Some s = ap (λ xs. get_or xs f None) (sym c.deref_mut.ensures.value) ∙ is in cc) in
    let all : AreAllSidesOf set new = λ f l. all_known set new f (c.note_all.ensures.right set parted none) l (c.note_all.ensures.known f (omega (arith, l, size))) in
    subst (λ (xs : List (Option Bool)). AreAllSidesOf set xs) (sym (restored _ _ _ (omega (arith, size, c.in_ok-sides.ensures.count, c.faces.ensures.count)))) all
