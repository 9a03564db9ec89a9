use Rattle.surf_surfaces.proofs.Common.{◌-◌, refl, sym, ap, ◌∙◌, arith, owners}
use Rattle.surf_soup.proofs.HalfLaws.{face_of_side, spans}
use Rattle.surf_soup.proofs.TurnedSides.{before_in, before_last}
use Rattle.surf_soup.proofs.darts.Darts.side_before.Goals as goal

pub overflow_sub-end : goal.overflow_sub-end
overflow_sub-end c =
    let mesh = c.args.self.now.mesh in
    let own = face_of_side mesh (owners 0 mesh.faces) c.args.side 0 refl c.requires in
    omega (arith, own.upto, (spans mesh.faces _ own.is_face).0, c.span_at-start.ensures.end)

pub overflow_sub-number : goal.overflow_sub-number
overflow_sub-number c =
    let mesh = c.args.self.now.mesh in
    let own = face_of_side mesh (owners 0 mesh.faces) c.args.side 0 refl c.requires in
    omega (arith, own.from, c.if-number-start.false, c.number-number.ensures, c.span_at-start.ensures.start)

pub returns-then-number-start : goal.returns-then-number-start
returns-then-number-start c =
    let mesh = c.args.self.now.mesh in
    let own = face_of_side mesh (owners 0 mesh.faces) c.args.side 0 refl c.requires in
    c.new.ensures ∙ ap (λ n. n - 1) c.span_at-start.ensures.end
    ∙ sym (before_last mesh c.args.side _ own
    (omega (arith, c.if-number-start.true, c.number-number.ensures, c.span_at-start.ensures.start)))

pub returns-else-number-start : goal.returns-else-number-start
returns-else-number-start c =
    let mesh = c.args.self.now.mesh in
    let own = face_of_side mesh (owners 0 mesh.faces) c.args.side 0 refl c.requires in
    c.new-else-number-start.ensures ∙ ap (λ n. n - 1) c.number-number.ensures
    ∙ sym (before_in mesh c.args.side _ own
    (λ e. c.if-number-start.false (c.number-number.ensures ∙ e ∙ sym c.span_at-start.ensures.start)))
