use Rattle.surf_surfaces.proofs.Common.{◌+◌, refl, sym, ap, ◌∙◌, arith, owners}
use Rattle.surf_soup.proofs.HalfLaws.{face_of_side}
use Rattle.surf_soup.proofs.TurnedSides.{next_in, next_first}
use Rattle.surf_soup.proofs.darts.Darts.next_side.Goals as goal

pub returns-then-next-end : goal.returns-then-next-end
returns-then-next-end c =
    let mesh = c.args.self.now.mesh in
    let own = face_of_side mesh (owners 0 mesh.faces) c.args.side 0 refl c.requires in
    c.new.ensures ∙ ap (λ n. n + 1) c.number-next.ensures
    ∙ sym (next_in mesh c.args.side _ own
    (omega (arith, c.if-next-end.true, c.number-next.ensures, c.span_at-start.ensures.end)))

pub returns-else-next-end : goal.returns-else-next-end
returns-else-next-end c =
    let mesh = c.args.self.now.mesh in
    let own = face_of_side mesh (owners 0 mesh.faces) c.args.side 0 refl c.requires in
    c.new-else-next-end.ensures ∙ c.span_at-start.ensures.start
    ∙ sym (next_first mesh c.args.side _ own
    (omega (arith, c.if-next-end.false, c.number-next.ensures, c.span_at-start.ensures.end)))
