use Rattle.surf_answers.proofs.TextsAt.{mesh_failed, surface_taken}
use Rattle.surf_answers.proofs.reading.kind_at.Goals as goal

pub returns-in_err-soup-clause-tells : goal.returns-in_err-soup-clause-tells
returns-in_err-soup-clause-tells g c =
    mesh_failed _ _ (g.S.Shelf.holds c.args.shelf.now) c.args.name.now c.in_err-soup.field-0.0 c.in_err-soup.ensures.tells
    c.from_residual.result c.from_residual.ensures.1

pub returns-clause-tells : goal.returns-clause-tells
returns-clause-tells g c =
    let soup = c.in_ok-soup in
    surface_taken _ _ (g.S.Shelf.holds c.args.shelf.now) c.args.name.now soup.soup soup.ensures.tells c.kind_of.result
    c.kind_of.ensures
