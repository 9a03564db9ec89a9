use Rattle.surf_search.proofs.Common.{◌<◌, All, sym, subst, IfOk, IsSurface, ArePositive, lengths_positive, SurfaceTables, IsFirstAmong}
use Rattle.surf_finder.proofs.Signed.{signs_long}
use Rattle.surf_search.proofs.first_loops.first_among.Goals as goal

pub make-requires-clause-signatures : goal.make-requires-clause-signatures
make-requires-clause-signatures c =
    signs_long c.args.surface.now.mesh.now c.args.surface.now.signatures.now c.requires.signed.0 c.requires.signed.1

pub returns-then-is_some : goal.returns-then-is_some
returns-then-is_some c = record {
  first = subst (λ (g : SurfaceTables). IfOk c.first_found.result (IsFirstAmong g.mesh g.lengths g.signs c.args.vertices.now))
      c.in_ok-finder.ensures.made c.first_found.ensures.first;
}
