use Rattle.surf_basis.proofs.Common.{◌<◌, All, sym, ◌∙◌, subst, HavePlacesOfBasis, signs_long}
use Rattle.surf_basis.proofs.basis.basis_over.Goals as goal

pub make-requires-clause-signatures : goal.make-requires-clause-signatures
make-requires-clause-signatures c =
    signs_long c.args.surface.now.mesh.now c.args.surface.now.signatures.now c.args.count c.requires.signed

pub basis_from-requires-clause-finder : goal.basis_from-requires-clause-finder
basis_from-requires-clause-finder c = c.sufficient_loops.ensures.same ∙ c.in_ok-finder.ensures.made

pub basis_from-requires-clause-inside : goal.basis_from-requires-clause-inside
basis_from-requires-clause-inside c =
    subst (λ ks. All (λ k. k.candidate.base < c.args.surface.now.mesh.now.vertices) ks) (sym c.kept.ensures.kept) c.in_ok-search.ensures.inside

pub basis_from-requires-clause-places : goal.basis_from-requires-clause-places
basis_from-requires-clause-places c =
    subst (HavePlacesOfBasis c.args.surface.now.mesh.now c.args.surface.now.lengths.now) (sym c.kept.ensures.kept) c.in_ok-search.ensures.places
