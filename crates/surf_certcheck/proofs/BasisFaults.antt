-- A certificate of a basis with a fault isn't valid, and a valid one shows a least basis.
use Rattle.surf_treecheck.proofs.Common.{◌≡◌, ◌≢◌, ℕ, List, [], length, get_or, refl, sym, ap, ◌∙◌, subst, inl, inr, true≢false, get_or_default, Mesh, pair_of, pair_eq, edges, among, IsSurface, ArePositive, IfOk, IfErr, Result, Ok, Err, pair_eq-true, among-contains, list_any_at, BasisCert, tree_at, IsClosedList, IsValidBasis, basis_total, HoldsBelow, IsBadPair, IsBasisShapeFault}
use Rattle.surf_certcheck.proofs.Common.{IsCycleClosed, IsIndependentAt, AreTreesDivided, IsBasisFault, CertPart, Vertices, Faces, Loops, Base, CertFault, Shape, Parent, Distance, Slack, Dual, Heavier, NotClosed, Dependent, Uncovered, Memory}
use Rattle.surf_surfaces.specs.Homology.{total, IsLeastBasis}
use Rattle.surf_validity.proofs.BasisLaws.{valid_bases_are_least}
use Rattle.surf_treecheck.specs.declared.fault.CertFault.TheVariants.{Split}
use Rattle.surf_certcheck.proofs.Bases.{AreCovered}

-- all conditions together
pub basis_valid : (mesh : Mesh) (lengths : List ℕ) (cert : BasisCert) → AreTreesDivided mesh lengths cert →
    HoldsBelow (length cert.cycles) (IsCycleClosed mesh cert) →
    HoldsBelow (length cert.cycles) (IsIndependentAt mesh cert) →
    HoldsBelow mesh.vertices (AreCovered mesh lengths cert) → IsValidBasis mesh lengths cert
basis_valid mesh lengths cert a closed independent covered = record {
  shape = a.shape;
  trees = a.trees;
  dual = a.dual;
  divided = a.divided;
  closed = λ k d l. subst (IsClosedList mesh) (get_or_default cert.cycles k [] d l) (closed k l);
  independent = independent;
  covered = λ x e lx le. covered x lx e le;
}

module _ (mesh : Mesh) (lengths : List ℕ) (cert : BasisCert) (surface : IsSurface mesh)
    (valid : IsValidBasis mesh lengths cert) where
  no_shape_fault : (part : CertPart) → IsBasisShapeFault mesh cert part → ⊥
  no_shape_fault Vertices is = is valid.shape.vertices
  no_shape_fault Faces is = is.1 valid.shape.faces
  no_shape_fault Loops is = is.2 valid.shape.loops
  no_shape_fault Base is = is.3 valid.shape.bases

  no_bad_pair : (p : ℕ × ℕ) → IsBadPair mesh (tree_at cert 0) cert.dual cert.left p → ⊥
  no_bad_pair p (inl stray) =
      let (k, l, same) = list_any_at (λ q. pair_eq p (pair_of q)) cert.left (0, 0) stray.0 in
      let there = among-contains (pair_of (get_or cert.left k (0, 0))) (edges mesh)
      (valid.divided.are_edges k (0, 0) l) in
      true≢false (sym there
      ∙ ap (λ q. among q (edges mesh)) (sym (pair_eq-true p (pair_of (get_or cert.left k (0, 0))) same)) ∙ stray.1)
  no_bad_pair p (inr (e, l, same, out)) = out (valid.divided.divided e l)

  pub no_basis_fault : (fault : CertFault) → fault ≢ Memory → IsBasisFault mesh lengths cert fault → ⊥
  no_basis_fault (Shape part) ne is = no_shape_fault part is
  no_basis_fault (Parent base v) ne is =
      is.1.number.fails ((valid.trees base is.1.base.below).parents v is.1.number.below)
  no_basis_fault (Distance base v) ne is =
      is.1.1.number.fails ((valid.trees base is.1.1.base.below).distances v is.1.1.number.below)
  no_basis_fault (Slack base u v) ne is =
      let (e, same, first) = is.1.2 in
      first.number.fails ((valid.trees base first.base.below).slack e first.number.below)
  no_basis_fault (Dual face) ne is = is.2.fails (valid.dual face is.2.below)
  no_basis_fault (Split u v) ne is = no_bad_pair (u, v) is.3.bad
  no_basis_fault (Heavier left cotree) ne is = is.1
  no_basis_fault (NotClosed place) ne is = is.1.fails (valid.closed place [] is.1.below)
  no_basis_fault (Dependent place) ne is = valid.independent place is.2.below is.2.depends
  no_basis_fault (Uncovered base u v) ne is =
      let (e, same, first) = is.3 in
      first.number.fails (valid.covered base e first.base.below first.number.below)
  no_basis_fault Memory ne is = ne refl

pub least_where_ok : (mesh : Mesh) (lengths : List ℕ) (cert : BasisCert) → IsSurface mesh → ArePositive mesh lengths →
    (r : Result ℕ CertFault) →
    IfOk r (λ t. IsValidBasis mesh lengths cert × (t ≡ basis_total mesh lengths cert)) →
    IfOk r (λ t. IsLeastBasis mesh lengths cert.cycles × (t ≡ total mesh lengths cert.cycles))
least_where_ok mesh lengths cert surface positive (Ok t) is =
    (valid_bases_are_least mesh lengths cert surface positive is.0, is.1)
least_where_ok mesh lengths cert surface positive (Err e) is = tt

pub none_where_err : (mesh : Mesh) (lengths : List ℕ) (cert : BasisCert) → IsSurface mesh → (r : Result ℕ CertFault) →
    IfErr r (IsBasisFault mesh lengths cert) → IfErr r (λ e. e ≢ Memory → IsValidBasis mesh lengths cert → ⊥)
none_where_err mesh lengths cert surface (Ok t) is = tt
none_where_err mesh lengths cert surface (Err e) is = λ ne valid. no_basis_fault mesh lengths cert surface valid e ne is
