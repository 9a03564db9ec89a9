-- The fault of a certificate of a basis is its first one, so there is one, and a valid certificate has none.
use Rattle.surf_treecheck.proofs.Common.{◌≡◌, ◌≢◌, ℕ, zero, suc, List, [], length, refl, sym, ap, subst, ◌∙◌, Mesh, face_count, edge_count, ends, BasisCert, IsDualValid, IsDivided, HasDualRows, tree_at, HasBasisShape, IsCovered, IsValidBasis, HasTrees, HasCounts, HoldsBelow, FailsFirst, HasDual, HasBase, IsBasisShapeFault, FirstPart, IsFirstAt, HasParentAt, HasDistanceAt, IsNoShortCutAt, HasParents, HasDistances}
use Rattle.surf_certcheck.proofs.Common.{IsCycleClosed, IsIndependentAt, DependsFirst, AreTreesDivided, IsBasisFault, CertPart, Vertices, Faces, Loops, Base, CertFault, Shape, Parent, Distance, Slack, Dual, Heavier, NotClosed, Dependent, Uncovered, Memory}
use Rattle.surf_treecheck.specs.declared.fault.CertFault.TheVariants.{Split}
use Rattle.surf_treecheck.proofs.ShortCuts.{HasNoShortCut}
use Rattle.surf_certcheck.proofs.Bases.{AreCovered}
use Rattle.surf_treecheck.proofs.FirstFault.{first_same, first_part_same, kind, Passed, AreSingle, one_fault}
use Rattle.surf_certcheck.proofs.LoopFaults.{bad_pair_fails}
use Rattle.surf_certcheck.proofs.OneFault.{bad_pair_same}

-- ---- conditions at each base

-- the least base and the least number there are one
first_at_same : (bases n : ℕ) (P : ℕ → ℕ → Type 0) (x k y j : ℕ) → IsFirstAt bases n P x k → IsFirstAt bases n P y j →
    (x ≡ y) × (k ≡ j)
first_at_same bases n P x k y j a b =
    let base = first_same bases (λ z. HoldsBelow n (P z)) x y a.base b.base in
    (base, first_same n (P y) k j (subst (λ z. FailsFirst n (P z) k) base a.number) b.number)

first_at_fails : (bases n : ℕ) (P : ℕ → ℕ → Type 0) (x k : ℕ) → IsFirstAt bases n P x k →
    HoldsBelow bases (λ y. HoldsBelow n (P y)) → ⊥
first_at_fails bases n P x k is holds = is.number.fails (holds x is.base.below k is.number.below)

module _ (mesh : Mesh) (lengths : List ℕ) (cert : BasisCert) where
  shape_fails : (part : CertPart) → IsBasisShapeFault mesh cert part → HasBasisShape mesh cert → ⊥
  shape_fails Vertices is shape = is shape.vertices
  shape_fails Faces is shape = is.1 shape.faces
  shape_fails Loops is shape = is.2 shape.loops
  shape_fails Base is shape = is.3 shape.bases

  -- ---- the kinds

  -- the condition of each kind
  abbrev Holds : ℕ → Type 0
  Holds zero = HasBasisShape mesh cert
  Holds (suc zero) = HoldsBelow mesh.vertices (HasParents mesh cert)
  Holds (suc (suc zero)) = HoldsBelow mesh.vertices (HasDistances mesh lengths cert)
  Holds (suc (suc (suc zero))) = HoldsBelow mesh.vertices (HasNoShortCut mesh lengths cert)
  Holds (suc (suc (suc (suc zero)))) = IsDualValid mesh cert.dual
  Holds (suc (suc (suc (suc (suc zero))))) = IsDivided mesh (tree_at cert 0) cert.dual cert.left
  Holds (suc (suc (suc (suc (suc (suc zero)))))) = Unit {0}
  Holds (suc (suc (suc (suc (suc (suc (suc zero))))))) = HoldsBelow (length cert.cycles) (IsCycleClosed mesh cert)
  Holds (suc (suc (suc (suc (suc (suc (suc (suc zero)))))))) = HoldsBelow (length cert.cycles) (IsIndependentAt mesh cert)
  Holds (suc (suc (suc (suc (suc (suc (suc (suc (suc zero))))))))) = HoldsBelow mesh.vertices (AreCovered mesh lengths cert)
  Holds (suc (suc (suc (suc (suc (suc (suc (suc (suc (suc k)))))))))) = Unit {0}

  divided_passed : AreTreesDivided mesh lengths cert → Passed Holds 7
  divided_passed is = (
    (
      (
        (
          (
            (
              (tt, is.shape),
              λ x l. (is.trees x l).parents,
            ),
            λ x l. (is.trees x l).distances,
          ),
          λ x l. (is.trees x l).slack,
        ),
        is.dual,
      ),
      is.divided,
    ),
    tt,
  )

  passed : (fault : CertFault) → fault ≢ Memory → IsBasisFault mesh lengths cert fault → Passed Holds (kind fault)
  passed (Shape part) ne is = tt
  passed (Parent base v) ne is = (tt, is.0)
  passed (Distance base v) ne is = ((tt, is.0), is.1.0)
  passed (Slack base u v) ne is = (((tt, is.0), is.1.0), is.1.1)
  passed (Dual face) ne is =
      ((((tt, is.0), λ x l. (is.1 x l).parents), λ x l. (is.1 x l).distances), λ x l. (is.1 x l).slack)
  passed (Split u v) ne is =
      (((((tt, is.0), λ x l. (is.1 x l).parents), λ x l. (is.1 x l).distances), λ x l. (is.1 x l).slack), is.2)
  passed (Heavier left cotree) ne is = absurd is.1
  passed (NotClosed place) ne is = divided_passed is.0
  passed (Dependent place) ne is = (divided_passed is.0, is.1)
  passed (Uncovered base u v) ne is = ((divided_passed is.0, is.1), is.2)
  passed Memory ne is = absurd (ne refl)

  fails : (fault : CertFault) → fault ≢ Memory → IsBasisFault mesh lengths cert fault → Holds (kind fault) → ⊥
  fails (Shape part) ne is holds = shape_fails part is holds
  fails (Parent base v) ne is holds =
      first_at_fails mesh.vertices mesh.vertices (HasParentAt mesh cert) base v is.1 holds
  fails (Distance base v) ne is holds =
      first_at_fails mesh.vertices mesh.vertices (HasDistanceAt mesh lengths cert) base v is.1.1 holds
  fails (Slack base u v) ne is holds =
      let (e, same, first) = is.1.2 in
      first_at_fails mesh.vertices (edge_count mesh) (IsNoShortCutAt mesh lengths cert) base e first holds
  fails (Dual face) ne is holds = is.2.fails (holds face is.2.below)
  fails (Split u v) ne is holds = bad_pair_fails mesh (tree_at cert 0) cert.dual cert.left (u, v) is.3.bad holds
  fails (Heavier left cotree) ne is holds = is.1
  fails (NotClosed place) ne is holds = is.1.fails (holds place is.1.below)
  fails (Dependent place) ne is holds = holds place is.2.below is.2.depends
  fails (Uncovered base u v) ne is holds =
      let (e, same, first) = is.3 in
      first_at_fails mesh.vertices (edge_count mesh) (IsCovered mesh lengths cert) base e first holds
  fails Memory ne is holds = ne refl

  -- ---- one fault

  -- the least base and the least edge there give one fault
  edge_same : (x u v y w z : ℕ) (P : ℕ → ℕ → Type 0) (fault : ℕ → ℕ → ℕ → CertFault) →
      ((e : ℕ) × (ends mesh e ≡ (u, v)) × IsFirstAt mesh.vertices (edge_count mesh) P x e) →
      ((e : ℕ) × (ends mesh e ≡ (w, z)) × IsFirstAt mesh.vertices (edge_count mesh) P y e) → fault x u v ≡ fault y w z
  edge_same x u v y w z P fault (e, ends_e, first_e) (h, ends_h, first_h) =
      let same = first_at_same mesh.vertices (edge_count mesh) P x e y h first_e first_h in
      let pair : (u, v) ≡ (w, z) = sym ends_e ∙ ap (ends mesh) same.1 ∙ ends_h in
      ap (λ (n : ℕ). fault n u v) same.0 ∙ ap (λ (p : ℕ × ℕ). fault y p.0 p.1) pair

  vertex_same : (x v y w : ℕ) (P : ℕ → ℕ → Type 0) (fault : ℕ → ℕ → CertFault) →
      IsFirstAt mesh.vertices mesh.vertices P x v → IsFirstAt mesh.vertices mesh.vertices P y w → fault x v ≡ fault y w
  vertex_same x v y w P fault a b =
      let same = first_at_same mesh.vertices mesh.vertices P x v y w a b in
      ap (λ (n : ℕ). fault n v) same.0 ∙ ap (fault y) same.1

  depends_fails : (k : ℕ) → DependsFirst mesh cert k → FailsFirst (length cert.cycles) (IsIndependentAt mesh cert) k
  depends_fails k is = record { below = is.below; fails = λ free. free is.depends; before = is.before }

  single : AreSingle (IsBasisFault mesh lengths cert)
  single = record {
    shapes = λ p q a b. ap Shape (first_part_same (HasTrees mesh cert) (HasDualRows mesh cert.dual) (HasCounts mesh cert)
        (HoldsBelow mesh.vertices (HasBase cert)) p q a b);
    parents = λ x v y w a b. vertex_same x v y w (HasParentAt mesh cert) Parent a.1 b.1;
    distances = λ x v y w a b. vertex_same x v y w (HasDistanceAt mesh lengths cert) Distance a.1.1 b.1.1;
    slacks = λ x u v y w z a b. edge_same x u v y w z (IsNoShortCutAt mesh lengths cert) Slack a.1.2 b.1.2;
    duals = λ f g a b. ap Dual (first_same (face_count mesh) (HasDual mesh cert.dual) f g a.2 b.2);
    splits = λ u v w z a b. ap (λ (p : ℕ × ℕ). Split p.0 p.1)
        (bad_pair_same mesh (tree_at cert 0) cert.dual cert.left (u, v) (w, z) a.3 b.3);
    heavier = λ l c m d a b. absurd a.1;
    not_closed = λ j k a b. ap NotClosed (first_same (length cert.cycles) (IsCycleClosed mesh cert) j k a.1 b.1);
    dependent = λ j k a b. ap Dependent (first_same (length cert.cycles) (IsIndependentAt mesh cert) j k
        (depends_fails j a.2) (depends_fails k b.2));
    uncovered = λ x u v y w z a b. edge_same x u v y w z (IsCovered mesh lengths cert) Uncovered a.3 b.3;
  }

  -- a certificate of a basis has one fault
  pub one_basis_fault : (a b : CertFault) → IsBasisFault mesh lengths cert a → IsBasisFault mesh lengths cert b →
      a ≢ Memory → b ≢ Memory → a ≡ b
  one_basis_fault = one_fault Holds (IsBasisFault mesh lengths cert) (record { passed = passed; fails = fails }) single

  -- ---- validity

  all_hold : IsValidBasis mesh lengths cert → (k : ℕ) → Holds k
  all_hold valid zero = valid.shape
  all_hold valid (suc zero) = λ x l. (valid.trees x l).parents
  all_hold valid (suc (suc zero)) = λ x l. (valid.trees x l).distances
  all_hold valid (suc (suc (suc zero))) = λ x l. (valid.trees x l).slack
  all_hold valid (suc (suc (suc (suc zero)))) = valid.dual
  all_hold valid (suc (suc (suc (suc (suc zero))))) = valid.divided
  all_hold valid (suc (suc (suc (suc (suc (suc zero)))))) = tt
  all_hold valid (suc (suc (suc (suc (suc (suc (suc zero))))))) = λ k l. valid.closed k [] l
  all_hold valid (suc (suc (suc (suc (suc (suc (suc (suc zero)))))))) = valid.independent
  all_hold valid (suc (suc (suc (suc (suc (suc (suc (suc (suc zero))))))))) = λ x l e e_in. valid.covered x e l e_in
  all_hold valid (suc (suc (suc (suc (suc (suc (suc (suc (suc (suc k)))))))))) = tt

  -- a valid certificate has no fault
  pub no_basis_fault : IsValidBasis mesh lengths cert → (fault : CertFault) → fault ≢ Memory →
      IsBasisFault mesh lengths cert fault → ⊥
  no_basis_fault valid fault ne is = fails fault ne is (all_hold valid (kind fault))
