-- A certificate has one fault.
use Rattle.surf_treecheck.proofs.Common.{◌≡◌, ◌≢◌, ℕ, ◌<◌, List, length, sym, ap, subst, inl, inr, ◌∙◌, true≢false, cases_Bool, Mesh, pair_eq, edge_count, ends, IsLoopCount, pair_eq-true, pair_lt-total, TreeRows, DualRows, LoopCert, IsNoShortCut, HasNoShorter, IsNotHeavier, HasTreeRows, HasDualRows, FailsFirst, HasParent, HasDistance, HasDual, IsLeastBadPair, IsShapeFault, FirstPart}
use Rattle.surf_certcheck.proofs.Common.{IsHeavierFault, IsLoopFault, CertPart, Vertices, Faces, Loops, Base, CertFault, Shape, Parent, Distance, Slack, Dual, Heavier, Memory}
use Rattle.surf_treecheck.specs.declared.fault.CertFault.TheVariants.{Split}
use Rattle.surf_treecheck.proofs.FirstFault.{first_same, first_part_same, AreSingle, one_fault}
use Rattle.surf_certcheck.proofs.LoopFaults.{Holds, loop_faults_are_first}

-- the least such pair is one
pub bad_pair_same : (mesh : Mesh) (rows : TreeRows) (dual : DualRows) (left : List (ℕ × ℕ)) (p q : ℕ × ℕ) →
    IsLeastBadPair mesh rows dual left p → IsLeastBadPair mesh rows dual left q → p ≡ q
bad_pair_same mesh rows dual left p q a b = elim (cases_Bool (pair_eq p q)) [
  | inl same ↦ pair_eq-true p q same
  | inr differ ↦ absurd (true≢false (sym (pair_lt-total p q (b.least p a.bad) differ) ∙ a.least q b.bad))
]

-- the ends of the first edge at which a condition fails are one pair
pub ends_same : (mesh : Mesh) (p q : ℕ × ℕ) (e h : ℕ) (P : ℕ → Type 0) → ends mesh e ≡ p → ends mesh h ≡ q →
    FailsFirst (edge_count mesh) P e → FailsFirst (edge_count mesh) P h → p ≡ q
ends_same mesh p q e h P a b x y = sym a ∙ ap (ends mesh) (first_same (edge_count mesh) P e h x y) ∙ b

module _ (mesh : Mesh) (lengths : List ℕ) (cert : LoopCert) where
  tree_same : (base other v w : ℕ) (P : ℕ → Type 0) (fault : ℕ → ℕ → CertFault) → base ≡ cert.tree.base →
      other ≡ cert.tree.base → FailsFirst mesh.vertices P v → FailsFirst mesh.vertices P w → fault base v ≡ fault other w
  tree_same base other v w P fault a b x y =
      ap (λ (n : ℕ). fault n v) (a ∙ sym b) ∙ ap (fault other) (first_same mesh.vertices P v w x y)

  single : AreSingle (IsLoopFault mesh lengths cert)
  single = record {
    shapes = λ p q a b. ap Shape (first_part_same (HasTreeRows mesh cert.tree) (HasDualRows mesh cert.dual)
        (IsLoopCount mesh (length cert.left)) (cert.tree.base < mesh.vertices) p q a b);
    parents = λ x v y w a b. tree_same x y v w (HasParent mesh cert.tree) Parent a.1.0 b.1.0 a.1.1 b.1.1;
    distances = λ x v y w a b. tree_same x y v w (HasDistance mesh lengths cert.tree) Distance a.1.0 b.1.0 a.1.2 b.1.2;
    slacks = λ x u v y w z a b.
        let (e, ends_e, first_e) = a.1.3 in
        let (h, ends_h, first_h) = b.1.3 in
        let same = ends_same mesh (u, v) (w, z) e h (IsNoShortCut mesh lengths cert.tree) ends_e ends_h first_e first_h in
        ap (λ (n : ℕ). Slack n u v) (a.1.0 ∙ sym b.1.0) ∙ ap (λ (p : ℕ × ℕ). Slack y p.0 p.1) same;
    duals = λ f g a b. ap Dual (first_same _ (HasDual mesh cert.dual) f g a.2 b.2);
    splits = λ u v w z a b. ap (λ (p : ℕ × ℕ). Split p.0 p.1)
        (bad_pair_same mesh cert.tree cert.dual cert.left (u, v) (w, z) a.3 b.3);
    heavier = λ l c m d a b. heavier_same l c m d a.4 b.4;
    not_closed = λ j k a b. absurd a.1;
    dependent = λ j k a b. absurd a.1;
    uncovered = λ x u v y w z a b. absurd a.1;
  }
    where
      heavier_same : (l c m d : ℕ × ℕ) → IsHeavierFault mesh lengths cert (Heavier l c) →
          IsHeavierFault mesh lengths cert (Heavier m d) → Heavier l c ≡ Heavier m d
      heavier_same l c m d (e, f, ends_e, ends_f, a) (g, h, ends_g, ends_h, b) =
          let first = first_same (edge_count mesh) (HasNoShorter mesh lengths cert) e g a.left b.left in
          let left : l ≡ m = sym ends_e ∙ ap (ends mesh) first ∙ ends_g in
          let dual = subst (λ n. FailsFirst (edge_count mesh) (IsNotHeavier mesh lengths cert n) f) first a.dual in
          let cotree = ends_same mesh c d f h (IsNotHeavier mesh lengths cert g) ends_f ends_h dual b.dual in
          ap (λ (p : ℕ × ℕ). Heavier p c) left ∙ ap (Heavier m) cotree

  -- a certificate of loops has one fault
  pub one_loop_fault : (a b : CertFault) → IsLoopFault mesh lengths cert a → IsLoopFault mesh lengths cert b →
      a ≢ Memory → b ≢ Memory → a ≡ b
  one_loop_fault =
      one_fault (Holds mesh lengths cert) (IsLoopFault mesh lengths cert) (loop_faults_are_first mesh lengths cert) single
