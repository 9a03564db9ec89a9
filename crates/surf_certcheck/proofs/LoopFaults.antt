-- The fault of a certificate of loops is its first one, and one with a fault isn't valid.
use Rattle.surf_treecheck.proofs.Common.{◌≢◌, ℕ, zero, suc, List, get_or, refl, sym, ap, inl, inr, ◌∙◌, true≢false, Mesh, pair_of, pair_eq, edges, among, edge_count, pair_eq-true, among-contains, list_any_at, TreeRows, DualRows, LoopCert, HasShape, IsNoShortCut, IsDualValid, IsDivided, HasNoShorter, IsValidLoops, HoldsBelow, HasParent, HasDistance, IsBadPair, IsShapeFault}
use Rattle.surf_certcheck.proofs.Common.{IsLoopFault, CertPart, Vertices, Faces, Loops, Base, CertFault, Shape, Parent, Distance, Slack, Dual, Heavier, NotClosed, Dependent, Uncovered, Memory}
use Rattle.surf_treecheck.specs.declared.fault.CertFault.TheVariants.{Split}
use Rattle.surf_treecheck.proofs.FirstFault.{kind, Passed, AreFirst}

-- a pair keeps the trees and the list from dividing the edges
pub bad_pair_fails : (mesh : Mesh) (rows : TreeRows) (dual : DualRows) (left : List (ℕ × ℕ)) (p : ℕ × ℕ) →
    IsBadPair mesh rows dual left p → IsDivided mesh rows dual left → ⊥
bad_pair_fails mesh rows dual left p (inl stray) divided =
    let (k, l, same) = list_any_at (λ q. pair_eq p (pair_of q)) left (0, 0) stray.0 in
    let there = among-contains (pair_of (get_or left k (0, 0))) (edges mesh) (divided.are_edges k (0, 0) l) in
    true≢false (sym there
    ∙ ap (λ q. among q (edges mesh)) (sym (pair_eq-true p (pair_of (get_or left k (0, 0))) same)) ∙ stray.1)
bad_pair_fails mesh rows dual left p (inr (e, l, same, out)) divided = out (divided.divided e l)

module _ (mesh : Mesh) (lengths : List ℕ) (cert : LoopCert) where
  shape_fails : (part : CertPart) → IsShapeFault mesh cert part → HasShape mesh cert → ⊥
  shape_fails Vertices is shape = is shape.vertices
  shape_fails Faces is shape = is.1 shape.faces
  shape_fails Loops is shape = is.2 shape.loops
  shape_fails Base is shape = is.3 shape.base

  -- ---- the kinds

  -- the condition of each kind
  abbrev pub Holds : ℕ → Type 0
  Holds zero = HasShape mesh cert
  Holds (suc zero) = HoldsBelow mesh.vertices (HasParent mesh cert.tree)
  Holds (suc (suc zero)) = HoldsBelow mesh.vertices (HasDistance mesh lengths cert.tree)
  Holds (suc (suc (suc zero))) = HoldsBelow (edge_count mesh) (IsNoShortCut mesh lengths cert.tree)
  Holds (suc (suc (suc (suc zero)))) = IsDualValid mesh cert.dual
  Holds (suc (suc (suc (suc (suc zero))))) = IsDivided mesh cert.tree cert.dual cert.left
  Holds (suc (suc (suc (suc (suc (suc zero)))))) = HoldsBelow (edge_count mesh) (HasNoShorter mesh lengths cert)
  Holds (suc (suc (suc (suc (suc (suc (suc k))))))) = Unit {0}

  passed : (fault : CertFault) → fault ≢ Memory → IsLoopFault mesh lengths cert fault → Passed Holds (kind fault)
  passed (Shape part) ne is = tt
  passed (Parent base v) ne is = (tt, is.0)
  passed (Distance base v) ne is = ((tt, is.0), is.1.1)
  passed (Slack base u v) ne is = (((tt, is.0), is.1.1), is.1.2)
  passed (Dual face) ne is = ((((tt, is.0), is.1.parents), is.1.distances), is.1.slack)
  passed (Split u v) ne is = (((((tt, is.0), is.1.parents), is.1.distances), is.1.slack), is.2)
  passed (Heavier left cotree) ne is = ((((((tt, is.0), is.1.parents), is.1.distances), is.1.slack), is.2), is.3)
  passed (NotClosed place) ne is = absurd is.1
  passed (Dependent place) ne is = absurd is.1
  passed (Uncovered base u v) ne is = absurd is.1
  passed Memory ne is = absurd (ne refl)

  fails : (fault : CertFault) → fault ≢ Memory → IsLoopFault mesh lengths cert fault → Holds (kind fault) → ⊥
  fails (Shape part) ne is holds = shape_fails part is holds
  fails (Parent base v) ne is holds = is.1.1.fails (holds v is.1.1.below)
  fails (Distance base v) ne is holds = is.1.2.fails (holds v is.1.2.below)
  fails (Slack base u v) ne is holds = let (e, same, first) = is.1.3 in first.fails (holds e first.below)
  fails (Dual face) ne is holds = is.2.fails (holds face is.2.below)
  fails (Split u v) ne is holds = bad_pair_fails mesh cert.tree cert.dual cert.left (u, v) is.3.bad holds
  fails (Heavier left cotree) ne is holds =
      let (l, c, same, other, are) = is.4 in are.left.fails (holds l are.left.below)
  fails (NotClosed place) ne is holds = is.1
  fails (Dependent place) ne is holds = is.1
  fails (Uncovered base u v) ne is holds = is.1
  fails Memory ne is holds = ne refl

  pub loop_faults_are_first : AreFirst Holds (IsLoopFault mesh lengths cert)
  loop_faults_are_first = record { passed = passed; fails = fails }

  -- ---- validity

  all_hold : IsValidLoops mesh lengths cert → (k : ℕ) → Holds k
  all_hold valid zero = valid.shape
  all_hold valid (suc zero) = valid.tree.parents
  all_hold valid (suc (suc zero)) = valid.tree.distances
  all_hold valid (suc (suc (suc zero))) = valid.tree.slack
  all_hold valid (suc (suc (suc (suc zero)))) = valid.dual
  all_hold valid (suc (suc (suc (suc (suc zero))))) = valid.divided
  all_hold valid (suc (suc (suc (suc (suc (suc zero)))))) = valid.heaviest
  all_hold valid (suc (suc (suc (suc (suc (suc (suc k))))))) = tt

  pub no_loop_fault : IsValidLoops mesh lengths cert → (fault : CertFault) → fault ≢ Memory →
      IsLoopFault mesh lengths cert fault → ⊥
  no_loop_fault valid fault ne is = fails fault ne is (all_hold valid (kind fault))
