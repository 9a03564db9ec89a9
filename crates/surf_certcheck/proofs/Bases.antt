-- Conditions that hold below a bound, and the first fault over all bases.
use Rattle.surf_treecheck.proofs.Common.{◌≡◌, ℕ, ◌<◌, ◌+◌, List, Bool, true, false, eqb, eq-eqb, sym, ◌∙◌, subst, arith, inl, inr, MatchBool, cases_eq, eqb-true, false≢true, Mesh, edge_count, BasisCert, IsCovered, HoldsBelow, FailsFirst, IsFirstAt}

-- the loops of all edges through the tree at a base are sums of cycles that are no longer
abbrev pub AreCovered : Mesh → List ℕ → BasisCert → ℕ → Type 0
AreCovered mesh lengths cert x = HoldsBelow (edge_count mesh) (IsCovered mesh lengths cert x)

-- where it holds at all bases before
pub first_at : (bases n : ℕ) (P : ℕ → ℕ → Type 0) (x k : ℕ) → x < bases → HoldsBelow x (λ y. HoldsBelow n (P y)) →
    FailsFirst n (P x) k → IsFirstAt bases n P x k
first_at bases n P x k l before first = record {
  base = record { below = l; fails = λ all. first.fails (all k first.below); before = before };
  number = first;
}

-- at one number more
pub holds_more : (n : ℕ) (P : ℕ → Type 0) → HoldsBelow n P → P n → HoldsBelow (n + 1) P
holds_more n P before here k l = elim (cases_eq k n) [
  | inl same ↦ subst P (sym same) here
  | inr ne ↦ before k (omega (arith, l, ne))
]

-- what a test of two numbers tells of two that are the same
pub same_tells : (r : Bool) (a b u v : ℕ) → r ≡ eqb a b → a ≡ u → b ≡ v → MatchBool r (u ≡ v) (u ≡ v → ⊥)
same_tells true a b u v e is_a is_b = sym is_a ∙ eqb-true a b (sym e) ∙ is_b
same_tells false a b u v e is_a is_b = λ same. false≢true (e ∙ eq-eqb a b (is_a ∙ same ∙ sym is_b))

-- at a number that is called otherwise
pub failed_at : (n : ℕ) (P : ℕ → Type 0) (k j : ℕ) → j ≡ k → k < n → HoldsBelow k P → (P j → ⊥) → FailsFirst n P j
failed_at n P k j same l before fails = record {
  below = subst (λ i. i < n) (sym same) l;
  fails = fails;
  before = subst (λ i. HoldsBelow i P) (sym same) before;
}
