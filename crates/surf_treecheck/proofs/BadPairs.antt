-- The least pair that keeps the trees and the list from dividing the edges.
use Rattle.surf_treecheck.proofs.Common.{◌≡◌, ℕ, ◌<◌, ◌≤◌, Bool, true, false, List, get_or, refl, sym, ap, ◌∙◌, arith, inl, inr, Option, Some, None, cases_Bool, cases_eq, cases_lt, true≢false, false_from_ne_true, lt-ltb, Mesh, pair, pair_of, pair_eq, pair_lt, edges, among, edge_count, ends, IsSurface, MatchOption, pair_eq-same, pair_eq-true, pair_lt-trans, pair_lt-total, pair_lt-irreflexive, contains_from_among, edges-rise, rising_at, list_any_from, ends_below, TreeRows, DualRows, IsDivided, HoldsBelow, FailsFirst, AreMarks, AreOne, IsInOne, IsStray, IsLeastStray, IsUndivided, IsBadPair, IsLeastBadPair, lesser_of}

-- a later edge is not less
later_edge : (mesh : Mesh) (e h : ℕ) → e ≤ h → h < edge_count mesh → pair_lt (ends mesh h) (ends mesh e) ≡ false
later_edge mesh e h le l = false_from_ne_true (pair_lt (ends mesh h) (ends mesh e)) (λ less. elim (cases_eq e h) [
  | inl same ↦ pair_lt-irreflexive (ends mesh h) (ends mesh e) less (ap (ends mesh) (sym same))
  | inr ne ↦
      let more = rising_at (edges mesh) (edges-rise mesh) e h (0, 0) (omega arith) l in
      pair_lt-irreflexive (ends mesh e) (ends mesh e)
      (pair_lt-trans (ends mesh e) (ends mesh h) (ends mesh e) more less) refl
])

module _ (mesh : Mesh) (rows : TreeRows) (dual : DualRows) (left : List (ℕ × ℕ)) (in_tree in_dual in_left : List Bool)
    (marks : AreMarks mesh rows dual left in_tree in_dual in_left) where
  one_from : (e : ℕ) → e < edge_count mesh → AreOne in_tree in_dual in_left e → IsInOne mesh rows dual left e
  one_from e l h = rw (marks.of_tree.each e l, marks.of_dual.each e l, marks.of_left.each e l) at h

  one_to : (e : ℕ) → e < edge_count mesh → IsInOne mesh rows dual left e → AreOne in_tree in_dual in_left e
  one_to e l h = rw (marks.of_tree.each e l, marks.of_dual.each e l, marks.of_left.each e l) h

  -- a pair of each kind, by the edges' flags
  no_undivided : HoldsBelow (edge_count mesh) (AreOne in_tree in_dual in_left) → (q : ℕ × ℕ) →
      IsUndivided mesh rows dual left q → ⊥
  no_undivided all q (e, l, same, out) = out (one_from e l (all e l))

  pub divided : HoldsBelow (edge_count mesh) (AreOne in_tree in_dual in_left) →
      ((q : ℕ × ℕ) → IsStray mesh left q → ⊥) → IsDivided mesh rows dual left
  divided all none = record {
    are_edges = λ k d l.
        let p = pair_of (get_or left k d) in
        elim (cases_Bool (among p (edges mesh))) [
          | inl there ↦ contains_from_among p (edges mesh) there
          | inr out ↦ absurd (none p (
            list_any_from (λ q. pair_eq p (pair_of q)) left d k l (pair_eq-same p p refl),
            out,
          ))
        ];
    divided = λ e l. one_from e l (all e l);
  }

  pub stray_alone : HoldsBelow (edge_count mesh) (AreOne in_tree in_dual in_left) → (p : ℕ × ℕ) →
      IsStray mesh left p × ((q : ℕ × ℕ) → IsStray mesh left q → pair_lt q p ≡ false) →
      IsLeastBadPair mesh rows dual left p
  stray_alone all p is = record {
    bad = inl is.0;
    least = λ q bad. elim bad [ inl stray ↦ is.1 q stray | inr other ↦ absurd (no_undivided all q other) ];
  }

  -- the first undivided edge comes before all others
  edge_first : (e : ℕ) → FailsFirst (edge_count mesh) (AreOne in_tree in_dual in_left) e → (q : ℕ × ℕ) →
      IsUndivided mesh rows dual left q → pair_lt q (ends mesh e) ≡ false
  edge_first e first q (h, l, same, out) = elim (cases_lt h e) [
    | inl before ↦ absurd (out (one_from h l (first.before h before)))
    | inr le ↦ ap (λ p. pair_lt p (ends mesh e)) (sym same) ∙ later_edge mesh e h le l
  ]

  edge_bad : (e : ℕ) → FailsFirst (edge_count mesh) (AreOne in_tree in_dual in_left) e →
      IsBadPair mesh rows dual left (ends mesh e)
  edge_bad e first = inr (e, first.below, refl, λ is. first.fails (one_to e first.below is))

  -- where neither of two pairs is less than a third
  not_less : (p q r : ℕ × ℕ) → pair_lt p q ≡ true → pair_lt r q ≡ false → pair_lt r p ≡ false
  not_less p q r less out = false_from_ne_true (pair_lt r p)
      (λ before. true≢false (sym (pair_lt-trans r p q before less) ∙ out))

  not_less_up : (p q r : ℕ × ℕ) → pair_lt p q ≡ false → pair_lt r p ≡ false → pair_lt r q ≡ false
  not_less_up p q r out no_less = false_from_ne_true (pair_lt r q) (λ less. elim (cases_Bool (pair_eq p q)) [
    | inl same ↦ true≢false (sym less ∙ ap (pair_lt r) (sym (pair_eq-true p q same)) ∙ no_less)
    | inr other ↦ true≢false (sym (pair_lt-trans r q p less (pair_lt-total p q out other)) ∙ no_less)
  ])

  pub stray_or_none : HoldsBelow (edge_count mesh) (AreOne in_tree in_dual in_left) → (o : Option (ℕ × ℕ)) →
      IsLeastStray mesh left o →
      MatchOption o (IsDivided mesh rows dual left) (IsLeastBadPair mesh rows dual left)
  stray_or_none all None none = divided all none
  stray_or_none all (Some p) is = stray_alone all p is

  pub edge_or_stray : (e : ℕ) → FailsFirst (edge_count mesh) (AreOne in_tree in_dual in_left) e →
      (o : Option (ℕ × ℕ)) → IsLeastStray mesh left o → IsLeastBadPair mesh rows dual left (lesser_of (ends mesh e) o)
  edge_or_stray e first None none = record {
    bad = edge_bad e first;
    least = λ q bad. elim bad [ inl stray ↦ absurd (none q stray) | inr other ↦ edge_first e first q other ];
  }
  edge_or_stray e first (Some p) is = elim (cases_Bool (pair_lt (ends mesh e) p)) [
    | inl less ↦ rw less (record {
      bad = edge_bad e first;
      least = λ q bad. elim bad [
        | inl stray ↦ not_less (ends mesh e) p q less (is.1 q stray)
        | inr other ↦ edge_first e first q other
      ];
    })
    | inr out ↦ rw out (record {
      bad = inl is.0;
      least = λ q bad. elim bad [
        | inl stray ↦ is.1 q stray
        | inr other ↦ not_less_up (ends mesh e) p q out (edge_first e first q other)
      ];
    })
  ]

-- an edge's ends are in order
pub ends_ordered : (mesh : Mesh) (e : ℕ) → IsSurface mesh → e < edge_count mesh →
    pair (ends mesh e).0 (ends mesh e).1 ≡ ends mesh e
ends_ordered mesh e surface l =
    rw (lt-ltb (ends mesh e).0 (ends mesh e).1 (ends_below mesh surface.is_mesh e l).0) refl
