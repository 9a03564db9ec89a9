-- The least of the listed pairs that are no edges.
use Rattle.surf_treecheck.proofs.Common.{◌≡◌, ℕ, suc, ◌+◌, ◌<◌, true, false, ◌||◌, List, [], ◌∷◌, ◌++◌, length, get_or, take, refl, sym, ap, ◌∙◌, subst, arith, inl, inr, Option, Some, None, ◌⊎◌, get_or_default, cases_Bool, true≢false, false≢true, or_cases, or_left, or_right, false_from_ne_true, Mesh, pair, pair_of, pair_eq, pair_lt, edges, among, take-suc, pair_eq-true, pair_eq-same, pair_lt-trans, pair_lt-irreflexive, list_any-append, is_named, IsStray, IsLeastStray, lesser_of, least_with}

module _ (mesh : Mesh) (xs : List (ℕ × ℕ)) (y : ℕ × ℕ) where
  named_more : (q : ℕ × ℕ) → is_named (xs ++ y ∷ []) q ≡ (is_named xs q || (pair_eq q (pair_of y) || false))
  named_more q = list_any-append (λ r. pair_eq q (pair_of r)) xs (y ∷ [])

  -- a stray of the longer list is one of the shorter, or is the last
  stray_from : (q : ℕ × ℕ) → IsStray mesh (xs ++ y ∷ []) q → IsStray mesh xs q ⊎ (q ≡ pair_of y)
  stray_from q is = elim (or_cases (is_named xs q) (pair_eq q (pair_of y) || false) (sym (named_more q) ∙ is.0)) [
    | inl old ↦ inl (old, is.1)
    | inr new ↦ inr (elim (or_cases (pair_eq q (pair_of y)) false new) [
      | inl same ↦ pair_eq-true q (pair_of y) same
      | inr out ↦ absurd (false≢true out)
    ])
  ]

  stray_more : (q : ℕ × ℕ) → IsStray mesh xs q → IsStray mesh (xs ++ y ∷ []) q
  stray_more q is =
      (named_more q ∙ or_left (is_named xs q) (pair_eq q (pair_of y) || false) is.0, is.1)

  last_stray : among (pair_of y) (edges mesh) ≡ false → IsStray mesh (xs ++ y ∷ []) (pair_of y)
  last_stray out = (
    named_more (pair_of y)
        ∙ or_right (is_named xs (pair_of y)) (pair_eq (pair_of y) (pair_of y) || false)
        (or_left (pair_eq (pair_of y) (pair_of y)) false (pair_eq-same (pair_of y) (pair_of y) refl)),
    out,
  )

  pub stray_edge : (o : Option (ℕ × ℕ)) → among (pair_of y) (edges mesh) ≡ true → IsLeastStray mesh xs o →
      IsLeastStray mesh (xs ++ y ∷ []) o
  stray_edge None there h = λ q is. elim (stray_from q is) [
    | inl old ↦ h q old
    | inr same ↦ true≢false (sym there ∙ ap (λ r. among r (edges mesh)) (sym same) ∙ is.1)
  ]
  stray_edge (Some p) there h = (
    stray_more p h.0,
    λ q is. elim (stray_from q is) [
      | inl old ↦ h.1 q old
      | inr same ↦ absurd (true≢false (sym there ∙ ap (λ r. among r (edges mesh)) (sym same) ∙ is.1))
    ],
  )

  pub stray_other : (o : Option (ℕ × ℕ)) → among (pair_of y) (edges mesh) ≡ false → IsLeastStray mesh xs o →
      IsLeastStray mesh (xs ++ y ∷ []) (Some (lesser_of (pair_of y) o))
  stray_other None out h = (
    last_stray out,
    λ q is. elim (stray_from q is) [
      | inl old ↦ absurd (h q old)
      | inr same ↦ false_from_ne_true (pair_lt q (pair_of y)) (λ less. pair_lt-irreflexive q (pair_of y) less same)
    ],
  )
  stray_other (Some p) out h = elim (cases_Bool (pair_lt (pair_of y) p)) [
    | inl less ↦ rw less (
      last_stray out,
      λ q is. elim (stray_from q is) [
        | inl old ↦ false_from_ne_true (pair_lt q (pair_of y))
            (λ before. true≢false (sym (pair_lt-trans q (pair_of y) p before less) ∙ h.1 q old))
        | inr same ↦ false_from_ne_true (pair_lt q (pair_of y)) (λ before. pair_lt-irreflexive q (pair_of y) before same)
      ],
    )
    | inr not ↦ rw not (
      stray_more p h.0,
      λ q is. elim (stray_from q is) [
        | inl old ↦ h.1 q old
        | inr same ↦ ap (λ r. pair_lt r p) same ∙ not
      ],
    )
  ]

-- one more place of a list, whichever defaults its reads have
pub next_stray : (mesh : Mesh) (left : List (ℕ × ℕ)) (i : ℕ) (a b : ℕ × ℕ) (o : Option (ℕ × ℕ)) → i < length left →
    IsLeastStray mesh (take i left) o →
    IsLeastStray mesh (take (i + 1) left) (least_with mesh o (pair (get_or left i a).0 (get_or left i b).1))
next_stray mesh left i a b o l h =
    let y = get_or left i a in
    let more : take (suc i) left ≡ take i left ++ y ∷ [] = take-suc left i a l in
    let one : suc i ≡ i + 1 = omega arith in
    let same : pair y.0 y.1 ≡ pair y.0 (get_or left i b).1 =
    ap (λ (z : ℕ × ℕ). pair y.0 z.1) (get_or_default left i a b l) in
    subst (λ p. IsLeastStray mesh (take (i + 1) left) (least_with mesh o p)) same
    (subst (λ xs. IsLeastStray mesh xs (least_with mesh o (pair_of y))) (sym more ∙ ap (λ n. take n left) one)
    (elim (cases_Bool (among (pair_of y) (edges mesh))) [
      | inl there ↦ rw there (stray_edge mesh (take i left) y o there h)
      | inr out ↦ rw out (stray_other mesh (take i left) y o out h)
    ]))
