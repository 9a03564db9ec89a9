-- Numbering labels in the order in which they come, one side after the other.
use Rattle.surf_slit.proofs.Common.{◌≡◌, ◌≢◌, ℕ, zero, suc, ◌+◌, ◌<◌, ◌⊎◌, inl, inr, sym, subst, ap, ◌∙◌, List, [], ◌∷◌, ◌++◌, length, get_or, arith, cases_eq, set, length-set, get_or-set_same, get_or-set_other, length_push, get_or_push, get_or_append_left}
use Rattle.surf_cutter.proofs.Common.{nobody, label_at, AreCounted}

pub counted_none : (order labels tails numbers : List ℕ) → ((l : ℕ) → l < length numbers → get_or numbers l 0 ≡ nobody) → AreCounted order labels tails 0 numbers []
counted_none order labels tails numbers none = record {
  few = omega arith;
  unset = λ l h _. none l h;
  below = λ j h. absurd (omega arith);
  first = λ c h. absurd (omega arith);
  apart = λ j k h. absurd (omega arith);
}

-- what has been counted stays so where more sides follow
pub counted_on : (order row labels tails numbers origins : List ℕ) → AreCounted order labels tails (length order) numbers origins → AreCounted (order ++ row) labels tails (length order) numbers origins
counted_on order row labels tails numbers origins are =
    let number : ℕ → ℕ = λ s. get_or numbers (get_or labels s 0) 0 in
    let same : (j : ℕ) → j < length order → get_or (order ++ row) j 0 ≡ get_or order j 0 = λ j h. get_or_append_left order row 0 j h in
    record {
      few = are.few;
      unset = λ l h none. are.unset l h (λ j g. subst (λ s. get_or labels s 0 ≢ l) (same j g) (none j g));
      below = λ j g. subst (λ s. number s < length origins) (sym (same j g)) (are.below j g);
      first = λ c h.
          let p = are.first c h in
          let lt = p.1 in (
            p.0,
            p.1,
            record {
              has = ap number (same p.0 p.1) ∙ p.2.has;
              lesser = λ j g. subst (λ s. number s < c) (sym (same j (omega arith))) (p.2.lesser j g);
              vertex = p.2.vertex ∙ ap (λ s. get_or tails s 0) (sym (same p.0 p.1));
            },
          );
      apart = λ j k g h e.
          ap (λ s. get_or labels s 0) (same j g) ∙ are.apart j k g h (ap number (sym (same j g)) ∙ e ∙ ap number (same k h)) ∙ ap (λ s. get_or labels s 0) (sym (same k h));
    }

-- a label among the first ones, or not
met : (order labels : List ℕ) (l n : ℕ) → ((j : ℕ) × (j < n) × (label_at order labels j ≡ l)) ⊎ ((j : ℕ) → j < n → label_at order labels j ≢ l)
met order labels l zero = inr (λ j h e. absurd (omega arith))
met order labels l (suc n) = elim (met order labels l n) [
  | inl x ↦ let lt = x.1 in inl (x.0, omega arith, x.2)
  | inr none ↦ elim (cases_eq (label_at order labels n) l) [
    | inl e ↦ inl (n, omega arith, e)
    | inr ne ↦ inr (λ j h. elim (cases_eq j n) [ inl i ↦ subst (λ j. label_at order labels j ≢ l) (sym i) ne | inr ni ↦ none j (omega arith) ])
  ]
]

module _ (order labels tails numbers origins : List ℕ) (n : ℕ) (are : AreCounted order labels tails n numbers origins) (few : n < nobody) (in' : label_at order labels n < length numbers) where
  abbrev here : ℕ
  here = label_at order labels n

  -- a label that has a number
  pub counted_again : get_or numbers here 0 ≢ nobody → AreCounted order labels tails (n + 1) numbers origins
  counted_again known = elim (met order labels here n) [
    | inr none ↦ absurd (known (are.unset here in' none))
    | inl x ↦ record {
      few = let a = are.few in omega arith;
      unset = λ l h none. are.unset l h (λ j g. none j (omega arith));
      below = λ j h. elim (cases_eq j n) [
        | inl e ↦ subst (λ m. get_or numbers m 0 < length origins) (x.2 ∙ ap (label_at order labels) (sym e)) (are.below x.0 x.1)
        | inr ne ↦ are.below j (omega arith)
      ];
      first = λ c h. let p = are.first c h in let lt = p.1 in (p.0, omega arith, p.2);
      apart = λ j k h g e. elim (cases_eq j n) [
        | inl a ↦ elim (cases_eq k n) [
          | inl b ↦ ap (label_at order labels) (a ∙ sym b)
          | inr nb ↦ ap (label_at order labels) a ∙ sym x.2 ∙ are.apart x.0 k x.1 (omega arith) (ap (λ m. get_or numbers m 0) (x.2 ∙ ap (label_at order labels) (sym a)) ∙ e)
        ]
        | inr na ↦ elim (cases_eq k n) [
          | inl b ↦ are.apart j x.0 (omega arith) x.1 (e ∙ ap (λ m. get_or numbers m 0) (ap (label_at order labels) b ∙ sym x.2)) ∙ x.2 ∙ ap (label_at order labels) (sym b)
          | inr nb ↦ are.apart j k (omega arith) (omega arith) e
        ]
      ];
    }
  ]

  -- a new label
  module _ (unknown : get_or numbers here 0 ≡ nobody) where
    old : (j : ℕ) → j < n → label_at order labels j ≢ here
    old j h e = let b = are.below j h in let f = are.few in let z = ap (λ m. get_or numbers m 0) e in absurd (omega arith)

    numbers' : List ℕ
    numbers' = set numbers here (length origins)

    kept : (j : ℕ) → j < n → get_or (set numbers here (length origins)) (label_at order labels j) 0 ≡ get_or numbers (label_at order labels j) 0
    kept j h = get_or-set_other numbers here (label_at order labels j) (length origins) 0 (old j h)

    mine : get_or (set numbers here (length origins)) here 0 ≡ length origins
    mine = get_or-set_same numbers here (length origins) 0 in'

    vertex : ℕ
    vertex = get_or tails (get_or order n 0) 0

    pub counted_new : (v : ℕ) → v ≡ get_or tails (get_or order n 0) 0 → AreCounted order labels tails (n + 1) (set numbers here (length origins)) (origins ++ v ∷ [])
    counted_new v own =
        let more = length_push origins v in
        record {
          few = let a = are.few in omega arith;
          unset = λ l h none.
              let ne : l ≢ here = λ e. none n (omega arith) (sym e) in
              let size = length-set numbers here (length origins) in
              get_or-set_other numbers here l (length origins) 0 ne ∙ are.unset l (omega arith) (λ j g. none j (omega arith));
          below = λ j h. elim (cases_eq j n) [
            | inl e ↦ let m = mine in let z = ap (λ j. get_or (set numbers here (length origins)) (label_at order labels j) 0) e in omega arith
            | inr ne ↦ let k = kept j (omega arith) in let b = are.below j (omega arith) in omega arith
          ];
          first = λ c h. elim (cases_eq c (length origins)) [
            | inl e ↦ (
              n,
              omega arith,
              record {
                has = mine ∙ sym e;
                lesser = λ j g. let k = kept j g in let b = are.below j g in omega arith;
                vertex = get_or_push origins v 0 c (sym e) ∙ own;
              },
            )
            | inr ne ↦
                let p = are.first c (omega arith) in
                let lt : p.0 < n = p.1 in (
                  p.0,
                  omega arith,
                  record {
                    has = kept p.0 p.1 ∙ p.2.has;
                    lesser = λ j g. let k = kept j (omega arith) in let b = p.2.lesser j g in omega arith;
                    vertex = get_or_append_left origins (v ∷ []) 0 c (omega arith) ∙ p.2.vertex;
                  },
                )
          ];
          apart = λ j k h g e. elim (cases_eq j n) [
            | inl a ↦ elim (cases_eq k n) [
              | inl b ↦ ap (label_at order labels) (a ∙ sym b)
              | inr nb ↦
                  let m = mine in
                  let z = ap (λ j. get_or (set numbers here (length origins)) (label_at order labels j) 0) a in
                  let y = kept k (omega arith) in
                  let b = are.below k (omega arith) in
                  absurd (omega arith)
            ]
            | inr na ↦ elim (cases_eq k n) [
              | inl b ↦
                  let m = mine in
                  let z = ap (λ j. get_or (set numbers here (length origins)) (label_at order labels j) 0) b in
                  let y = kept j (omega arith) in
                  let c = are.below j (omega arith) in
                  absurd (omega arith)
              | inr nb ↦ are.apart j k (omega arith) (omega arith) (sym (kept j (omega arith)) ∙ e ∙ kept k (omega arith))
            ]
          ];
        }
