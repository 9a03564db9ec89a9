-- The vertex lines of least copies, some vertices at a time.
use Rattle.surf_sew.proofs.Common.{◌≡◌, ◌<◌, ◌+◌, ℕ, zero, suc, List, [], ◌∷◌, ◌++◌, length, get_or, map, refl, sym, ◌∙◌, ap, append_assoc, codes, arith, inl, inr, ◌≤◌, ◌==◌, cases_lt, eq-eqb, ne_eqb, map-append, get_or-map-range_with_len, length-map-range_with_len, position_or_len_is, All, range_with_len, text_append, lines_text, lines_at, first_copy, first_copies, HaveCopies, sewn_lines}
use Rattle.surf_sew.proofs.Gaps.{among_copy}

pub copies_few : (vs : List ℕ) (from n : ℕ) → HaveCopies vs (from + n) → All (λ c. c < length vs) (first_copies vs from n)
copies_few vs from n have k d lt =
    let small : k < n = omega (arith, length-map-range_with_len (first_copy vs) from n) in
    rw (get_or-map-range_with_len (first_copy vs) from n k (from + k) d small refl) (among_copy vs (from + k) (have (from + k) (omega arith)))

range_append : (a m n : ℕ) → range_with_len a (m + n) ≡ range_with_len a m ++ range_with_len (a + m) n
range_append a zero n =
    let e : 0 + n ≡ n = omega arith in
    let f : a ≡ a + 0 = omega arith in
    ap (range_with_len a) e ∙ ap (λ (b : ℕ). range_with_len b n) f
range_append a (suc m) n =
    let e : suc m + n ≡ suc (m + n) = omega arith in
    let f : a + 1 + m ≡ a + suc m = omega arith in
    ap (range_with_len a) e ∙ ap (λ (xs : List ℕ). a ∷ xs) (range_append (a + 1) m n ∙ ap (λ (b : ℕ). range_with_len (a + 1) m ++ range_with_len b n) f)

-- The first copy of a vertex, where those before it are of lesser vertices, is its least.
pub one_copy : (vs : List ℕ) (c n : ℕ) → c < length vs → ((k : ℕ) → k < c → get_or vs k 0 < n) → get_or vs c 0 ≡ n → first_copies vs n 1 ≡ c ∷ []
one_copy vs c n lt before here =
    let first : first_copy vs n ≡ c = position_or_len_is (λ o. o == n) vs c 0 (omega arith) (λ k l. ne_eqb (get_or vs k 0) n (λ e. absurd (omega (arith, before k l, e)))) (λ l. eq-eqb (get_or vs c 0) n here) in
    ap (λ (k : ℕ). k ∷ []) first

-- with one copy more
pub below_more : (vs : List ℕ) (c n m : ℕ) → ((k : ℕ) → k < c → get_or vs k 0 < n) → n ≤ m → get_or vs c 0 < m → (k : ℕ) → k < c + 1 → get_or vs k 0 < m
below_more vs c n m before le here k lt = elim (cases_lt k c) [
  | inl l ↦ omega (arith, before k l)
  | inr ge ↦ let e : k ≡ c = omega arith in omega (arith, ap (λ (i : ℕ). get_or vs i 0) e, here)
]

module _ (lines : List (List ℕ)) (vs : List ℕ) where
  pub more_lines : (from n : ℕ) → lines_text (lines_at lines (first_copies vs 0 (from + n))) ≡ lines_text (lines_at lines (first_copies vs 0 from)) ++ lines_text (lines_at lines (first_copies vs from n))
  more_lines from n =
      let e : 0 + from ≡ from = omega arith in
      let ranges : range_with_len 0 (from + n) ≡ range_with_len 0 from ++ range_with_len from n = range_append 0 from n ∙ ap (λ (b : ℕ). range_with_len 0 from ++ range_with_len b n) e in
      let copies : first_copies vs 0 (from + n) ≡ first_copies vs 0 from ++ first_copies vs from n = ap (map (first_copy vs)) ranges ∙ map-append (first_copy vs) (range_with_len 0 from) (range_with_len from n) in
      ap (λ (cs : List ℕ). lines_text (lines_at lines cs)) copies
      ∙ ap lines_text (map-append (λ c. get_or lines c []) (first_copies vs 0 from) (first_copies vs from n))
      ∙ text_append lines_text (λ l. l ++ codes "\n") refl (λ x xs. refl) (lines_at lines (first_copies vs 0 from)) (lines_at lines (first_copies vs from n))

  -- those before, some, and the rest
  pub all_lines : (from n rest all : ℕ) → from + n + rest ≡ all
      → lines_text (lines_at lines (first_copies vs 0 from)) ++ (lines_text (lines_at lines (first_copies vs from n)) ++ lines_text (lines_at lines (first_copies vs (from + n) rest))) ≡ lines_text (sewn_lines lines vs all)
  all_lines from n rest all e =
      sym (append_assoc (lines_text (lines_at lines (first_copies vs 0 from))) (lines_text (lines_at lines (first_copies vs from n))) (lines_text (lines_at lines (first_copies vs (from + n) rest))))
      ∙ ap (λ (t : List ℕ). t ++ lines_text (lines_at lines (first_copies vs (from + n) rest))) (sym (more_lines from n))
      ∙ sym (more_lines (from + n) rest)
      ∙ ap (λ (k : ℕ). lines_text (sewn_lines lines vs k)) e
