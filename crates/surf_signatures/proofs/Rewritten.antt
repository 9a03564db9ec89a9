-- Rows of a flat table of which one is written anew.
use Rattle.std.proofs.Common.{ℕ, suc, ◌<◌, ◌≤◌, ◌≡◌, ◌+◌, ◌-◌, ◌*◌, ◌^◌, refl, sym, ap, ◌∙◌, arith, inl, inr, List, [], ◌∷◌, length, map, take, drop, set, get_or, get_or-set_same, get_or-set_other, cond, true, false, bit_xor, ltb, eqb, eq-eqb, ne_eqb}
use Rattle.std.proofs.Math.Nat.{mul-le-mul_right}
use Rattle.surf_surfaces.proofs.Common.{cases_eq, cases_lt, cases_Bool, lt-ltb, le-ltb, number, has, bit_at-zero, same_number_lists, get_or-take, get_or-drop, get_or_past, get_or-append_right, get_or-map, length-map, length-set, length-take-le, number_zero}
use Rattle.std.proofs.lemmas.Slice.{take-put_mid, take-put_mid_below, drop-put_mid}
use borrow.Rule.Slice.PartMut.{put_mid}
use Rattle.surf_signatures.specs.Tables.{row_of, sets_in, added_where}
use Rattle.surf_signatures.proofs.Toggling.{below_more}
use Rattle.surf_signatures.proofs.Written.{row_word, row_past, row_zero, rows-length, rows-at}

-- words that agree write the same number, whether those that are missing are written as zeros or not
pub number_same : (us vs : List ℕ) → ((k : ℕ) → get_or us k 0 ≡ get_or vs k 0) → number us ≡ number vs
number_same [] vs h = sym (number_zero vs (λ k l. sym (h k)))
number_same (u ∷ us) [] h = number_zero (u ∷ us) (λ k l. h k)
number_same (u ∷ us) (v ∷ vs) h =
    ap (λ n. n * 2 ^ 64 + u) (number_same us vs (λ k. h (suc k))) ∙ ap (λ w. number vs * 2 ^ 64 + w) (h 0)

module _ (table row : List ℕ) (a k : ℕ) (size : length row ≡ k) (room : a + k ≤ length table) where
  before : (i : ℕ) → i < a → get_or (put_mid a k table row) i 0 ≡ get_or table i 0
  before i l =
      sym (get_or-take a (put_mid a k table row) i 0 l)
      ∙ ap (λ (xs : List ℕ). get_or xs i 0) (take-put_mid_below a k table row a (omega arith) (omega (arith, room)))
      ∙ get_or-take a table i 0 l

  inside : (i : ℕ) → i < k → get_or (put_mid a k table row) (a + i) 0 ≡ get_or row i 0
  inside i l =
      let front : length (take a table) ≡ a = length-take-le a table (omega (arith, room)) in
      let at_place : a + i - a ≡ i = omega arith in
      sym (get_or-take (a + k) (put_mid a k table row) (a + i) 0 (omega (arith, l)))
      ∙ ap (λ (xs : List ℕ). get_or xs (a + i) 0)
      (take-put_mid a k table row (a + k) (omega (arith, size)) (omega (arith, room)))
      ∙ get_or-append_right (take a table) row a (a + i) 0 front (omega arith) ∙ ap (λ n. get_or row n 0) at_place

  after : (i : ℕ) → a + k ≤ i → get_or (put_mid a k table row) i 0 ≡ get_or table i 0
  after i l =
      let none : i + 0 ≡ i = omega arith in
      ap (λ n. get_or (put_mid a k table row) n 0) (sym none)
      ∙ sym (get_or-drop i (put_mid a k table row) 0 0)
      ∙ ap (λ (xs : List ℕ). get_or xs 0 0) (drop-put_mid a k table row i l (omega (arith, room)) size)
      ∙ get_or-drop i table 0 0 ∙ ap (λ n. get_or table n 0) none

module _ (words e : ℕ) (table row : List ℕ) (size : length row ≡ words) (room : e * words + words ≤ length table) where
  abbrev new : List ℕ
  new = put_mid (e * words) words table row

  own : number (take words (drop (e * words) new)) ≡ number row
  own = number_same (take words (drop (e * words) new)) row (λ j. elim (cases_lt j words) [
    | inl l ↦ row_word words new e j l ∙ inside table row (e * words) words size room j l
    | inr past ↦ row_past words new e j past ∙ sym (get_or_past row j 0 (omega (arith, size, past)))
  ])

  other : (f : ℕ) → (e ≡ f → ⊥) → number (take words (drop (f * words) new)) ≡ row_of words table f
  other f ne = number_same (take words (drop (f * words) new)) (take words (drop (f * words) table))
      (λ j. elim (cases_lt j words) [
        | inl l ↦ row_word words new f j l ∙ apart j l ∙ sym (row_word words table f j l)
        | inr past ↦ row_past words new f j past ∙ sym (row_past words table f j past)
      ])
    where
      apart : (j : ℕ) → j < words → get_or new (f * words + j) 0 ≡ get_or table (f * words + j) 0
      apart j l = elim (cases_lt f e) [
        | inl less ↦
            let up : f + 1 ≤ e = omega (arith, less) in
            let m : (f + 1) * words ≤ e * words = mul-le-mul_right words up in
            let below : f * words + j < e * words = omega (arith, m, l) in
            before table row (e * words) words size room (f * words + j) below
        | inr le ↦
            let up : e + 1 ≤ f = omega (arith, le, ne) in
            let m : (e + 1) * words ≤ f * words = mul-le-mul_right words up in
            let above : e * words + words ≤ f * words + j = omega (arith, m) in
            after table row (e * words) words size room (f * words + j) above
      ]

  pub row_put : (n f : ℕ) → n ≡ words →
      row_of words (put_mid (e * words) n table row) f ≡ cond (eqb e f) (number row) (row_of words table f)
  row_put n f is = rw is (elim (cases_eq e f) [
    | inl same ↦ rw (eq-eqb e f same, ← same) own
    | inr ne ↦ rw (ne_eqb e f ne) (other f ne)
  ])

  -- a set that has the number, with another one added
  pub put_added : (k other : ℕ) → has (row_of words table e) k ≡ true → number row ≡ bit_xor (row_of words table e) other →
      (n f : ℕ) → n ≡ words →
      row_of words (put_mid (e * words) n table row) f
      ≡ cond (eqb e f) (added_where k other (row_of words table f)) (row_of words table f)
  put_added k other on sum n f is = row_put n f is ∙ elim (cases_eq e f) [
    | inl same ↦ rw (eq-eqb e f same, ← same, on) sum
    | inr ne ↦ rw (ne_eqb e f ne) refl
  ]

-- the rows before a place are made anew
pub rows_more : (words k other n : ℕ) (first old new : List ℕ) →
    ((e : ℕ) → row_of words old e ≡ cond (ltb e n) (added_where k other (row_of words first e)) (row_of words first e)) →
    ((e : ℕ) → row_of words new e ≡ cond (eqb n e) (added_where k other (row_of words old e)) (row_of words old e)) →
    (e : ℕ) →
    row_of words new e ≡ cond (ltb e (n + 1)) (added_where k other (row_of words first e)) (row_of words first e)
rows_more words k other n first old new before step e =
    let is = before e in
    let now = step e in
    elim (cases_eq n e) [
      | inl same ↦
          let off : ltb e n ≡ false = le-ltb e n (omega (arith, same)) in
          let on : ltb e (n + 1) ≡ true = lt-ltb e (n + 1) (omega (arith, same)) in
          rw on (rw (eq-eqb n e same) at now ∙ ap (added_where k other) (rw off at is))
      | inr ne ↦
          let keeps : ltb e (n + 1) ≡ ltb e n = below_more e n (λ s. ne (sym s)) in
          rw keeps (rw (ne_eqb n e ne) at now ∙ is)
    ]

pub rows_whole : (words k other n : ℕ) (first new : List ℕ) →
    ((e : ℕ) → row_of words new e ≡ cond (ltb e n) (added_where k other (row_of words first e)) (row_of words first e)) →
    sets_in words n new ≡ map (added_where k other) (sets_in words n first)
rows_whole words k other n first new is =
    let size = rows-length words n new in
    let size_first = rows-length words n first in
    same_number_lists (sets_in words n new) (map (added_where k other) (sets_in words n first))
    (size ∙ sym (length-map (sets_in words n first) (added_where k other) ∙ size_first)) (λ e l.
    let below : e < n = omega (arith, l, size) in
    let here = is e in
    rows-at words n new e below ∙ rw (lt-ltb e n below) at here
    ∙ ap (added_where k other) (sym (rows-at words n first e below))
    ∙ sym (get_or-map (added_where k other) (sets_in words n first) e 0 0 (omega (arith, below, size_first))))

-- no set has the number where nothing is written
pub rows_empty : (words k other n : ℕ) → sets_in words n [] ≡ map (added_where k other) (sets_in words n [])
rows_empty words k other n =
    rows_whole words k other n [] [] (λ e.
    let none : has (row_of words [] e) k ≡ false = ap (λ s. has s k) (row_zero words [] (λ i. refl) e) ∙ ap (λ b. eqb b 1) (bit_at-zero k) in
    elim (cases_Bool (ltb e n)) [
      | inl inside ↦ rw (inside, none) refl
      | inr out ↦ rw out refl
    ])

-- one row is made anew
pub rows_set : (words n at written : ℕ) (old new : List ℕ) → at < n →
    ((e : ℕ) → row_of words new e ≡ cond (eqb at e) written (row_of words old e)) →
    sets_in words n new ≡ set (sets_in words n old) at written
rows_set words n at written old new inside is =
    let size = rows-length words n new in
    let size_old = rows-length words n old in
    let rows = sets_in words n old in
    same_number_lists (sets_in words n new) (set rows at written) (size ∙ sym (length-set rows at written ∙ size_old)) (λ e l.
    let below : e < n = omega (arith, l, size) in
    rows-at words n new e below ∙ is e ∙ elim (cases_eq at e) [
      | inl same ↦ rw (eq-eqb at e same, ← same) (sym (get_or-set_same rows at written 0 (omega (arith, inside, size_old))))
      | inr ne ↦ rw (ne_eqb at e ne) (sym (get_or-set_other rows at e written 0 (λ s. ne (sym s)) ∙ rows-at words n old e below))
    ])
