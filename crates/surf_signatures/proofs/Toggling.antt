-- Bits that are turned in a flat table.
use Rattle.std.proofs.Common.{ℕ, ◌<◌, ◌≡◌, ◌≢◌, ◌+◌, ◌*◌, ◌/◌, ◌%◌, ◌^◌, refl, sym, ◌∙◌, arith, inl, inr, List, length, set, Bool, true, false, ◌&&◌, eqb, eq-eqb, ne_eqb, ltb, lt-ltb, get_or-set_same, get_or-set_other, bit_xor}
use Rattle.surf_surfaces.proofs.Common.{bit_at, cases_eq, cases_lt, le-ltb, xor, xor-false}
use Rattle.std.proofs.lemmas.Nat.{mul-add-lt}
use Rattle.std.proofs.lemmas.Nat.Bits.{bit_at_xor, bit_at-pow_same, bit_at-pow_other, bit_at-lt}
use Rattle.surf_base.specs.Tables.{at}
use Rattle.surf_signatures.specs.Signs.{cell, sign_bit}

-- a cell is that of one edge and one word
one_cell : (w e a f b : ℕ) → a < w → b < w → e * w + a ≡ f * w + b → (e ≡ f) × (a ≡ b)
one_cell w e a f b la lb same = elim (cases_lt e f) [
  | inl l ↦ let m = mul-add-lt e w a f l la in absurd (omega arith)
  | inr le ↦ elim (cases_lt f e) [
    | inl l ↦ let m = mul-add-lt f w b e l lb in absurd (omega arith)
    | inr le2 ↦ let is : e ≡ f = omega arith in (is, (let again : f * w + a ≡ f * w + b = rw is at same in omega arith))
  ]
]

turned : (b : ℕ) → b < 2 → eqb ((b + 1) % 2) 1 ≡ xor (eqb b 1) true
turned b l = elim (cases_eq b 0) [
  | inl zero_b ↦ rw zero_b
  | inr ne ↦ let one_b : b ≡ 1 = omega arith in rw one_b
]

stayed : (b : ℕ) → b < 2 → eqb ((b + 0) % 2) 1 ≡ eqb b 1
stayed b l = elim (cases_eq b 0) [
  | inl zero_b ↦ rw zero_b
  | inr ne ↦ let one_b : b ≡ 1 = omega arith in rw one_b
]

pub toggled : (signs : List ℕ) (words edge k e j : ℕ) → cell words edge k < length signs → k < 64 * words → j < 64 * words →
    sign_bit (set signs (cell words edge k) (bit_xor (at signs (cell words edge k)) (2 ^ (k % 64)))) words e j ≡ xor (sign_bit signs words e j) (eqb edge e && eqb k j)
toggled signs words edge k e j lc lk lj =
    let c = cell words edge k in
    let v = bit_xor (at signs c) (2 ^ (k % 64)) in
    let kw : k / 64 < words = omega arith in
    let jw : j / 64 < words = omega arith in
    elim (cases_eq (cell words e j) c) [
      | inl same ↦
          let (is_e, is_w) = one_cell words e (j / 64) edge (k / 64) jw kw same in
          let lt = bit_at-lt (at signs c) (j % 64) in
          rw (same, get_or-set_same signs c v 0 lc, bit_at_xor (at signs c) (2 ^ (k % 64)) (j % 64)) (elim (cases_eq j k) [
            | inl same_k ↦ rw (same_k, bit_at-pow_same (k % 64), eq-eqb edge e (sym is_e), eq-eqb k k refl) (turned (bit_at (at signs c) (k % 64)) (bit_at-lt (at signs c) (k % 64)))
            | inr ne ↦
                let apart : j % 64 ≢ k % 64 = omega arith in
                let no_k : k ≢ j = λ x. ne (sym x) in
                rw (bit_at-pow_other (k % 64) (j % 64) apart, ne_eqb k j no_k) (stayed (bit_at (at signs c) (j % 64)) lt ∙ sym (last_false (eqb (bit_at (at signs c) (j % 64)) 1) (eqb edge e)))
          ])
      | inr ne ↦
          let other : (eqb edge e && eqb k j) ≡ false = elim (cases_eq edge e) [
            | inl same_e ↦ elim (cases_eq k j) [
              | inl same_k ↦ absurd (ne (rw (same_e, same_k)))
              | inr no_k ↦ rw (ne_eqb k j no_k) (both_false (eqb edge e))
            ]
            | inr no_e ↦ rw (ne_eqb edge e no_e)
          ] in
          rw (get_or-set_other signs c (cell words e j) v 0 ne, other) (sym (xor-false (sign_bit signs words e j)))
    ]
  where
    both_false : (b : Bool) → (b && false) ≡ false
    both_false true = refl
    both_false false = refl

    last_false : (a b : Bool) → xor a (b && false) ≡ a
    last_false true true = refl
    last_false true false = refl
    last_false false true = refl
    last_false false false = refl

pub two_turns : (o u p b : Bool) → xor (xor o (u && b)) (p && b) ≡ xor o (xor u p && b)
two_turns true true true true = refl
two_turns true true true false = refl
two_turns true true false true = refl
two_turns true true false false = refl
two_turns true false true true = refl
two_turns true false true false = refl
two_turns true false false true = refl
two_turns true false false false = refl
two_turns false true true true = refl
two_turns false true true false = refl
two_turns false true false true = refl
two_turns false true false false = refl
two_turns false false true true = refl
two_turns false false true false = refl
two_turns false false false true = refl
two_turns false false false false = refl

pub nothing_turned : (o : Bool) → xor o false ≡ o
nothing_turned true = refl
nothing_turned false = refl

pub both_turns : (a b : Bool) → xor (xor false (a && true)) (b && true) ≡ xor a b
both_turns true true = refl
both_turns true false = refl
both_turns false true = refl
both_turns false false = refl

no_turn : (o a : Bool) → xor o (a && false) ≡ o
no_turn true true = refl
no_turn true false = refl
no_turn false true = refl
no_turn false false = refl

pub no_turns : (o a b : Bool) → xor (xor o (a && false)) (b && false) ≡ o
no_turns o a b = no_turn (xor o (a && false)) b ∙ no_turn o a

pub below_more : (a n : ℕ) → a ≢ n → ltb a (n + 1) ≡ ltb a n
below_more a n ne = elim (cases_lt a n) [
  | inl l ↦ lt-ltb a (n + 1) (omega arith) ∙ sym (lt-ltb a n l)
  | inr le ↦ le-ltb a (n + 1) (omega arith) ∙ sym (le-ltb a n le)
]
