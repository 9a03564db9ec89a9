-- The tables of an elimination.
use Rattle.surf_choice.proofs.Common.{ℕ, ◌≡◌, ◌≢◌, ◌+◌, ◌-◌, ◌*◌, ◌<◌, ◌≤◌, ◌^◌, Option, Some, None, Bool, true, false, MatchOption, MatchBool, zero, suc, List, [], ◌∷◌, ◌++◌, length, get_or, set, take, All, bit_xor, lit<, inl, inr, not, is_some, refl, sym, ap, ◌∙◌, subst, arith, slice_index, AllByRecursion, cases_lt, pow-le-pow_right, numbers, Spanned, All-push, rest_in, add_in, in_from_spanned, spanned_from_in, get_or-take, length-take, length-append, length-set, xor_assoc, xor_zero_r, IsGreatest, IsEchelon, AreLed, ArePlaced}
use Rattle.surf_surfaces.proofs.Common.{InSpan}
use Rattle.std.proofs.lemmas.List.{get_or-append_right, get_or-set_same, get_or-set_other}
use Rattle.surf_z2.proofs.Width.{width_law}
use Rattle.surf_choice.proofs.Greatest.{led_front, led_count, led_more, led_at, independent_led, same_greatest, other_led, exponent_below}
use Rattle.surf_choice.proofs.Fronts.{row_in}

-- there are no more rows than numbers below the width
pub rows_few : (rows tops places : List ℕ) → IsEchelon rows tops places → length rows ≤ length places
rows_few rows tops places h = width_law (length places) rows h.within (independent_led rows tops h.led)

pub echelon_front : (n : ℕ) (rows tops places : List ℕ) → IsEchelon rows tops places → IsEchelon (take n rows) (take n tops) places
echelon_front n rows tops places h = record {
  few = h.few;
  led = led_front n rows tops h.led;
  within = λ k d l.
      let m = length-take n rows in
      subst (λ r. r < 2 ^ length places) (sym (get_or-take n rows k d (omega (arith, l, m)))) (h.within k d (omega (arith, l, m)));
  placed = λ i l.
      let m = length-take n tops in
      ap (λ t. slice_index places t) (get_or-take n tops i 0 (omega (arith, l, m))) ∙ h.placed i (omega (arith, l, m));
}

-- numbers below a width fit sixteen words
pub words_enough : (width x : ℕ) → width ≤ 1024 → x < 2 ^ width → x < 2 ^ (64 * 16)
words_enough width x few small =
    let l : width ≤ 64 * 16 = omega arith in
    let p : 2 ^ width ≤ 2 ^ (64 * 16) = pow-le-pow_right (lit< tt) l in
    omega (arith, p, small)

-- ---- one row added to what is left

pub row_step : (rows tops places : List ℕ) (i top r x s : ℕ) → IsEchelon rows tops places → i < length tops → slice_index tops i ≡ top →
    r ≡ get_or rows i r → x ≡ r → IsGreatest top s → (bit_xor s x < 2 ^ top) × (x < 2 ^ length places) × InSpan numbers rows x
row_step rows tops places i top r x s h l at is same g =
    let inside : i < length rows = omega (arith, l, led_count rows tops h.led) in
    let here = same ∙ is in (
      same_greatest top s x g (subst (λ k. IsGreatest k x) at (subst (IsGreatest (get_or tops i 0)) (sym here) (led_at rows tops i r h.led l))),
      subst (λ y. y < 2 ^ length places) (sym here) (h.within i r inside),
      subst (InSpan numbers rows) (sym here) (row_in rows i r inside),
    )

pub differ_more : (rows : List ℕ) (s left r : ℕ) → Spanned numbers rows (bit_xor s left) → InSpan numbers rows r →
    Spanned numbers rows (bit_xor s (bit_xor left r))
differ_more rows s left r h k =
    subst (Spanned numbers rows) (xor_assoc s left r)
    (spanned_from_in numbers rows (bit_xor (bit_xor s left) r) (add_in numbers rows (bit_xor s left) r (in_from_spanned numbers rows (bit_xor s left) h) k))

-- ---- what is left tells

pub left_none : (rows : List ℕ) (s left : ℕ) → Spanned numbers rows (bit_xor s left) → left ≡ 0 → Spanned numbers rows s
left_none rows s left h e = subst (Spanned numbers rows) (ap (bit_xor s) e ∙ xor_zero_r s) h

pub left_some : (rows tops : List ℕ) (s left k : ℕ) → AreLed rows tops → Spanned numbers rows (bit_xor s left) →
    IsGreatest k left → AllByRecursion (λ t. t ≢ k) tops → Spanned numbers rows s → ⊥
left_some rows tops s left k led h g out sum =
    other_led rows tops k left led g out
    (rest_in numbers rows s left (in_from_spanned numbers rows s sum) (in_from_spanned numbers rows (bit_xor s left) h))

pub left_tells : (rows tops : List ℕ) (s left : ℕ) (o : Option ℕ) (b : Bool) → AreLed rows tops → Spanned numbers rows (bit_xor s left) →
    MatchOption o (left ≡ 0) (λ k. IsGreatest k left × AllByRecursion (λ t. t ≢ k) tops) → is_some o ≡ not b →
    MatchBool b (Spanned numbers rows s) (Spanned numbers rows s → ⊥)
left_tells rows tops s left None true led h m e = left_none rows s left h m
left_tells rows tops s left None false led h m e = absurd (cc)
left_tells rows tops s left (Some k) true led h m e = absurd (cc)
left_tells rows tops s left (Some k) false led h m e = left_some rows tops s left k led h m.0 m.1

-- what is left, by the tables themselves
pub left_at : (tops places xs ys : List ℕ) (left k : ℕ) → xs ≡ tops → ys ≡ places →
    IsGreatest k left × AllByRecursion (λ t. t ≢ k) xs → left < 2 ^ length ys →
    IsGreatest k left × AllByRecursion (λ t. t ≢ k) tops × (left < 2 ^ length places)
left_at tops places xs ys left k e f h small = (
  h.0,
  subst (AllByRecursion (λ t. t ≢ k)) e h.1,
  subst (λ (zs : List ℕ). left < 2 ^ length zs) f small,
)

-- ---- a row more

pub at_other : (tops : List ℕ) (k i : ℕ) → AllByRecursion (λ t. t ≢ k) tops → i < length tops → get_or tops i 0 ≢ k
at_other [] k i h l = absurd (omega arith)
at_other (t ∷ tops) k zero h l = h.0
at_other (t ∷ tops) k (suc i) h l = at_other tops k i h.1 (omega arith)

at_front : (xs ys : List ℕ) (i : ℕ) → i < length xs → get_or (xs ++ ys) i 0 ≡ get_or xs i 0
at_front [] ys i l = absurd (omega arith)
at_front (x ∷ xs) ys zero l = refl
at_front (x ∷ xs) ys (suc i) l = at_front xs ys i (omega arith)

pub placed_more : (tops places : List ℕ) (k n : ℕ) → ArePlaced tops places → AllByRecursion (λ t. t ≢ k) tops → k < length places →
    n ≡ length tops → ArePlaced (tops ++ k ∷ []) (set places k n)
placed_more tops places k n h out inside e i l = elim (cases_lt i (length tops)) [
  | inl less ↦
      ap (λ t. get_or (set places k n) t 0) (at_front tops (k ∷ []) i less)
      ∙ get_or-set_other places k (get_or tops i 0) n 0 (at_other tops k i out less) ∙ h i less
  | inr past ↦
      let m = length-append tops (k ∷ []) in
      let is : i ≡ length tops = omega (arith, l, past, m) in
      let last : get_or (tops ++ k ∷ []) i 0 ≡ k =
      get_or-append_right tops (k ∷ []) (length tops) i 0 refl past ∙ (let z : i - length tops ≡ 0 = omega (arith, is) in ap (λ j. get_or (k ∷ []) j 0) z) in
      ap (λ t. get_or (set places k n) t 0) last ∙ get_or-set_same places k n 0 inside ∙ e ∙ sym is
]

pub echelon_more : (rows tops places : List ℕ) (r k n : ℕ) → IsEchelon rows tops places → IsGreatest k r → r < 2 ^ length places →
    AllByRecursion (λ t. t ≢ k) tops → n ≡ length rows → IsEchelon (rows ++ r ∷ []) (tops ++ k ∷ []) (set places k n)
echelon_more rows tops places r k n h g small out e =
    let wide : length (set places k n) ≡ length places = length-set places k n in
    record {
      few = omega (arith, wide, h.few);
      led = led_more rows tops r k h.led g out;
      within = subst (λ w. All (λ x. x < 2 ^ w) (rows ++ r ∷ [])) (sym wide) (All-push (λ x. x < 2 ^ length places) rows r h.within small);
      placed = placed_more tops places k n h.placed out (exponent_below k (length places) r g.has small)
          (let m = led_count rows tops h.led in omega (arith, e, m));
    }

-- there is room for one more
pub row_room : (rows tops places : List ℕ) (r k : ℕ) → IsEchelon rows tops places → IsGreatest k r → r < 2 ^ length places →
    AllByRecursion (λ t. t ≢ k) tops → length rows + 1 ≤ length places
row_room rows tops places r k h g small out =
    let most = rows_few (rows ++ r ∷ []) (tops ++ k ∷ []) (set places k (length rows)) (echelon_more rows tops places r k (length rows) h g small out refl) in
    let wide : length (set places k (length rows)) ≡ length places = length-set places k (length rows) in
    omega (arith, most, wide, length-append rows (r ∷ []))
