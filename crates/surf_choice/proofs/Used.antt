-- How many of the first rows it takes to reduce a set: as many as it takes to make it a sum of some of them.
use Rattle.surf_choice.proofs.Common.{ℕ, zero, suc, ◌≡◌, ◌≢◌, ◌+◌, ◌<◌, ◌≤◌, List, [], ◌∷◌, length, get_or, take, bit_xor, sym, ap, ◌∙◌, subst, arith, inl, inr, slice_index, ◌⊎◌, AllByRecursion, cases_lt, get_or-take, length-take-le, take_all, numbers, Spanned, zero_in, spanned_from_in, xor_self, IsGreatest, IsEchelon, AreLed}
use Rattle.surf_surfaces.proofs.Common.{InSpan}
use Rattle.surf_choice.proofs.Admitted.{at_other, differ_more, left_none, left_some}
use Rattle.surf_choice.proofs.Fronts.{row_in, spanned_more}
use Rattle.surf_choice.proofs.Greatest.{led_count, led_front}

-- a set less what is left of it is a sum of the first rows, so many of them, and it is no sum of fewer
pub record IsUsed (rows : List ℕ) (set left count : ℕ) : Type 0 where
  pub count_in : count ≤ length rows
  pub differ : Spanned numbers (take count rows) (bit_xor set left)
  pub least : (m : ℕ) → m < count → Spanned numbers (take m rows) set → ⊥

pub used_none : (rows : List ℕ) (set left : ℕ) → left ≡ set → IsUsed rows set left 0
used_none rows set left is = record {
  count_in = omega arith;
  differ = subst (Spanned numbers (take 0 rows)) (sym (xor_self set) ∙ ap (bit_xor set) (sym is))
      (spanned_from_in numbers (take 0 rows) 0 (zero_in numbers (take 0 rows)));
  least = λ m l. absurd (omega arith);
}

-- the greatest number of a row is that of no row before it
led_before : (rows tops : List ℕ) (m p k : ℕ) → AreLed rows tops → m ≤ p → p < length tops → get_or tops p 0 ≡ k →
    AllByRecursion (λ t. t ≢ k) (take m tops)
led_before rows tops zero p k led le l is = tt
led_before rows [] (suc m) p k led le l is = tt
led_before [] (t ∷ tops) (suc m) p k led le l is = absurd led
led_before (r ∷ rows) (t ∷ tops) (suc m) zero k led le l is = absurd (omega arith)
led_before (r ∷ rows) (t ∷ tops) (suc m) (suc p) k led le l is = (
  (λ same. at_other tops t p led.1 (omega arith) (is ∙ sym same)),
  led_before rows tops m p k led.2 (omega arith) (omega arith) is,
)

-- a row among the first so many
front_in : (rows : List ℕ) (p n d : ℕ) → p < n → n ≤ length rows → InSpan numbers (take n rows) (get_or rows p d)
front_in rows p n d l le =
    let m = length-take-le n rows le in
    subst (InSpan numbers (take n rows)) (get_or-take n rows p d l) (row_in (take n rows) p d (omega (arith, l, m)))

-- where a row is added to what is left
pub used_more : (rows tops places : List ℕ) (set left count p top r x next more : ℕ) → IsEchelon rows tops places →
    IsUsed rows set left count → p < length tops → slice_index tops p ≡ top → IsGreatest top left → r ≡ get_or rows p r →
    x ≡ r → next ≡ bit_xor left x → count ≤ more → p < more → (more ≡ count) ⊎ (more ≡ p + 1) → IsUsed rows set next more
used_more rows tops places set left count p top r x next more h u l at g row same is from_old from_new either =
    let n = led_count rows tops h.led in
    let old_in : count ≤ length rows = u.count_in in
    let inside : more ≤ length rows = elim either [ inl old ↦ omega (arith, old, old_in) | inr new ↦ omega (arith, new, l, n) ] in
    record {
      count_in = inside;
      differ = subst (λ v. Spanned numbers (take more rows) (bit_xor set v)) (sym is)
          (differ_more (take more rows) set left x (spanned_more count more rows (bit_xor set left) from_old u.differ)
          (subst (InSpan numbers (take more rows)) (sym (same ∙ row)) (front_in rows p more r from_new inside)));
      least = λ m below. elim (cases_lt m count) [
        | inl less ↦ u.least m less
        | inr past ↦
            let le : m ≤ p = elim either [ inl old ↦ absurd (omega (arith, old, below, past)) | inr new ↦ omega (arith, new, below) ] in
            left_some (take m rows) (take m tops) set left top (led_front m rows tops h.led)
            (spanned_more count m rows (bit_xor set left) past u.differ) g (led_before rows tops m p top h.led le l at)
      ];
    }

-- where no row has the greatest number of what is left
pub used_past : (rows tops places : List ℕ) (set left count top : ℕ) → IsEchelon rows tops places → IsUsed rows set left count →
    IsGreatest top left → AllByRecursion (λ t. t ≢ top) tops → Spanned numbers rows set → ⊥
used_past rows tops places set left count top h u g out =
    left_some rows tops set left top h.led
    (subst (λ (xs : List ℕ). Spanned numbers xs (bit_xor set left)) (take_all (length rows) rows (omega arith))
    (spanned_more count (length rows) rows (bit_xor set left) u.count_in u.differ)) g out

-- where nothing is left
pub used_all : (rows : List ℕ) (set left count : ℕ) → IsUsed rows set left count → left ≡ 0 → Spanned numbers (take count rows) set
used_all rows set left count u none = left_none (take count rows) set left u.differ none
