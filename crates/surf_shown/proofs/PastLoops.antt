-- Places that come after those of claimed loops.
use Rattle.std.specs.Prelude.{Option, Some}
use Rattle.surf_surfaces.proofs.Common.{◌≡◌, ℕ, zero, suc, refl, ◌+◌, ◌-◌, ◌<◌, ◌≤◌, true, false, min, not, List, length, get_or, get_or_default, All, take, take-map, sym, ap, ◌∙◌, subst, arith, inl, inr, cases_lt, cases_Bool, get_or-map, length-map, numbers, Spanned, Place, is_no_later, comes_sooner, map-map, false≢true}
use Rattle.surf_choice.specs.Candidates.{IsSumOfLength, signatures}
use Rattle.surf_choice.specs.Places.{place_of, is_sought}
use Rattle.surf_choice.specs.declared.candidate.Candidate.{Candidate}
use Rattle.surf_choice.specs.declared.candidate.Signed.{Signed}
use Rattle.surf_sheetorder.specs.Searches.{IsLoopPast, ListedLoop}
use Rattle.surf_sheetorder.specs.Needs.{IsPastNeed, IsSumOfFirst, place_in}
use Rattle.surf_sheetorder.proofs.SearchSheets.{loops_past_later_places, past_after}
use Rattle.surf_shown.specs.Shown.{AreInPlace, AreRanks, loop_of, loops_of}

pub as_many : (kept : List Signed) → length (loops_of kept) ≡ length kept
as_many kept = length-map kept loop_of

-- the place of a claimed loop
pub place_same : (kept : List Signed) (i : ℕ) (s : Signed) → i < length kept →
    place_in (loops_of kept) i ≡ place_of (get_or kept i s).candidate
place_same kept i s l =
    ap (λ (c : ListedLoop). c.place) (get_or-map loop_of kept i s (record { place = (0, 0); class = 0 }) l)

abbrev pub no_loop : Signed
no_loop = record { candidate = record { length = 0; base = 0; edge = 0 }; from = 0; signature = 0 }

pub in_order : (kept : List Signed) → AreInPlace kept → (i j : ℕ) → i < j → j < length kept →
    is_no_later (place_in (loops_of kept) i) (place_in (loops_of kept) j) ≡ true
in_order kept order i j less inside =
    subst (λ (p : Place). is_no_later p (place_in (loops_of kept) j) ≡ true)
    (sym (place_same kept i no_loop (omega (arith, less, inside))))
    (subst (λ (p : Place). is_no_later (place_of (get_or kept i no_loop).candidate) p ≡ true)
    (sym (place_same kept j no_loop inside)) (order i j no_loop less inside))

-- what is past the place of a loop is past those of the loops before it
pub past_before : (kept : List Signed) (margin i j : ℕ) (p : Place) → AreInPlace kept → i ≤ j → j < length kept →
    IsLoopPast margin (place_in (loops_of kept) j) p → IsLoopPast margin (place_in (loops_of kept) i) p
past_before kept margin i j p order le inside past = elim (cases_lt i j) [
  | inl less ↦
      loops_past_later_places margin (place_in (loops_of kept) i) (place_in (loops_of kept) j) p
      (in_order kept order i j less inside) past
  | inr no_less ↦
      let same : j ≡ i = omega (arith, le, no_less) in
      subst (λ k. IsLoopPast margin (place_in (loops_of kept) k) p) same past
]

-- so it is with what isn't before a limit that is past it
pub past_unsought : (margin : ℕ) (q limit p : Place) → comes_sooner limit p ≡ false → IsLoopPast margin q limit →
    IsLoopPast margin q p
past_unsought margin q limit p out past =
    past_after margin q limit p (not_sooner limit p out) past
  where
    not_sooner : (a b : Place) → comes_sooner a b ≡ false → is_no_later a b ≡ true
    not_sooner a b h = elim (cases_Bool (is_no_later a b)) [
      | inl before ↦ before
      | inr after ↦ absurd (false≢true (sym h ∙ ap not after))
    ]

-- a sum of the first that are kept is one of the first claimed loops
pub sum_of_loops : (kept : List Signed) (n class : ℕ) → Spanned numbers (signatures (take n kept)) class →
    IsSumOfFirst (loops_of kept) n class
sum_of_loops kept n class sum =
    subst (λ xs. Spanned numbers (take n xs) class) (sym (map-map (λ (c : ListedLoop). c.class) loop_of kept))
    (subst (λ xs. Spanned numbers xs class) (sym (take-map (λ (s : Signed). s.signature) n kept)) sum)

pub needs_past : (kept : List Signed) (margin i n to : ℕ) (found : Signed) → AreInPlace kept → n ≤ length kept →
    Spanned numbers (signatures (take n kept)) found.signature → i < to →
    (i < min n to → IsLoopPast margin (place_in (loops_of kept) (min n to - 1)) (place_of found.candidate)) →
    IsPastNeed (loops_of kept) margin i (loop_of found)
needs_past kept margin i n to found order few sum before past = (
  n,
  sum_of_loops kept n found.signature sum,
  λ less. past_before kept margin i (min n to - 1) (place_of found.candidate) order (omega (arith, less, before))
      (omega (arith, less, before, few)) (past (omega (arith, less, before))),
)

-- what is past the loop before an end
pub past_at_end : (kept list : List Signed) (margin end last : ℕ) (s : Signed) (p : Place) → list ≡ kept → end ≡ last →
    0 < last → last ≤ length kept → IsLoopPast margin (place_of (get_or list (end - 1) s).candidate) p →
    IsLoopPast margin (place_in (loops_of kept) (last - 1)) p
past_at_end kept list margin end last s p same at some inside past =
    subst (λ (q : Place). IsLoopPast margin q p)
    (ap (λ (xs : List Signed). place_of (get_or xs (end - 1) s).candidate) same
    ∙ ap (λ k. place_of (get_or kept (k - 1) s).candidate) at
    ∙ sym (place_same kept (last - 1) s (omega (arith, some, inside)))) past

pub end_past : (kept : List Signed) (margin end i : ℕ) (o : Option Candidate) (last : Candidate) (place : Place) →
    AreInPlace kept → o ≡ Some last → end ≤ length kept → i < end → is_sought o place ≡ false →
    IsLoopPast margin (place_in (loops_of kept) (end - 1)) (place_of last) →
    IsLoopPast margin (place_in (loops_of kept) i) place
end_past kept margin end i o last place order is inside less out past =
    past_unsought margin (place_in (loops_of kept) i) (place_of last) place
    (subst (λ (l : Option Candidate). is_sought l place ≡ false) is out)
    (past_before kept margin i (end - 1) (place_of last) order (omega (arith, less)) (omega (arith, less, inside)) past)

-- each of the first loops of a list is past what it may need
abbrev pub ArePastBelow : List Signed → ℕ → ℕ → ℕ → List Signed → ℕ → Type 0
ArePastBelow kept margin from to found n = (k : ℕ) (s : Signed) → k < n → (i : ℕ) → from ≤ i → i < to →
    IsPastNeed (loops_of kept) margin i (loop_of (get_or found k s))

pub past_next : (kept found : List Signed) (margin from to n : ℕ) (x : Signed) → n < length found → x ≡ get_or found n x →
    ArePastBelow kept margin from to found n →
    ((i : ℕ) → from ≤ i → i < to → IsPastNeed (loops_of kept) margin i (loop_of x)) →
    ArePastBelow kept margin from to found (n + 1)
past_next kept found margin from to n x inside is before here k s l i low high = elim (cases_lt k n) [
  | inl less ↦ before k s less i low high
  | inr no_less ↦
      let same : n ≡ k = omega (arith, l, no_less) in
      subst (λ (y : Signed). IsPastNeed (loops_of kept) margin i (loop_of y))
      (is ∙ get_or_default found n x s inside ∙ ap (λ j. get_or found j s) same) (here i low high)
]

pub past_all : (kept found : List Signed) (margin from to n i : ℕ) → length found ≤ n →
    ArePastBelow kept margin from to found n → from ≤ i → i < to →
    All (IsPastNeed (loops_of kept) margin i) (loops_of found)
past_all kept found margin from to n i many past low high k e l =
    let count = as_many found in
    let inside : k < length found = omega (arith, l, count) in
    subst (IsPastNeed (loops_of kept) margin i) (sym (get_or-map loop_of found k no_loop e inside))
    (past k no_loop (omega (arith, inside, many)) i low high)

-- ---- of how many of the first loops a class is a sum

pub count_by_ranks : (loops ranks : List Signed) (count class : ℕ) → AreRanks loops ranks → IsSumOfLength ranks count class →
    count ≤ length loops → Spanned numbers (signatures (take count loops)) class
count_by_ranks loops ranks count class are sum few =
    subst (λ n. Spanned numbers (signatures (take n loops)) class) (same sum.count refl)
    (subst (λ xs. Spanned numbers xs class)
    (sym (take-map (λ (s : Signed). s.signature) sum.count ranks) ∙ ap (take sum.count) are.signatures_same
    ∙ take-map (λ (s : Signed). s.signature) sum.count loops) sum.sum)
  where
    same : (n : ℕ) → n ≡ sum.count → sum.count ≡ count
    same zero is = sym is ∙ sym (sum.none (sym is))
    same (suc k) is =
        let inside : k < length ranks = (let few = sum.count_in in omega (arith, is, few)) in
        let one = are.length_is k no_loop inside in
        let two = sum.last k no_loop is in
        omega (arith, one, two, is)
