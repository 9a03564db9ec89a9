-- Which walks of a basis take part in a class, as linear tests.
use Rattle.surf_surfaces.proofs.Common.{◌≡◌, ◌≢◌, ℕ, zero, suc, ◌<◌, ◌^◌, ◌⊎◌, Bool, true, false, not, cond, List, [], ◌∷◌, length, get_or, get_or-map, map, bit_xor, sym, ap, ◌∙◌, arith, inl, inr, AllByRecursion, All-from_recursion, cases_Bool, cases_lt, length-map, numbers, is_nothing, Decides-is_nothing, InSpan, AllInSpan, Free, free_from_independent, spans, difference, has-xor, false≢true, chain_signature, left_edges, cells_of, parity, class_of}
use Rattle.surf_z2.specs.Below.{number_of}
use Rattle.surf_z2.specs.Sieve.{has}
use Rattle.surf_z2.proofs.Below.{small, same_from, number_of-sum, number_of-none, below_law}
use Rattle.surf_z2.proofs.Greedy.{in_from_spans, spans_from_in}
use Rattle.surf_z2.proofs.Span.{independent_from_free, refl_in}
use Rattle.surf_z2.proofs.Width.{width_law}
use Rattle.surf_surfaces.proofs.classes.ClassLaws.{null_by_class, independent_by_classes}
use Rattle.surf_sheets.proofs.Coordinates.{takes_part, takes_none, takes_sum, takes_own, takes_no_later}
use Rattle.surf_sheetorder.specs.Searches.{IsLinear}
use Rattle.surf_sheetorder.specs.Laws.{BasesHaveTests, NonnullWalksComeNoSooner}
use Rattle.surf_sheetorder.proofs.Tests.{tests_are_cocycles}

-- ---- what comes later takes no part

member_in : (xs ys : List ℕ) (i d : ℕ) → AllInSpan numbers xs ys → i < length ys → InSpan numbers xs (get_or ys i d)
member_in xs [] i d h l = absurd (omega (arith, l))
member_in xs (y ∷ ys) zero d h l = h.0
member_in xs (y ∷ ys) (suc i) d h l = member_in xs ys i d h.1 (omega (arith, l))

takes_no_sooner : (xs : List ℕ) (i j d : ℕ) → i < j → j < length xs →
    takes_part numbers is_nothing Decides-is_nothing xs i (get_or xs j d) ≡ false
takes_no_sooner [] i j d lt l = absurd (omega (arith, l))
takes_no_sooner (x ∷ xs) i zero d lt l = absurd (omega (arith, lt))
takes_no_sooner (x ∷ xs) zero (suc j) d lt l =
    ap not (spans_from_in numbers is_nothing Decides-is_nothing xs (get_or xs j d)
    (member_in xs xs j d (refl_in numbers xs) (omega (arith, l))))
takes_no_sooner (x ∷ xs) (suc i) (suc j) d lt l =
    let y = get_or xs j d in
    ap (takes_part numbers is_nothing Decides-is_nothing xs i)
    (ap (λ b. cond b y (bit_xor x y)) (spans_from_in numbers is_nothing Decides-is_nothing xs y
    (member_in xs xs j d (refl_in numbers xs) (omega (arith, l)))))
    ∙ takes_no_sooner xs i j d (omega (arith, lt)) (omega (arith, l))

-- ---- as many as there may be span all

all_spanned : (n : ℕ) (xs : List ℕ) → Free numbers xs → AllByRecursion (λ x. x < 2 ^ n) xs → length xs ≡ n →
    (y : ℕ) → y < 2 ^ n → InSpan numbers xs y
all_spanned n xs free below full y y_in = elim (cases_Bool (spans numbers is_nothing xs y)) [
  | inl spanned ↦ in_from_spans numbers is_nothing Decides-is_nothing xs y spanned
  | inr out ↦
      let few = width_law n (y ∷ xs) (All-from_recursion (λ x. x < 2 ^ n) (y ∷ xs) (y_in, below))
      (independent_from_free numbers (y ∷ xs) (
        (λ y_in. false≢true (sym out
            ∙ spans_from_in numbers is_nothing Decides-is_nothing xs y y_in)),
        free,
      )) in
      absurd (omega (arith, few, full))
]

-- ---- tests by the members below a bound

module _ (n : ℕ) (xs : List ℕ) (free : Free numbers xs) (below : AllByRecursion (λ x. x < 2 ^ n) xs)
    (full : length xs ≡ n) where
  abbrev test : ℕ → ℕ → Bool
  test i x = takes_part numbers is_nothing Decides-is_nothing xs i (number_of n (has x))

  linear : (i : ℕ) → IsLinear (test i)
  linear i = record {
    none = ap (takes_part numbers is_nothing Decides-is_nothing xs i)
        (same_from n (has 0) (λ k. false) (λ k l. below_law.no_member 0 (λ j. false) k (omega arith)) ∙ number_of-none n)
        ∙ takes_none numbers is_nothing Decides-is_nothing xs i;
    sum = λ x y.
        ap (takes_part numbers is_nothing Decides-is_nothing xs i)
        (same_from n (has (bit_xor x y)) (difference (has x) (has y)) (λ k l. has-xor x y k)
        ∙ number_of-sum n (has x) (has y))
        ∙ takes_sum numbers is_nothing Decides-is_nothing xs i (number_of n (has x)) (number_of n (has y))
        (all_spanned n xs free below full (number_of n (has x)) (small n (has x)))
        (all_spanned n xs free below full (number_of n (has y)) (small n (has y)));
  }

pub bases_have_tests : BasesHaveTests
bases_have_tests mesh d walks surface split basis = (
  test (length d.left) (map (class_of mesh d) walks) free below full,
  linear (length d.left) (map (class_of mesh d) walks) free below full,
  λ i l.
      ap (part i) (own_class (get_or walks i [])) ∙ ap (part i) (sym (at i l))
      ∙ takes_own numbers is_nothing Decides-is_nothing (map (class_of mesh d) walks) i (class_of mesh d []) free
      (omega (arith, l, count)),
  λ i j l k ne.
      ap (part i) (own_class (get_or walks j [])) ∙ ap (part i) (sym (at j k))
      ∙ elim (cases_lt i j) [
        | inl lt ↦ takes_no_sooner (map (class_of mesh d) walks) i j (class_of mesh d []) lt (omega (arith, k, count))
        | inr no_less ↦ elim (cases_lt j i) [
          | inl gt ↦
              takes_no_later numbers is_nothing Decides-is_nothing (map (class_of mesh d) walks) j i (class_of mesh d [])
              free gt (omega (arith, l, count))
          | inr no_more ↦ absurd (ne (omega (arith, no_less, no_more)))
        ]
      ],
)
  where
    part : ℕ → ℕ → Bool
    part i y = takes_part numbers is_nothing Decides-is_nothing (map (class_of mesh d) walks) i y

    count : length (map (class_of mesh d) walks) ≡ length walks
    count = length-map walks (class_of mesh d)

    free : Free numbers (map (class_of mesh d) walks)
    free = free_from_independent numbers (map (class_of mesh d) walks)
        ((independent_by_classes mesh d surface split walks basis.closed).0 basis.independent)

    classes_below : (ws : List (List ℕ)) → AllByRecursion (λ x. x < 2 ^ length d.left) (map (class_of mesh d) ws)
    classes_below [] = tt
    classes_below (w ∷ ws) = (small (length d.left) (chain_signature (cells_of mesh) d (parity mesh w)), classes_below ws)

    below : AllByRecursion (λ x. x < 2 ^ length d.left) (map (class_of mesh d) walks)
    below = classes_below walks

    full : length (map (class_of mesh d) walks) ≡ length d.left
    full =
        let left = left_edges (cells_of mesh) d split in
        let own = basis.count in
        omega (arith, left, own, count)

    at : (i : ℕ) → i < length walks →
        get_or (map (class_of mesh d) walks) i (class_of mesh d []) ≡ class_of mesh d (get_or walks i [])
    at i l = get_or-map (class_of mesh d) walks i [] (class_of mesh d []) l

    own_class : (w : List ℕ) → number_of (length d.left) (has (class_of mesh d w)) ≡ class_of mesh d w
    own_class w =
        let t = chain_signature (cells_of mesh) d (parity mesh w) in
        same_from (length d.left) (has (number_of (length d.left) t)) t (λ k l. below_law.member (length d.left) t k l)

-- ---- the members of classes as tests

member_linear : (k : ℕ) → IsLinear (λ x. has x k)
member_linear k = record {
  none = below_law.no_member 0 (λ j. false) k (omega arith);
  sum = λ x y. has-xor x y k;
}

none_or_some : (n : ℕ) (t : ℕ → Bool) →
    ((k : ℕ) → k < n → t k ≡ false) ⊎ ((k : ℕ) × (k < n) × (t k ≡ true))
none_or_some zero t = inl (λ k l. absurd (omega (arith, l)))
none_or_some (suc n) t = elim (none_or_some n t) [
  | inr (k, l, on) ↦ inr (k, omega (arith, l), on)
  | inl none ↦ elim (cases_Bool (t n)) [
    | inl on ↦ inr (n, omega arith, on)
    | inr off ↦ inl (λ k l. elim (cases_lt k n) [
      | inl less ↦ none k less
      | inr last ↦ let same : k ≡ n = omega (arith, l, last) in ap t same ∙ off
    ])
  ]
]

pub nonnull_walks_come_no_sooner : NonnullWalksComeNoSooner
nonnull_walks_come_no_sooner mesh d lengths place surface split first walk closed some =
    let t = chain_signature (cells_of mesh) d (parity mesh walk) in
    elim (none_or_some (length d.left) t) [
      | inl none ↦
          absurd (some ((null_by_class mesh d surface split walk closed).1
          (same_from (length d.left) t (λ k. false) none ∙ number_of-none (length d.left))))
      | inr (k, k_in, on) ↦
          first k k_in walk closed
          ((tests_are_cocycles mesh d (λ x. has x k) surface split (member_linear k)).1 walk closed
          ∙ below_law.member (length d.left) t k k_in ∙ on)
    ]
