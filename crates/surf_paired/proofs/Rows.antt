-- Images by rows, and how elimination pairs them.
use Rattle.surf_surfaces.proofs.Common.{◌≡◌, ℕ, zero, suc, ◌+◌, ◌<◌, ◌≤◌, ◌^◌, Bool, true, false, cond, List, [], ◌∷◌, length, get_or-map, length-map, map, bit_xor, refl, sym, ap, ◌∙◌, subst, arith, inl, inr, cases_Bool, cases_lt, cases_eq, true≢false, slice_index, xor_lt, pow_pos, pow_below, has, has-xor, xor, numbers, xor_self, xor_zero_r, below_law, same_from_has, number_of, Independent, take, eqb, chosen, sum_of, AllByRecursion, All-from_recursion, recursion_from_All, IsLinear, length-take-le, get_or-take, get_or_default}
use Rattle.surf_z2.proofs.Span.{four}
use Rattle.surf_z2.proofs.Below.{chosen-map}
use Rattle.surf_z2.proofs.Linear.{linear-sum_of}
use Rattle.surf_z2.proofs.Width.{width_law}
use Rattle.surf_surfaces.proofs.classes.LeastLaws.{all_mapped}
use Rattle.std.proofs.lemmas.Nat.Bits.{bit_at-pow_same, bit_at-pow_other, bit_at-zero, bit_at_above}
use Rattle.surf_paired.specs.Paired.{sum_of_rows, image, moved}
use Rattle.surf_paired.specs.Laws.{ImagesAdd, ImagesMove, UnitsPairNone, NextHasOwn, PairsStay, OnePairMore}

pub has_one : (k : ℕ) → has (2 ^ k) k ≡ true
has_one k = ap (λ b. eqb b 1) (bit_at-pow_same k)

pub has_other : (k m : ℕ) → (m ≡ k → ⊥) → has (2 ^ k) m ≡ false
has_other k m ne = ap (λ b. eqb b 1) (bit_at-pow_other k m ne)

pub has_none : (m : ℕ) → has 0 m ≡ false
has_none m = ap (λ b. eqb b 1) (bit_at-zero m)

pub has_above : (n x k : ℕ) → x < 2 ^ n → n ≤ k → has x k ≡ false
has_above n x k small l = ap (λ b. eqb b 1) (bit_at_above x n k small l)

-- ---- images

-- the sum of a sum
sums_add : (rows : ℕ → ℕ) (x y n : ℕ) →
    sum_of_rows rows (bit_xor x y) n ≡ bit_xor (sum_of_rows rows x n) (sum_of_rows rows y n)
sums_add rows x y zero = refl
sums_add rows x y (suc n) =
    split (has x n) (has y n) (has-xor x y n) (sums_add rows x y n)
  where
    r : ℕ
    r = rows n

    split : (a b : Bool) → has (bit_xor x y) n ≡ xor a b →
        sum_of_rows rows (bit_xor x y) n ≡ bit_xor (sum_of_rows rows x n) (sum_of_rows rows y n) →
        cond (has (bit_xor x y) n) (bit_xor (rows n) (sum_of_rows rows (bit_xor x y) n)) (sum_of_rows rows (bit_xor x y) n)
        ≡ bit_xor (cond a (bit_xor (rows n) (sum_of_rows rows x n)) (sum_of_rows rows x n))
        (cond b (bit_xor (rows n) (sum_of_rows rows y n)) (sum_of_rows rows y n))
    split true true at rest =
        rw at (rest ∙ sym (four numbers (rows n) (sum_of_rows rows x n) (rows n) (sum_of_rows rows y n)
        ∙ ap (λ z. bit_xor z (bit_xor (sum_of_rows rows x n) (sum_of_rows rows y n))) (xor_self (rows n))
        ∙ numbers.unit (bit_xor (sum_of_rows rows x n) (sum_of_rows rows y n))))
    split true false at rest =
        rw at (ap (bit_xor (rows n)) rest ∙ sym (numbers.assoc (rows n) (sum_of_rows rows x n) (sum_of_rows rows y n)))
    split false true at rest =
        rw at (ap (bit_xor (rows n)) rest
        ∙ sym (numbers.assoc (rows n) (sum_of_rows rows x n) (sum_of_rows rows y n))
        ∙ ap (λ z. bit_xor z (sum_of_rows rows y n)) (numbers.comm (rows n) (sum_of_rows rows x n))
        ∙ numbers.assoc (sum_of_rows rows x n) (rows n) (sum_of_rows rows y n))
    split false false at rest = rw at rest

pub images_add : ImagesAdd
images_add rows x y = sums_add (slice_index rows) x y (length rows)

-- what is added to rows that have a number
moved_none : (k other : ℕ) → moved k other 0 ≡ 0
moved_none k other = rw (has_none k) refl

moved_add : (k other x y : ℕ) → moved k other (bit_xor x y) ≡ bit_xor (moved k other x) (moved k other y)
moved_add k other x y = both (has x k) (has y k) refl refl
  where
    both : (a b : Bool) → has x k ≡ a → has y k ≡ b →
        moved k other (bit_xor x y) ≡ bit_xor (moved k other x) (moved k other y)
    both true true on_x on_y = rw (has-xor x y k, on_x, on_y)
        (sym (four numbers x other y other ∙ ap (bit_xor (bit_xor x y)) (xor_self other) ∙ xor_zero_r (bit_xor x y)))
    both true false on_x on_y = rw (has-xor x y k, on_x, on_y)
        (sym (ap (bit_xor (bit_xor x other)) (sym (xor_zero_r y)) ∙ four numbers x other y 0
        ∙ ap (bit_xor (bit_xor x y)) (xor_zero_r other)))
    both false true on_x on_y = rw (has-xor x y k, on_x, on_y) (numbers.assoc x y other)
    both false false on_x on_y = rw (has-xor x y k, on_x, on_y) refl

sums_move : (rows other_rows : ℕ → ℕ) (k other x n : ℕ) → ((b : ℕ) → b < n → other_rows b ≡ moved k other (rows b)) →
    sum_of_rows other_rows x n ≡ moved k other (sum_of_rows rows x n)
sums_move rows other_rows k other x zero same = sym (moved_none k other)
sums_move rows other_rows k other x (suc n) same =
    split (has x n) (sums_move rows other_rows k other x n (λ b l. same b (omega (arith, l))))
  where
    split : (a : Bool) → sum_of_rows other_rows x n ≡ moved k other (sum_of_rows rows x n) →
        cond a (bit_xor (other_rows n) (sum_of_rows other_rows x n)) (sum_of_rows other_rows x n)
        ≡ moved k other (cond a (bit_xor (rows n) (sum_of_rows rows x n)) (sum_of_rows rows x n))
    split true rest =
        ap (λ r. bit_xor r (sum_of_rows other_rows x n)) (same n (omega arith))
        ∙ ap (bit_xor (moved k other (rows n))) rest
        ∙ sym (moved_add k other (rows n) (sum_of_rows rows x n))
    split false rest = rest

pub images_move : ImagesMove
images_move rows k other x =
    ap (sum_of_rows (slice_index (map (moved k other) rows)) x) (length-map rows (moved k other))
    ∙ sums_move (slice_index rows) (slice_index (map (moved k other) rows)) k other x (length rows)
    (λ b l. get_or-map (moved k other) rows b 0 0 l)

-- an image has only numbers that rows have
sums_small : (rows : ℕ → ℕ) (x m n : ℕ) → ((k : ℕ) → k < n → rows k < 2 ^ m) → sum_of_rows rows x n < 2 ^ m
sums_small rows x m zero small = pow_pos m
sums_small rows x m (suc n) small = split (has x n) (sums_small rows x m n (λ k l. small k (omega (arith, l))))
  where
    split : (a : Bool) → sum_of_rows rows x n < 2 ^ m →
        cond a (bit_xor (rows n) (sum_of_rows rows x n)) (sum_of_rows rows x n) < 2 ^ m
    split true rest = xor_lt m (rows n) (sum_of_rows rows x n) (small n (omega arith)) rest
    split false rest = rest

pub image_small : (rows : List ℕ) (x m : ℕ) → ((k : ℕ) → k < length rows → slice_index rows k < 2 ^ m) →
    image rows x < 2 ^ m
image_small rows x m small = sums_small (slice_index rows) x m (length rows) small

pub image_none : (rows : List ℕ) → image rows 0 ≡ 0
image_none rows = go (length rows)
  where
    go : (n : ℕ) → sum_of_rows (slice_index rows) 0 n ≡ 0
    go zero = refl
    go (suc n) = rw (has_none n) (go n)

-- ---- units

pub units_small : (x n : ℕ) → sum_of_rows (λ k. 2 ^ k) x n < 2 ^ n
units_small x n = sums_small (λ k. 2 ^ k) x n n (λ k l. pow_below k n l)

-- the image by units has the numbers of the set
pub units_have : (rows : ℕ → ℕ) (x n : ℕ) → ((k : ℕ) → k < n → rows k ≡ 2 ^ k) → (k : ℕ) → k < n →
    has (sum_of_rows rows x n) k ≡ has x k
units_have rows x zero units k l = absurd (omega (arith, l))
units_have rows x (suc n) units k l =
    split (has x n) refl (units_have rows x n (λ b m. units b (omega (arith, m))))
    (sums_small rows x n n (λ b m. subst (λ r. r < 2 ^ n) (sym (units b (omega (arith, m)))) (pow_below b n m)))
  where
    split : (a : Bool) → has x n ≡ a → ((b : ℕ) → b < n → has (sum_of_rows rows x n) b ≡ has x b) →
        sum_of_rows rows x n < 2 ^ n →
        has (cond a (bit_xor (rows n) (sum_of_rows rows x n)) (sum_of_rows rows x n)) k ≡ has x k
    split true is before small = elim (cases_eq k n) [
      | inl same ↦
          has-xor (rows n) (sum_of_rows rows x n) k
          ∙ ap (λ r. xor (has r k) (has (sum_of_rows rows x n) k)) (units n (omega arith))
          ∙ ap (xor (has (2 ^ n) k)) (has_above n (sum_of_rows rows x n) k small (omega (arith, same)))
          ∙ ap (λ j. xor (has (2 ^ n) j) false) same ∙ ap (λ b. xor b false) (has_one n)
          ∙ sym is ∙ ap (has x) (sym same)
      | inr ne ↦
          has-xor (rows n) (sum_of_rows rows x n) k
          ∙ ap (λ r. xor (has r k) (has (sum_of_rows rows x n) k)) (units n (omega arith))
          ∙ ap (λ b. xor b (has (sum_of_rows rows x n) k)) (has_other n k ne)
          ∙ before k (omega (arith, l, ne))
    ]
    split false is before small = elim (cases_eq k n) [
      | inl same ↦
          has_above n (sum_of_rows rows x n) k small (omega (arith, same)) ∙ sym is ∙ ap (has x) (sym same)
      | inr ne ↦ before k (omega (arith, l, ne))
    ]

pub units_pair_none : UnitsPairNone
units_pair_none classes rows units = record {
  small = λ k l. subst (λ r. r < 2 ^ length rows) (sym (units k l)) (pow_below k (length rows) l);
  faithful = λ x small none. same_from_has x 0 (λ k. elim (cases_lt k (length rows)) [
    | inl l ↦
        sym (units_have (slice_index rows) x (length rows) units k l) ∙ ap (λ y. has y k) none
    | inr past ↦ has_above (length rows) x k small past ∙ sym (has_none k)
  ]);
  own = λ i l. absurd (omega (arith, l));
  later = λ i j l lt. absurd (omega (arith, l));
}

-- ---- pairs

-- nothing but the empty set becomes empty
moved_faithful : (k other y : ℕ) → has other k ≡ false → moved k other y ≡ 0 → y ≡ 0
moved_faithful k other y off none = split (has y k) refl
  where
    split : (a : Bool) → has y k ≡ a → y ≡ 0
    split false is = sym (ap (λ b. cond b (bit_xor y other) y) is) ∙ none
    split true is =
        let sum : bit_xor y other ≡ 0 = sym (ap (λ b. cond b (bit_xor y other) y) is) ∙ none in
        absurd (true≢false (sym (has-xor y other k ∙ ap (λ b. xor b (has other k)) is ∙ ap (xor true) off)
        ∙ ap (λ z. has z k) sum ∙ has_none k))

moved_off : (k other y : ℕ) → has y k ≡ false → moved k other y ≡ y
moved_off k other y off = ap (λ b. cond b (bit_xor y other) y) off

moved_on : (k other y : ℕ) → has y k ≡ true → moved k other y ≡ bit_xor y other
moved_on k other y on = ap (λ b. cond b (bit_xor y other) y) on

moved_small : (k other y m : ℕ) → other < 2 ^ m → y < 2 ^ m → moved k other y < 2 ^ m
moved_small k other y m small_other small = elim (cases_Bool (has y k)) [
  | inl on ↦ subst (λ z. z < 2 ^ m) (sym (moved_on k other y on)) (xor_lt m y other small small_other)
  | inr off ↦ subst (λ z. z < 2 ^ m) (sym (moved_off k other y off)) small
]

pub pairs_stay : PairsStay
pairs_stay classes rows n k other n_le small_other off paired =
    let size : length (map (moved k other) rows) ≡ length rows = length-map rows (moved k other) in
    let stays : (i : ℕ) → i < n →
    image (map (moved k other) rows) (slice_index classes i) ≡ image rows (slice_index classes i) =
    λ i l. images_move rows k other (slice_index classes i)
    ∙ moved_off k other (image rows (slice_index classes i)) (paired.later i k l (omega (arith, l, n_le))) in
    record {
      small = λ b l.
          let b_in : b < length rows = omega (arith, l, size) in
          subst (λ m. slice_index (map (moved k other) rows) b < 2 ^ m) (sym size)
          (subst (λ r. r < 2 ^ length rows) (sym (get_or-map (moved k other) rows b 0 0 b_in))
          (moved_small k other (slice_index rows b) (length rows) small_other (paired.small b b_in)));
      faithful = λ x small none.
          paired.faithful x (subst (λ m. x < 2 ^ m) size small)
          (moved_faithful k other (image rows x) off (sym (images_move rows k other x) ∙ none));
      own = λ i l. ap (λ y. has y i) (stays i l) ∙ paired.own i l;
      later = λ i j l lt. ap (λ y. has y j) (stays i l) ∙ paired.later i j l lt;
    }

xor_own : (a : Bool) → xor a a ≡ false
xor_own true = refl
xor_own false = refl

pub one_pair_more : OnePairMore
one_pair_more classes rows n other small_other off on above paired =
    let before = pairs_stay classes rows n n other (omega arith) small_other off paired in
    let c = slice_index classes n in
    let here : image (map (moved n other) rows) c ≡ bit_xor (image rows c) other =
    images_move rows n other c ∙ moved_on n other (image rows c) on in
    let own_here : has (image (map (moved n other) rows) c) n ≡ true =
    ap (λ y. has y n) here ∙ has-xor (image rows c) other n ∙ ap (λ b. xor b (has other n)) on ∙ ap (xor true) off in
    let later_here : (j : ℕ) → n < j → has (image (map (moved n other) rows) c) j ≡ false =
    λ j lt. ap (λ y. has y j) here ∙ has-xor (image rows c) other j ∙ ap (xor (has (image rows c) j)) (above j lt)
    ∙ xor_own (has (image rows c) j) in
    record {
      small = before.small;
      faithful = before.faithful;
      own = λ i l. elim (cases_eq i n) [
        | inl same ↦
            subst (λ m. has (image (map (moved n other) rows) (slice_index classes m)) m ≡ true) (sym same) own_here
        | inr ne ↦ before.own i (omega (arith, l, ne))
      ];
      later = λ i j l lt. elim (cases_eq i n) [
        | inl same ↦
            subst (λ m. has (image (map (moved n other) rows) (slice_index classes m)) j ≡ false) (sym same)
            (later_here j (omega (arith, lt, same)))
        | inr ne ↦ before.later i j (omega (arith, l, ne)) lt
      ];
    }

-- ---- the next class

-- a set without numbers from n on is below the power of n
pub small_without : (n x : ℕ) → ((k : ℕ) → n ≤ k → has x k ≡ false) → x < 2 ^ n
small_without n x none =
    subst (λ y. y < 2 ^ n)
    (same_from_has (number_of n (has x)) x (λ k. elim (cases_lt k n) [
      | inl l ↦ below_law.member n (has x) k l
      | inr past ↦ below_law.no_member n (has x) k past ∙ sym (none k past)
    ])) (below_law.small n (has x))

chosen_first : (choice : List Bool) (m : ℕ) (xs : List ℕ) → chosen choice (take m xs) ≡ chosen (take m choice) xs
chosen_first [] zero xs = refl
chosen_first [] (suc m) xs = refl
chosen_first (b ∷ bs) zero xs = refl
chosen_first (b ∷ bs) (suc m) [] = refl
chosen_first (true ∷ bs) (suc m) (x ∷ xs) = ap (λ ys. x ∷ ys) (chosen_first bs m xs)
chosen_first (false ∷ bs) (suc m) (x ∷ xs) = chosen_first bs m xs

chosen_small : (m : ℕ) (choice : List Bool) (xs : List ℕ) → AllByRecursion (λ x. x < 2 ^ m) xs →
    sum_of numbers (chosen choice xs) < 2 ^ m
chosen_small m [] xs small = pow_pos m
chosen_small m (b ∷ bs) [] small = pow_pos m
chosen_small m (true ∷ bs) (x ∷ xs) small = xor_lt m x (sum_of numbers (chosen bs xs)) small.0 (chosen_small m bs xs small.1)
chosen_small m (false ∷ bs) (x ∷ xs) small = chosen_small m bs xs small.1

pub next_has_own : NextHasOwn
next_has_own classes rows n independent below n_in paired none =
    let few = width_law n (map (image rows) (take (n + 1) classes))
    (All-from_recursion (λ x. x < 2 ^ n) (map (image rows) (take (n + 1) classes)) all_small) images_independent in
    let size : length (map (image rows) (take (n + 1) classes)) ≡ n + 1 =
    length-map (take (n + 1) classes) (image rows) ∙ length-take-le (n + 1) classes (omega (arith, n_in)) in
    omega (arith, few, size)
  where
    linear : IsLinear numbers numbers (image rows)
    linear = record { zero = image_none rows; add = images_add rows }

    images_independent : Independent numbers (map (image rows) (take (n + 1) classes))
    images_independent choice zero_sum =
        let zs = take (n + 1) classes in
        let some = chosen choice zs in
        let same : chosen choice zs ≡ chosen (take (n + 1) choice) classes = chosen_first choice (n + 1) classes in
        let image_is : image rows (sum_of numbers (chosen choice zs)) ≡ 0 =
        linear-sum_of numbers numbers (image rows) linear (chosen choice zs)
        ∙ ap (sum_of numbers) (sym (chosen-map (image rows) choice zs)) ∙ zero_sum in
        let sum_small : sum_of numbers (chosen choice zs) < 2 ^ length rows =
        subst (λ ys. sum_of numbers ys < 2 ^ length rows) (sym same)
        (chosen_small (length rows) (take (n + 1) choice) classes
        (recursion_from_All (λ c. c < 2 ^ length rows) classes below)) in
        let gone : chosen (take (n + 1) choice) classes ≡ [] =
        independent (take (n + 1) choice)
        (ap (sum_of numbers) (sym same) ∙ paired.faithful (sum_of numbers (chosen choice zs)) sum_small image_is) in
        chosen-map (image rows) choice zs ∙ ap (map (image rows)) (same ∙ gone)

    each_small : (i : ℕ) → i < n + 1 → image rows (slice_index classes i) < 2 ^ n
    each_small i l = small_without n (image rows (slice_index classes i)) (λ k past. elim (cases_eq i n) [
      | inl same ↦ elim (cases_lt k (length rows)) [
        | inl k_in ↦ ap (λ j. has (image rows (slice_index classes j)) k) same ∙ none k past k_in
        | inr above ↦
            has_above (length rows) (image rows (slice_index classes i)) k
            (image_small rows (slice_index classes i) (length rows) paired.small) above
      ]
      | inr ne ↦ paired.later i k (omega (arith, l, ne)) (omega (arith, l, ne, past))
    ])

    all_small : AllByRecursion (λ x. x < 2 ^ n) (map (image rows) (take (n + 1) classes))
    all_small = all_mapped (λ x. x < 2 ^ n) (image rows) (take (n + 1) classes)
        (recursion_from_All (λ c. image rows c < 2 ^ n) (take (n + 1) classes) (λ k d l.
        let size : length (take (n + 1) classes) ≡ n + 1 = length-take-le (n + 1) classes (omega (arith, n_in)) in
        let k_in : k < n + 1 = omega (arith, l, size) in
        subst (λ c. image rows c < 2 ^ n)
        (get_or_default classes k 0 d (omega (arith, k_in, n_in)) ∙ sym (get_or-take (n + 1) classes k d k_in))
        (each_small k k_in)))
