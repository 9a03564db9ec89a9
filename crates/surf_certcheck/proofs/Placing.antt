-- What the places of cycles tell of sums: pure facts on sets of numbers.
use Rattle.surf_surfaces.proofs.Common.{◌≡◌, ◌≢◌, ℕ, zero, suc, ◌<◌, ◌≤◌, ◌^◌, Bool, true, false, cond, eqb, List, [], ◌∷◌, map, bit_xor, refl, sym, ap, ◌∙◌, subst, arith, inl, inr, AllByRecursion, cases_eq, cases_lt, cases_Bool, false≢true, xor, has, InSpan, add_in, zero_in, number_of, numbers, IsLinear, Chain, below_law, same_from_has, has-xor}
use Rattle.std.proofs.lemmas.Nat.Bits.{bit_at-pow_same, bit_at-pow_other, bit_at-zero, bit_at_above}

pub has_one : (k : ℕ) → has (2 ^ k) k ≡ true
has_one k = ap (λ b. eqb b 1) (bit_at-pow_same k)

pub has_other : (k m : ℕ) → m ≢ k → has (2 ^ k) m ≡ false
has_other k m ne = ap (λ b. eqb b 1) (bit_at-pow_other k m ne)

pub has_none : (m : ℕ) → has 0 m ≡ false
has_none m = ap (λ b. eqb b 1) (bit_at-zero m)

pub has_above : (n x k : ℕ) → x < 2 ^ n → n ≤ k → has x k ≡ false
has_above n x k small l = ap (λ b. eqb b 1) (bit_at_above x n k small l)

-- a number is made of its members
whole : (n x : ℕ) → x < 2 ^ n → x ≡ number_of n (has x)
whole n x small = same_from_has x (number_of n (has x)) (λ k. elim (cases_lt k n) [
  | inl l ↦ sym (below_law.member n (has x) k l)
  | inr past ↦ has_above n x k small past ∙ sym (below_law.no_member n (has x) k past)
])

-- one member more
one_more : (n : ℕ) (t : Chain) → number_of (suc n) t ≡ bit_xor (cond (t n) (2 ^ n) 0) (number_of n t)
one_more n t =
    same_from_has (number_of (suc n) t) (bit_xor (cond (t n) (2 ^ n) 0) (number_of n t)) (λ k.
    elim (cases_lt k n) [
      | inl l ↦
          below_law.member (suc n) t k (omega (arith, l))
          ∙ sym (has-xor (cond (t n) (2 ^ n) 0) (number_of n t) k
          ∙ rw (off (t n) k (omega (arith, l)), below_law.member n t k l) refl)
      | inr past ↦ elim (cases_eq k n) [
        | inl same ↦
            below_law.member (suc n) t k (omega (arith, same))
            ∙ sym (has-xor (cond (t n) (2 ^ n) 0) (number_of n t) k
            ∙ rw (below_law.no_member n t k past, same) (on (t n)))
        | inr ne ↦
            below_law.no_member (suc n) t k (omega (arith, past, ne))
            ∙ sym (has-xor (cond (t n) (2 ^ n) 0) (number_of n t) k
            ∙ rw (off (t n) k ne, below_law.no_member n t k past) refl)
      ]
    ])
  where
    off : (b : Bool) (k : ℕ) → k ≢ n → has (cond b (2 ^ n) 0) k ≡ false
    off true k ne = has_other n k ne
    off false k ne = has_none k

    on : (b : Bool) → xor (has (cond b (2 ^ n) 0) n) false ≡ b
    on true = rw (has_one n) refl
    on false = rw (has_none n) refl

-- what a map that takes sums to sums makes of a set is spanned where what it makes of each member alone is
pub gathered : (back : ℕ → ℕ) → IsLinear numbers numbers back → (ys : List ℕ) (n x : ℕ) → x < 2 ^ n →
    ((k : ℕ) → k < n → has x k ≡ true → InSpan numbers ys (back (2 ^ k))) → InSpan numbers ys (back x)
gathered back linear ys n x small each =
    subst (λ y. InSpan numbers ys (back y)) (sym (whole n x small)) (go n (λ k l. each k l))
  where
    go : (m : ℕ) → ((k : ℕ) → k < m → has x k ≡ true → InSpan numbers ys (back (2 ^ k))) →
        InSpan numbers ys (back (number_of m (has x)))
    go zero h = subst (InSpan numbers ys) (sym linear.zero) (zero_in numbers ys)
    go (suc m) h =
        let rest = go m (λ k l on. h k (omega (arith, l)) on) in
        let top : InSpan numbers ys (back (cond (has x m) (2 ^ m) 0)) = elim (cases_Bool (has x m)) [
          | inl on ↦ rw on (h m (omega arith) on)
          | inr off ↦ rw off (subst (InSpan numbers ys) (sym linear.zero) (zero_in numbers ys))
        ] in
        subst (λ y. InSpan numbers ys y)
        (sym (ap back (one_more m (has x)) ∙ linear.add (cond (has x m) (2 ^ m) 0) (number_of m (has x))))
        (add_in numbers ys (back (cond (has x m) (2 ^ m) 0)) (back (number_of m (has x))) top rest)

-- the members of a sum of sets of one member each are members of these
pub members_of_sum : (Good : ℕ → Type 0) (zs : List ℕ) → AllByRecursion (λ z. (k : ℕ) × (z ≡ 2 ^ k) × Good k) zs →
    (y m : ℕ) → InSpan numbers zs y → has y m ≡ true → Good m
members_of_sum Good [] h y m in' on = absurd (false≢true (sym (ap (λ x. has x m) in' ∙ has_none m) ∙ on))
members_of_sum Good (z ∷ zs) h y m (inl in') on = members_of_sum Good zs h.1 y m in' on
members_of_sum Good (z ∷ zs) h y m (inr in') on =
    let (k, is, good) = h.0 in
    elim (cases_eq m k) [
      | inl same ↦ subst Good (sym same) good
      | inr ne ↦
          let off : has z m ≡ false = ap (λ x. has x m) is ∙ has_other k m ne in
          members_of_sum Good zs h.1 (bit_xor z y) m in' (has-xor z y m ∙ rw (off, on) refl)
    ]

-- the images of what is spanned
pub image_in : (f : ℕ → ℕ) → IsLinear numbers numbers f → (xs : List ℕ) (y : ℕ) → InSpan numbers xs y →
    InSpan numbers (map f xs) (f y)
image_in f linear [] y h = ap f h ∙ linear.zero
image_in f linear (x ∷ xs) y (inl h) = inl (image_in f linear xs y h)
image_in f linear (x ∷ xs) y (inr h) =
    inr (subst (InSpan numbers (map f xs)) (linear.add x y) (image_in f linear xs (bit_xor x y) h))
