-- Which of independent vectors take part in a sum of them.
use Rattle.surf_surfaces.proofs.Common.{◌≡◌, ℕ, zero, suc, ◌<◌, Bool, true, false, not, ◌&&◌, cond, List, [], ◌∷◌, length, get_or, map, filter, refl, sym, ap, ◌∙◌, subst, arith, inl, inr, cases_Bool, false≢true, Space, InSpan, Free, AllInSpan, add_in, zero_in, spans, xor, odd_below, not_spans}
use Rattle.std.specs.Bool.{Decides}
use Rattle.surf_z2.proofs.Greedy.{in_from_spans, spans_from_in}
use Rattle.surf_z2.proofs.Linear.{sum_over, over_in}
use Rattle.surf_z2.proofs.Ranks.{in_whole}
use Rattle.surf_z2.proofs.Span.{left_comm, meet, rest_in, refl_in}

module _ {V : Type 0} (S : Space V) (is_zero : V → Bool) (right : (v : V) → Decides (is_zero v) (v ≡ S.zero)) where
  -- what later vectors sum to, without the first or with it
  abbrev pub left_of : V → List V → V → V
  left_of x xs y = cond (spans S is_zero xs y) y (S.add x y)

  -- whether the vector with a number takes part in a sum
  abbrev pub takes_part : List V → ℕ → V → Bool
  takes_part [] i y = false
  takes_part (x ∷ xs) zero y = not (spans S is_zero xs y)
  takes_part (x ∷ xs) (suc i) y = takes_part xs i (left_of x xs y)

  left_same : (x : V) (xs : List V) (y : V) → InSpan S xs y → left_of x xs y ≡ y
  left_same x xs y h = ap (λ b. cond b y (S.add x y)) (spans_from_in S is_zero right xs y h)

  left_other : (x : V) (xs : List V) (y : V) → (InSpan S xs y → ⊥) → left_of x xs y ≡ S.add x y
  left_other x xs y h = ap (λ b. cond b y (S.add x y)) (not_spans S is_zero right xs y h)

  left_in : (x : V) (xs : List V) (y : V) → InSpan S (x ∷ xs) y → InSpan S xs (left_of x xs y)
  left_in x xs y h = elim (cases_Bool (spans S is_zero xs y)) [
    | inl in_rest ↦
        subst (InSpan S xs) (sym (ap (λ b. cond b y (S.add x y)) in_rest)) (in_from_spans S is_zero right xs y in_rest)
    | inr out ↦ elim h [
      | inl k ↦ absurd (false≢true (sym out ∙ spans_from_in S is_zero right xs y k))
      | inr k ↦ subst (InSpan S xs) (sym (ap (λ b. cond b y (S.add x y)) out)) k
    ]
  ]

  pub takes_none : (xs : List V) (i : ℕ) → takes_part xs i S.zero ≡ false
  takes_none [] i = refl
  takes_none (x ∷ xs) zero = ap not (spans_from_in S is_zero right xs S.zero (zero_in S xs))
  takes_none (x ∷ xs) (suc i) = ap (takes_part xs i) (left_same x xs S.zero (zero_in S xs)) ∙ takes_none xs i

  -- what is left of a sum of two
  record IsSum (x : V) (xs : List V) (y z : V) : Type 0 where
    first : not (spans S is_zero xs (S.add y z)) ≡ xor (not (spans S is_zero xs y)) (not (spans S is_zero xs z))
    rest : left_of x xs (S.add y z) ≡ S.add (left_of x xs y) (left_of x xs z)

  sum_left : (x : V) (xs : List V) (y z : V) → InSpan S (x ∷ xs) y → InSpan S (x ∷ xs) z → IsSum x xs y z
  sum_left x xs y z h k = elim (cases_Bool (spans S is_zero xs y)) [
    | inl y_in ↦
        let y_rest = in_from_spans S is_zero right xs y y_in in
        elim (cases_Bool (spans S is_zero xs z)) [
          | inl z_in ↦
              let both = spans_from_in S is_zero right xs (S.add y z)
              (add_in S xs y z y_rest (in_from_spans S is_zero right xs z z_in)) in
              record { first = rw (both, y_in, z_in) refl; rest = rw (both, y_in, z_in) refl }
          | inr z_out ↦
              let none = not_spans S is_zero right xs (S.add y z) (λ both. false≢true (sym z_out
              ∙ spans_from_in S is_zero right xs z (rest_in S xs y z y_rest both))) in
              record { first = rw (none, y_in, z_out) refl; rest = rw (none, y_in, z_out) (left_comm S x y z) }
        ]
    | inr y_out ↦ elim (cases_Bool (spans S is_zero xs z)) [
      | inl z_in ↦
          let z_rest = in_from_spans S is_zero right xs z z_in in
          let none = not_spans S is_zero right xs (S.add y z) (λ both. false≢true (sym y_out
          ∙ spans_from_in S is_zero right xs y (rest_in S xs z y z_rest (subst (InSpan S xs) (S.comm y z) both)))) in
          record { first = rw (none, y_out, z_in) refl; rest = rw (none, y_out, z_in) (sym (S.assoc x y z)) }
      | inr z_out ↦
          let y_with = subst (InSpan S xs) (ap (λ b. cond b y (S.add x y)) y_out) (left_in x xs y h) in
          let z_with = subst (InSpan S xs) (ap (λ b. cond b z (S.add x z)) z_out) (left_in x xs z k) in
          let both = spans_from_in S is_zero right xs (S.add y z)
          (subst (InSpan S xs) (meet S x y z) (add_in S xs (S.add x y) (S.add x z) y_with z_with)) in
          record { first = rw (both, y_out, z_out) refl; rest = rw (both, y_out, z_out) (sym (meet S x y z)) }
    ]
  ]

  pub takes_sum : (xs : List V) (i : ℕ) (y z : V) → InSpan S xs y → InSpan S xs z →
      takes_part xs i (S.add y z) ≡ xor (takes_part xs i y) (takes_part xs i z)
  takes_sum [] i y z h k = refl
  takes_sum (x ∷ xs) zero y z h k = (sum_left x xs y z h k).first
  takes_sum (x ∷ xs) (suc i) y z h k =
      ap (takes_part xs i) (sum_left x xs y z h k).rest
      ∙ takes_sum xs i (left_of x xs y) (left_of x xs z) (left_in x xs y h) (left_in x xs z k)

  -- the same of a sum over numbers
  pub takes_over : (xs : List V) (i n : ℕ) (set : ℕ → Bool) (v : ℕ → V) → ((k : ℕ) → k < n → InSpan S xs (v k)) →
      takes_part xs i (sum_over S n set v) ≡ odd_below n (λ k. set k && takes_part xs i (v k))
  takes_over xs i zero set v h = takes_none xs i
  takes_over xs i (suc n) set v h =
      split (set n) (takes_over xs i n set v (λ k l. h k (omega (arith, l))))
      (over_in S xs n set v (λ k l s. h k (omega (arith, l))))
    where
      split : (b : Bool) → takes_part xs i (sum_over S n set v) ≡ odd_below n (λ k. set k && takes_part xs i (v k)) →
          InSpan S xs (sum_over S n set v) →
          takes_part xs i (cond b (S.add (v n) (sum_over S n set v)) (sum_over S n set v))
          ≡ xor (b && takes_part xs i (v n)) (odd_below n (λ k. set k && takes_part xs i (v k)))
      split true e rest_is =
          takes_sum xs i (v n) (sum_over S n set v) (h n (omega arith)) rest_is ∙ ap (xor (takes_part xs i (v n))) e
      split false e rest_is = e

  member_at : (xs ys : List V) (i : ℕ) (d : V) → AllInSpan S xs ys → i < length ys → InSpan S xs (get_or ys i d)
  member_at xs [] i d h l = absurd (omega (arith, l))
  member_at xs (y ∷ ys) zero d h l = h.0
  member_at xs (y ∷ ys) (suc i) d h l = member_at xs ys i d h.1 (omega (arith, l))

  -- each takes part in itself, and none that comes later does
  pub takes_own : (xs : List V) (i : ℕ) (d : V) → Free S xs → i < length xs → takes_part xs i (get_or xs i d) ≡ true
  takes_own [] i d f l = absurd (omega (arith, l))
  takes_own (x ∷ xs) zero d f l = ap not (not_spans S is_zero right xs x f.0)
  takes_own (x ∷ xs) (suc i) d f l =
      ap (takes_part xs i)
      (left_same x xs (get_or xs i d) (member_at xs xs i d (refl_in S xs) (omega (arith, l))))
      ∙ takes_own xs i d f.1 (omega (arith, l))

  pub takes_no_later : (xs : List V) (i j : ℕ) (d : V) → Free S xs → i < j → j < length xs →
      takes_part xs j (get_or xs i d) ≡ false
  takes_no_later [] i j d f lt l = absurd (omega (arith, l))
  takes_no_later (x ∷ xs) i zero d f lt l = absurd (omega (arith, lt))
  takes_no_later (x ∷ xs) zero (suc j) d f lt l =
      ap (takes_part xs j) (left_other x xs x f.0 ∙ S.self x) ∙ takes_none xs j
  takes_no_later (x ∷ xs) (suc i) (suc j) d f lt l =
      ap (takes_part xs j)
      (left_same x xs (get_or xs i d) (member_at xs xs i d (refl_in S xs) (omega (arith, lt, l))))
      ∙ takes_no_later xs i j d f.1 (omega (arith, lt)) (omega (arith, l))

  module _ {I : Type 0} (vec : I → V) (p : I → Bool) where
    abbrev OnlyPassing : List I → I → Type 0
    OnlyPassing xs d = (j : ℕ) → j < length xs → (u : V) → InSpan S (map vec (filter p xs)) u →
        takes_part (map vec xs) j u ≡ true → p (get_or xs j d) ≡ true

    -- only what passes takes part in a sum of what passes
    pub takes_passing : (xs : List I) (i : ℕ) (d : I) (y : V) → Free S (map vec xs) → i < length xs →
        InSpan S (map vec (filter p xs)) y → takes_part (map vec xs) i y ≡ true → p (get_or xs i d) ≡ true
    takes_passing [] i d y f l h on = absurd (omega (arith, l))
    takes_passing (x ∷ xs) i d y f l h on =
        split (λ j jl u k part. takes_passing xs j d u f.1 jl k part) (p x) refl i l h on
      where
        later : OnlyPassing xs d → (j : ℕ) → j < length xs → (u : V) → InSpan S (map vec (filter p xs)) u →
            left_of (vec x) (map vec xs) y ≡ u → takes_part (map vec xs) j (left_of (vec x) (map vec xs) y) ≡ true →
            p (get_or xs j d) ≡ true
        later again j jl u k same part = again j jl u k (ap (takes_part (map vec xs) j) (sym same) ∙ part)

        split : OnlyPassing xs d → (b : Bool) → p x ≡ b → (j : ℕ) → j < suc (length xs) →
            InSpan S (map vec (cond b (x ∷ filter p xs) (filter p xs))) y →
            takes_part (vec x ∷ map vec xs) j y ≡ true → p (get_or (x ∷ xs) j d) ≡ true
        split again true is zero jl k part = is
        split again true is (suc j) jl (inl k) part =
            later again j (omega (arith, jl)) y k (left_same (vec x) (map vec xs) y (in_whole S vec p xs y k)) part
        split again true is (suc j) jl (inr k) part =
            later again j (omega (arith, jl)) (S.add (vec x) y) k (left_other (vec x) (map vec xs) y (λ y_in.
            f.0 (rest_in S (map vec xs) y (vec x) y_in
            (subst (InSpan S (map vec xs)) (S.comm (vec x) y) (in_whole S vec p xs (S.add (vec x) y) k))))) part
        split again false is zero jl k part =
            absurd (false≢true (sym (ap not (spans_from_in S is_zero right (map vec xs) y (in_whole S vec p xs y k))) ∙ part))
        split again false is (suc j) jl k part =
            later again j (omega (arith, jl)) y k (left_same (vec x) (map vec xs) y (in_whole S vec p xs y k)) part
