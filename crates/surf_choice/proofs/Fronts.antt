-- Rows that come of sets one by one: the first rows span what the first sets span.
use Rattle.surf_choice.proofs.Common.{ℕ, zero, suc, ◌≡◌, ◌<◌, ◌≤◌, ◌↔◌, List, [], ◌∷◌, ◌++◌, length, get_or, take, bit_xor, refl, sym, ap, subst, arith, inl, inr, append_assoc, append-nil, numbers, Spanned, Independent, AllInSpan, head_in, rest_in, trans_in, zero_in, in_from_spanned, spanned_from_in, free_from_independent, xor_comm, AreRowsAfter, AreRowsOf}
use Rattle.surf_surfaces.proofs.Common.{InSpan, Free}
use Rattle.surf_z2.proofs.Basics.{in_left, in_right, all_left, all_joined}

-- two lists span the same
abbrev pub AreAlike : List ℕ → List ℕ → Type 0
AreAlike xs ys = AllInSpan numbers xs ys × AllInSpan numbers ys xs

-- so they do with a row and its set
alike_more : (before seen : List ℕ) (r s : ℕ) → AreAlike before seen → Spanned numbers before (bit_xor s r) →
    AreAlike (before ++ r ∷ []) (seen ++ s ∷ [])
alike_more before seen r s a differ =
    let d = in_from_spanned numbers before (bit_xor s r) differ in
    let s_in : InSpan numbers (before ++ r ∷ []) s =
    rest_in numbers (before ++ r ∷ []) r s (in_right numbers before (r ∷ []) r (head_in numbers r []))
    (subst (InSpan numbers (before ++ r ∷ [])) (xor_comm s r) (in_left numbers before (r ∷ []) (bit_xor s r) d)) in
    let r_in : InSpan numbers (seen ++ s ∷ []) r =
    rest_in numbers (seen ++ s ∷ []) s r (in_right numbers seen (s ∷ []) s (head_in numbers s []))
    (in_left numbers seen (s ∷ []) (bit_xor s r) (trans_in numbers seen before (bit_xor s r) a.1 d)) in (
      all_joined numbers (before ++ r ∷ []) seen (s ∷ []) (all_left numbers before (r ∷ []) seen a.0) (s_in, tt),
      all_joined numbers (seen ++ s ∷ []) before (r ∷ []) (all_left numbers seen (s ∷ []) before a.1) (r_in, tt),
    )

alike_fronts : (before seen rows sets : List ℕ) (n : ℕ) → AreAlike before seen → AreRowsAfter before rows sets →
    AreAlike (before ++ take n rows) (seen ++ take n sets)
alike_fronts before seen rows sets zero a h = rw (append-nil before, append-nil seen) a
alike_fronts before seen [] [] (suc n) a h = rw (append-nil before, append-nil seen) a
alike_fronts before seen [] (s ∷ sets) (suc n) a h = absurd h
alike_fronts before seen (r ∷ rows) [] (suc n) a h = absurd h
alike_fronts before seen (r ∷ rows) (s ∷ sets) (suc n) a h =
    let next = alike_fronts (before ++ r ∷ []) (seen ++ s ∷ []) rows sets n (alike_more before seen r s a h.0) h.1 in
    subst (λ xs. AreAlike xs (seen ++ s ∷ take n sets)) (append_assoc before (r ∷ []) (take n rows))
    (subst (AreAlike ((before ++ r ∷ []) ++ take n rows)) (append_assoc seen (s ∷ []) (take n sets)) next)

-- the first rows span what the first sets span
pub front_spanned : (rows sets : List ℕ) (n x : ℕ) → AreRowsOf rows sets →
    (Spanned numbers (take n rows) x ↔ Spanned numbers (take n sets) x)
front_spanned rows sets n x h =
    let a = alike_fronts [] [] rows sets n (tt, tt) h in (
      (λ k. spanned_from_in numbers (take n sets) x (trans_in numbers (take n sets) (take n rows) x a.1 (in_from_spanned numbers (take n rows) x k))),
      (λ k. spanned_from_in numbers (take n rows) x (trans_in numbers (take n rows) (take n sets) x a.0 (in_from_spanned numbers (take n sets) x k))),
    )

front_more : (m n : ℕ) (xs : List ℕ) (v : ℕ) → m ≤ n → InSpan numbers (take m xs) v → InSpan numbers (take n xs) v
front_more zero n xs v le h = subst (InSpan numbers (take n xs)) (sym h) (zero_in numbers (take n xs))
front_more (suc m) zero xs v le h = absurd (omega arith)
front_more (suc m) (suc n) [] v le h = h
front_more (suc m) (suc n) (x ∷ xs) v le (inl h) = inl (front_more m n xs v (omega arith) h)
front_more (suc m) (suc n) (x ∷ xs) v le (inr h) = inr (front_more m n xs (bit_xor x v) (omega arith) h)

-- what the first rows span more of them do
pub spanned_more : (m n : ℕ) (xs : List ℕ) (v : ℕ) → m ≤ n → Spanned numbers (take m xs) v → Spanned numbers (take n xs) v
spanned_more m n xs v le h = spanned_from_in numbers (take n xs) v
    (front_more m n xs v le (in_from_spanned numbers (take m xs) v h))

pub rows_count : (before rows sets : List ℕ) → AreRowsAfter before rows sets → length rows ≡ length sets
rows_count before [] [] h = refl
rows_count before [] (s ∷ sets) h = absurd h
rows_count before (r ∷ rows) [] h = absurd h
rows_count before (r ∷ rows) (s ∷ sets) h = ap suc (rows_count (before ++ r ∷ []) rows sets h.1)

pub rows_front : (n : ℕ) (before rows sets : List ℕ) → AreRowsAfter before rows sets → AreRowsAfter before (take n rows) (take n sets)
rows_front zero before rows sets h = tt
rows_front (suc n) before [] [] h = tt
rows_front (suc n) before [] (s ∷ sets) h = absurd h
rows_front (suc n) before (r ∷ rows) [] h = absurd h
rows_front (suc n) before (r ∷ rows) (s ∷ sets) h = (h.0, rows_front n (before ++ r ∷ []) rows sets h.1)

pub rows_more : (before rows sets : List ℕ) (r s : ℕ) → AreRowsAfter before rows sets → Spanned numbers (before ++ rows) (bit_xor s r) →
    AreRowsAfter before (rows ++ r ∷ []) (sets ++ s ∷ [])
rows_more before [] [] r s h differ = (subst (λ xs. Spanned numbers xs (bit_xor s r)) (append-nil before) differ, tt)
rows_more before [] (t ∷ sets) r s h differ = absurd h
rows_more before (q ∷ rows) [] r s h differ = absurd h
rows_more before (q ∷ rows) (t ∷ sets) r s h differ =
    (h.0, rows_more (before ++ q ∷ []) rows sets r s h.1 (subst (λ xs. Spanned numbers xs (bit_xor s r)) (sym (append_assoc before (q ∷ []) rows)) differ))

-- ---- no set is a sum of those before it

abbrev pub AreFreshAfter : List ℕ → List ℕ → Type 0
AreFreshAfter before [] = Unit {0}
AreFreshAfter before (s ∷ sets) = (InSpan numbers before s → ⊥) × AreFreshAfter (before ++ s ∷ []) sets

last_free : (xs ys : List ℕ) (y : ℕ) → Free numbers (xs ++ y ∷ ys) → InSpan numbers xs y → ⊥
last_free [] ys y f h = f.0 (subst (InSpan numbers ys) (sym h) (zero_in numbers ys))
last_free (x ∷ xs) ys y f (inl h) = last_free xs ys y f.1 h
last_free (x ∷ xs) ys y f (inr h) =
    f.0 (rest_in numbers (xs ++ y ∷ ys) y x (in_right numbers xs (y ∷ ys) y (head_in numbers y ys))
    (subst (InSpan numbers (xs ++ y ∷ ys)) (xor_comm x y) (in_left numbers xs (y ∷ ys) (bit_xor x y) h)))

fresh_after : (before seen rows sets : List ℕ) → AreAlike before seen → Free numbers (before ++ rows) → AreRowsAfter before rows sets →
    AreFreshAfter seen sets
fresh_after before seen [] [] a f h = tt
fresh_after before seen [] (s ∷ sets) a f h = absurd h
fresh_after before seen (r ∷ rows) [] a f h = absurd h
fresh_after before seen (r ∷ rows) (s ∷ sets) a f h = (
  (λ k. last_free before rows r f (rest_in numbers before s r (trans_in numbers before seen s a.0 k) (in_from_spanned numbers before (bit_xor s r) h.0))),
  fresh_after (before ++ r ∷ []) (seen ++ s ∷ []) rows sets (alike_more before seen r s a h.0)
      (subst (Free numbers) (sym (append_assoc before (r ∷ []) rows)) f) h.1,
)

pub rows_fresh : (rows sets : List ℕ) → Independent numbers rows → AreRowsOf rows sets → AreFreshAfter [] sets
rows_fresh rows sets free h = fresh_after [] [] rows sets (tt, tt) (free_from_independent numbers rows free) h

pub fresh_at : (before sets : List ℕ) (n : ℕ) → AreFreshAfter before sets → n < length sets →
    InSpan numbers (before ++ take n sets) (get_or sets n 0) → ⊥
fresh_at before [] n h l k = absurd (omega arith)
fresh_at before (s ∷ sets) zero h l k = h.0 (subst (λ xs. InSpan numbers xs s) (append-nil before) k)
fresh_at before (s ∷ sets) (suc n) h l k =
    fresh_at (before ++ s ∷ []) sets n h.1 (omega arith)
    (subst (λ xs. InSpan numbers xs (get_or sets n 0)) (sym (append_assoc before (s ∷ []) (take n sets))) k)

pub row_in : (rows : List ℕ) (i d : ℕ) → i < length rows → InSpan numbers rows (get_or rows i d)
row_in [] i d l = absurd (omega arith)
row_in (r ∷ rows) zero d l = head_in numbers r rows
row_in (r ∷ rows) (suc i) d l = inl (row_in rows i d (omega arith))
