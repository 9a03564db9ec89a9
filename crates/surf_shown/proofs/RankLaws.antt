-- Ranks of loops.
use Rattle.surf_surfaces.proofs.Common.{◌≡◌, ℕ, ◌<◌, ◌^◌, ◌++◌, List, [], ◌∷◌, length, get_or, All, refl, sym, ap, ◌∙◌, subst, arith, inl, inr, length-map, get_or-map, map-append, append_assoc, numbers, Independent, Free, InSpan, free_from_independent, in_from_spanned, rest_in, head_in, in_left, in_right, zero_in, bit_xor}
use Rattle.std.specs.Int.Bits.{xor_comm}
use Rattle.surf_choice.specs.Candidates.{independent_of, kept_after, signatures, signed_earlier}
use Rattle.surf_choice.specs.declared.candidate.Signed.{Signed}
use Rattle.surf_choice.proofs.Sifted.{kept_turn}
use Rattle.surf_z2.specs.Order.{merge}
use Rattle.surf_shown.specs.Shown.{AreRanks}

-- ---- what ranks have of the loops

many_ranks : (loops list : List Signed) → AreRanks loops list → length list ≡ length loops
many_ranks loops list are =
    let a = length-map list (λ (s : Signed). s.signature) in
    let b = length-map loops (λ (s : Signed). s.signature) in
    let same = ap (λ (xs : List ℕ). length xs) are.signatures_same in
    omega (arith, a, b, same)

pub ranks_small : (loops list : List Signed) (width : ℕ) → AreRanks loops list →
    All (λ s. s.signature < 2 ^ width) loops → All (λ s. s.signature < 2 ^ width) list
ranks_small loops list width are small k d l =
    let many = many_ranks loops list are in
    let same : (get_or list k d).signature ≡ (get_or loops k d).signature =
    sym (get_or-map (λ (s : Signed). s.signature) list k d 0 l) ∙ ap (λ xs. get_or xs k 0) are.signatures_same
    ∙ get_or-map (λ (s : Signed). s.signature) loops k d 0 (omega (arith, l, many)) in
    subst (λ c. c < 2 ^ width) (sym same) (small k d (omega (arith, l, many)))

-- ---- independent candidates are all kept

last_free : (xs ys : List ℕ) (y : ℕ) → Free numbers (xs ++ y ∷ ys) → InSpan numbers xs y → ⊥
last_free [] ys y f h = f.0 (subst (InSpan numbers ys) (sym h) (zero_in numbers ys))
last_free (x ∷ xs) ys y f (inl h) = last_free xs ys y f.1 h
last_free (x ∷ xs) ys y f (inr h) =
    f.0 (rest_in numbers (xs ++ y ∷ ys) y x (in_right numbers xs (y ∷ ys) y (head_in numbers y ys))
    (subst (InSpan numbers (xs ++ y ∷ ys)) (xor_comm x y) (in_left numbers xs (y ∷ ys) (bit_xor x y) h)))

all_are_kept : (before cs : List Signed) → Free numbers (signatures before ++ signatures cs) → kept_after before cs ≡ before ++ cs
all_are_kept before [] free = refl
all_are_kept before (c ∷ cs) free =
    kept_turn before cs c
    (λ sum. last_free (signatures before) (signatures cs) c.signature free
    (in_from_spanned numbers (signatures before) c.signature sum))
    ∙ all_are_kept (before ++ c ∷ []) cs
    (subst (λ xs. Free numbers (xs ++ signatures cs)) (sym (map-append (λ (s : Signed). s.signature) before (c ∷ [])))
    (subst (Free numbers) (sym (append_assoc (signatures before) (c.signature ∷ []) (signatures cs))) free))
    ∙ append_assoc before (c ∷ []) cs

pub ranks_kept : (loops list : List Signed) → AreRanks loops list → Independent numbers (signatures loops) →
    independent_of (merge signed_earlier [] list) ≡ list
ranks_kept loops list are free =
    all_are_kept [] list
    (free_from_independent numbers (signatures list)
    (subst (Independent numbers) (sym are.signatures_same) free))
