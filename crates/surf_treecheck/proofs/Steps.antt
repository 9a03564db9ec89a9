-- The steps of a list by their places, and a list one longer.
use Rattle.surf_treecheck.proofs.Common.{◌≡◌, ℕ, zero, suc, ◌<◌, ◌+◌, List, [], ◌∷◌, length, get_or, map, sum, take, All, Contains, bit_xor, refl, sym, ap, ◌∙◌, subst, arith, map-append, take_all, numbers, sum_of, Mesh, pair, pair_of, edges, steps, steps_from, take-suc, xor_zero_r, first, last, last_from, sum_by_more, HoldsBelow}
use Rattle.std.proofs.lemmas.List.Sums.{sum-map}
use Rattle.surf_z2.proofs.Basics.{span_law}
use Rattle.surf_surfaces.proofs.walks.CycleLaws.{length-steps}

from_at : (u : ℕ) (rest : List ℕ) (k : ℕ) (d : ℕ × ℕ) → k < length rest →
    get_or (steps_from u rest) k d ≡ (get_or (u ∷ rest) k 0, get_or rest k 0)
from_at u [] k d l = absurd (omega arith)
from_at u (v ∷ rest) zero d l = refl
from_at u (v ∷ rest) (suc k) d l = from_at v rest k d (omega arith)

-- a step goes from its place to the next one
pub steps_at : (list : List ℕ) (k : ℕ) (d : ℕ × ℕ) → k + 1 < length list →
    get_or (steps list) k d ≡ (get_or list k 0, get_or list (k + 1) 0)
steps_at [] k d l = absurd (omega arith)
steps_at (u ∷ rest) k d l =
    let one : k + 1 ≡ suc k = omega arith in
    from_at u rest k d (omega (arith, l)) ∙ ap (λ n. (get_or (u ∷ rest) k 0, get_or (u ∷ rest) n 0)) (sym one)

-- there is one step less than vertices
pub count_steps : (list : List ℕ) → 0 < length list → length (steps list) + 1 ≡ length list
count_steps [] l = absurd (omega arith)
count_steps (u ∷ rest) l = let size = length-steps u rest in omega (arith, size)

-- all steps are along edges
pub all_along : (mesh : Mesh) (list : List ℕ) (n : ℕ) → n + 1 ≡ length list →
    HoldsBelow n (λ k. Contains (edges mesh) (pair (get_or list k 0) (get_or list (k + 1) 0))) →
    All (λ s. Contains (edges mesh) (pair_of s)) (steps list)
all_along mesh list n size h k d l =
    let count = count_steps list (omega (arith, size)) in
    let here : k < n = omega (arith, l, count, size) in
    subst (λ (s : ℕ × ℕ). Contains (edges mesh) (pair_of s)) (sym (steps_at list k d (omega (arith, here, size)))) (h k here)

pub one_along : (mesh : Mesh) (list : List ℕ) (k : ℕ) → k + 1 < length list →
    All (λ s. Contains (edges mesh) (pair_of s)) (steps list) →
    Contains (edges mesh) (pair (get_or list k 0) (get_or list (k + 1) 0))
one_along mesh list k l all =
    let count = count_steps list (omega (arith, l)) in
    subst (λ (s : ℕ × ℕ). Contains (edges mesh) (pair_of s)) (steps_at list k (0, 0) l)
    (all k (0, 0) (omega (arith, l, count)))

-- the sum with one more member
pub sum_more : {X : Type 0} (f : X → ℕ) (xs : List X) (n : ℕ) (d : X) → n < length xs →
    sum (map f (take (n + 1) xs)) ≡ sum (map f (take n xs)) + f (get_or xs n d)
sum_more f xs n d l =
    sum-map f (take (n + 1) xs) ∙ sum_by_more f xs n d l ∙ ap (λ k. k + f (get_or xs n d)) (sym (sum-map f (take n xs)))

-- the ends of a list by their places
pub first_at : (list : List ℕ) → 0 < length list → get_or list 0 0 ≡ first list
first_at [] l = absurd (omega arith)
first_at (u ∷ rest) l = refl

last_from_at : (u : ℕ) (rest : List ℕ) → get_or (u ∷ rest) (length rest) 0 ≡ last_from u rest
last_from_at u [] = refl
last_from_at u (v ∷ rest) = last_from_at v rest

pub last_at : (list : List ℕ) (n : ℕ) → n + 1 ≡ length list → get_or list n 0 ≡ last list
last_at [] n e = absurd (omega arith)
last_at (u ∷ rest) n e =
    let is : n ≡ length rest = omega arith in ap (λ k. get_or (u ∷ rest) k 0) is ∙ last_from_at u rest

pub sets_more : {X : Type 0} (f : X → ℕ) (xs : List X) (n : ℕ) (d : X) → n < length xs →
    sum_of numbers (map f (take (n + 1) xs)) ≡ bit_xor (sum_of numbers (map f (take n xs))) (f (get_or xs n d))
sets_more f xs n d l =
    let one : n + 1 ≡ suc n = omega arith in
    let x = f (get_or xs n d) in
    ap (λ k. sum_of numbers (map f (take k xs))) one ∙ ap (λ ys. sum_of numbers (map f ys)) (take-suc xs n d l)
    ∙ ap (sum_of numbers) (map-append f (take n xs) (get_or xs n d ∷ []))
    ∙ (span_law numbers).joined (map f (take n xs)) (x ∷ [])
    ∙ ap (bit_xor (sum_of numbers (map f (take n xs)))) (xor_zero_r x)

pub take_whole : {X : Type 0} (xs : List X) (n : ℕ) → n ≡ length xs → take n xs ≡ xs
take_whole xs n e = take_all n xs (omega (arith, e))
