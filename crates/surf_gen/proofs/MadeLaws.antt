-- Lengths that are made from a number are positive, and the product behind each has 64 bits.
use Rattle.surf_surfaces.proofs.Common.{◌≢◌, ℕ, ◌+◌, ◌*◌, ◌^◌, ◌<◌, List, [], ◌∷◌, map, All, arith, AllByRecursion, range_with_len, All-from_recursion}
use Rattle.std.proofs.lemmas.Nat.{mul-lt}
use Rattle.surf_gen.specs.Made.{made_length}

pub spread_fits : (scatter edge : ℕ) → scatter < 2 ^ 32 → edge < 2 ^ 29 → scatter * (7 * edge + 13) < 2 ^ 64
spread_fits scatter edge x y = mul-lt scatter (7 * edge + 13) (2 ^ 32) (2 ^ 32) x (omega arith)

positive : (scatter : ℕ) (edges : List ℕ) → AllByRecursion (λ m. m ≢ 0) (map (made_length scatter) edges)
positive scatter [] = tt
positive scatter (k ∷ ks) = ((λ e. omega arith), positive scatter ks)

pub made_are_positive : (scatter n : ℕ) → All (λ m. m ≢ 0) (map (made_length scatter) (range_with_len 0 n))
made_are_positive scatter n = All-from_recursion (λ m. m ≢ 0) (map (made_length scatter) (range_with_len 0 n))
    (positive scatter (range_with_len 0 n))
