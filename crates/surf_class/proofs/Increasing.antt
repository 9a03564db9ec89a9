-- Increasing lists of numbers and of pairs.
use Rattle.surf_cert.proofs.Common.{◌≡◌, ℕ, ◌<◌, true, nat_lt, List, [], ◌∷◌, AllPairs, All, arith, AllByRecursion, ltb-true, lt-ltb, All-from_recursion, pair_lt, pair_lt-trans}
use Rattle.surf_class.proofs.Common.{is_rising, is_ordered}
use Rattle.surf_class.proofs.Lists.{pairs_of_rising, and_first, and_second}

less_trans : (a b c : ℕ) → nat_lt a b ≡ true → nat_lt b c ≡ true → nat_lt a c ≡ true
less_trans a b c h k =
    let first : a < b = ltb-true a b h in
    let second : b < c = ltb-true b c k in
    lt-ltb a c (omega arith)

pub numbers_increase : (xs : List ℕ) → is_rising nat_lt xs ≡ true → AllPairs (λ a b. a < b) xs
numbers_increase xs rises i j d less l = ltb-true _ _ (pairs_of_rising nat_lt less_trans xs rises i j d less l)

pub pairs_increase : (xs : List (ℕ × ℕ)) → is_rising pair_lt xs ≡ true → AllPairs (λ a b. pair_lt a b ≡ true) xs
pairs_increase xs rises = pairs_of_rising pair_lt pair_lt-trans xs rises

ordered : (xs : List (ℕ × ℕ)) → is_ordered xs ≡ true → AllByRecursion (λ a. a.0 < a.1) xs
ordered [] is = tt
ordered (x ∷ xs) is = (
  ltb-true x.0 x.1 (and_first (nat_lt x.0 x.1) (is_ordered xs) is),
  ordered xs (and_second (nat_lt x.0 x.1) (is_ordered xs) is),
)

pub pairs_ordered : (xs : List (ℕ × ℕ)) → is_ordered xs ≡ true → All (λ a. a.0 < a.1) xs
pairs_ordered xs is = All-from_recursion (λ a. a.0 < a.1) xs (ordered xs is)
