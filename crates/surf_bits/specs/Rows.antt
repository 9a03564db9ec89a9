-- What a sieve holds, and the rows by which it tells what is a sum.
use Rattle.std.specs.Prelude.{ℕ, ◌≡◌, ◌<◌, ◌≤◌, ◌+◌, ◌*◌, ◌/◌, ◌^◌, List, [], ◌∷◌, length, map, take, drop, All}
use Rattle.surf_z2.specs.Space.{numbers}
use Rattle.surf_z2.specs.Words.{number}
use Rattle.surf_z2.specs.Sieve.{has, reduce, Row, IsSieve}

-- a sieve for sets of numbers below a width, and the sets that it admitted, in order
pub record Sifted : Type 0 where
  pub width : ℕ
  pub admitted : List ℕ

-- the rows of two tables with as many words a row: what was admitted, and what the rows before left of it
abbrev pub sieve_rows : ℕ → List ℕ → List ℕ → List ℕ → List (Row ℕ)
sieve_rows stride [] reduced originals = []
sieve_rows stride (p ∷ pivots) reduced originals =
    record { pivot = p; reduced = number (take stride reduced); original = number (take stride originals) }
    ∷ sieve_rows stride pivots (drop stride reduced) (drop stride originals)

-- the sets as they were admitted
abbrev pub originals_of : List (Row ℕ) → List ℕ
originals_of rows = map (λ r. r.original) rows

-- what the rows leave of a set
abbrev pub left_of : List (Row ℕ) → ℕ → ℕ
left_of rows set = reduce numbers has (λ (r : Row ℕ). r.pivot) (λ (r : Row ℕ). r.reduced) rows set

-- the rows tell what is a sum of the sets that they came from
abbrev pub TellSums : List (Row ℕ) → Type 0
TellSums rows = IsSieve numbers has (λ (r : Row ℕ). r.pivot) (λ (r : Row ℕ). r.reduced) (λ (r : Row ℕ). r.original) rows

-- the tables of a sieve, with as many words a row as the width needs
pub record AreRows (width stride : ℕ) (pivots reduced originals : List ℕ) : Type 0 where
  pub width_most : width ≤ 1024
  pub stride_is : stride ≡ (width + 63) / 64
  pub reduced_length : length reduced ≡ length pivots * stride
  pub originals_length : length originals ≡ length pivots * stride
  pub pivots_in : All (λ p. p < 1024) pivots
  pub within : All (λ x. x < 2 ^ width) (originals_of (sieve_rows stride pivots reduced originals))
  pub told : TellSums (sieve_rows stride pivots reduced originals)
