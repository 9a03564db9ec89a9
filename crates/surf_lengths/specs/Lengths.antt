-- Lengths of edges, by edge number.
use Rattle.std.specs.Prelude.{ℕ, ◌≤◌, List, All}

-- the greatest length of an edge
abbrev pub longest : ℕ
longest = 4294967295

-- a length is a positive number of 32 bits
pub record IsLength (n : ℕ) : Type 0 where
  pub positive : 1 ≤ n
  pub fits : n ≤ longest

-- each of the listed numbers is a length
abbrev pub AreLengths : List ℕ → Type 0
AreLengths values = All IsLength values
