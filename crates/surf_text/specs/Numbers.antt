-- Numbers as they are written.
use Rattle.std.specs.Prelude.{ℕ, List, ◌++◌, flat_map, codes, decimal}

-- numbers in decimal, each behind a blank
abbrev pub numbers_text : List ℕ → List ℕ
numbers_text numbers = flat_map (λ n. codes " " ++ decimal n) numbers

-- a line that begins with these words and goes on with these numbers
abbrev pub numbered : List ℕ → List ℕ → List ℕ
numbered words numbers = words ++ (numbers_text numbers ++ codes "\n")
