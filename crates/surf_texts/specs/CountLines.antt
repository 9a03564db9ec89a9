-- Lines of a count behind its words.
use Rattle.std.specs.Prelude.{ℕ, List, ◌++◌, codes, decimal}
use Prim.Native.String.{String as Literal}

-- words and a count
abbrev pub count_line : Literal → ℕ → List ℕ
count_line words count = codes words ++ (decimal count ++ codes "\n")

-- words and a count, and the other that it is measured by
abbrev pub of_line : Literal → ℕ → ℕ → List ℕ
of_line words count other = codes words ++ (decimal count ++ (codes " of " ++ (decimal other ++ codes "\n")))
