-- The texts of walks with their lengths: of loops, of cycles and of one walk, each by its words.
use Rattle.std.specs.Prelude.{ℕ, List, ◌++◌, length, map, sum, flat_map, codes, decimal}
use Prim.Native.String.{String as Literal}
use Rattle.surf_surfaces.specs.Choice.{Loop}
use Rattle.surf_text.specs.Numbers.{numbers_text}

-- a word, a length and a walk
abbrev pub measured_line : Literal → ℕ → List ℕ → List ℕ
measured_line word size walk = codes word ++ decimal size ++ numbers_text walk ++ codes "\n"

-- a word and how many there are, and what they total
abbrev pub total_lines : Literal → ℕ → ℕ → List ℕ
total_lines word count total = codes word ++ decimal count ++ codes "\ntotal " ++ decimal total ++ codes "\n"

-- and a line for each
abbrev pub measured_text : Literal → Literal → List Loop → List ℕ
measured_text many one walks = total_lines many (length walks) (sum (map (λ w. w.size) walks))
    ++ flat_map (λ w. measured_line one w.size w.walk) walks
