-- What a reader finds in the texts of walks and of distances: the numbers on their lines.
use Rattle.std.specs.Prelude.{◌≡◌, ◌<◌, ◌^◌, ℕ, List, [], ◌∷◌, length, map, sum, drop, get_or, All, Option, Some, None}
use Rattle.std.specs.Prelude.{codes, if◌then◌else◌}
use Rattle.std.specs.List.{range_with_len}
use Rattle.std.specs.Option.{option_map_or}
use Rattle.std.specs.Str.{bytes_eq}
use Rattle.surf_graphs.specs.Trees.{Tree}
use Rattle.surf_surfaces.specs.Choice.{Loop}
use Rattle.surf_text.specs.Text.{TextLine, tokens_of, lines_of, whole}
use Rattle.surf_texts.specs.DistanceTexts.{parent_in, distances_text}
use Rattle.surf_texts.specs.MeasuredTexts.{measured_line, measured_text}

-- the whole number that a token is, or 0
abbrev pub number_in : List ℕ → ℕ
number_in token = option_map_or (λ n. n) (whole token) 0

-- ---- walks

-- the first of some numbers, and the others: a length and a walk
abbrev pub sized_walk : List ℕ → ℕ × List ℕ
sized_walk [] = (0, [])
sized_walk (size ∷ walk) = (size, walk)

-- the length and the walk of a line, behind its first word
abbrev pub walk_on : TextLine → ℕ × List ℕ
walk_on line = sized_walk (map number_in (drop 1 (tokens_of line.bytes)))

-- the lengths and the walks of the lines of a text, behind so many lines
abbrev pub walks_in : ℕ → List ℕ → List (ℕ × List ℕ)
walks_in heads text = map walk_on (drop heads (lines_of text))

-- a length and a walk whose numbers have 64 bits
pub record IsWritable (size : ℕ) (walk : List ℕ) : Type 0 where
  pub short_size : size < 2 ^ 64
  pub short_vertices : All (λ v. v < 2 ^ 64) walk

-- walks, their count and their total, whose numbers have 64 bits
pub record AreWritable (walks : List Loop) : Type 0 where
  pub each : All (λ w. IsWritable w.size w.walk) walks
  pub count : length walks < 2 ^ 64
  pub total : sum (map (λ w. w.size) walks) < 2 ^ 64

-- The text of loops, or of the cycles of a basis, has their lengths and walks, one by one, where all its numbers have 64
-- bits: so no two such lists of walks with their lengths have one text.
abbrev pub WalksAreReread : Type 0
WalksAreReread =
    (walks : List Loop) → AreWritable walks →
    (walks_in 2 (measured_text "loops " "loop " walks) ≡ map (λ w. (w.size, w.walk)) walks)
    × (walks_in 2 (measured_text "cycles " "cycle " walks) ≡ map (λ w. (w.size, w.walk)) walks)

-- The line of a cycle, or of a shortest walk, has its length and its walk, where its numbers have 64 bits.
abbrev pub OneWalkIsReread : Type 0
OneWalkIsReread =
    (size : ℕ) (walk : List ℕ) → IsWritable size walk →
    (walks_in 0 (measured_line "cycle " size walk) ≡ (size, walk) ∷ [])
    × (walks_in 0 (measured_line "shortest " size walk) ≡ (size, walk) ∷ [])

-- ---- distances

-- the number that a token is, or none, where it is `-`
abbrev pub parent_on : List ℕ → Option ℕ
parent_on token = if bytes_eq token (codes "-") then None else Some (number_in token)

-- a vertex, its distance and its parent, from the tokens of a line
abbrev pub distance_on : TextLine → ℕ × (ℕ × Option ℕ)
distance_on line = let tokens = tokens_of line.bytes in
    (number_in (get_or tokens 0 []), (number_in (get_or tokens 1 []), parent_on (get_or tokens 2 [])))

-- The text of distances has each vertex in order, its distance and its parent, where these numbers have 64 bits.
abbrev pub DistancesAreReread : Type 0
DistancesAreReread =
    (vertices : ℕ) (tree : Tree) → vertices < 2 ^ 64 →
    ((v : ℕ) → v < vertices → (tree.rank v < 2 ^ 64) × (tree.parent v < 2 ^ 64)) →
    map distance_on (lines_of (distances_text vertices tree))
    ≡ map (λ v. (v, (tree.rank v, parent_in tree v))) (range_with_len 0 vertices)
