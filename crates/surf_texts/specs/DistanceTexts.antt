-- The text of distances and parents from a base.
use Rattle.std.specs.Prelude.{ℕ, ◌==◌, List, ◌++◌, Option, Some, None, flat_map, if◌then◌else◌, codes, decimal}
use Rattle.std.specs.List.{range_with_len}
use Rattle.surf_graphs.specs.Trees.{Tree}

-- the parent of a vertex, which the base has not
abbrev pub parent_in : Tree → ℕ → Option ℕ
parent_in tree v = if v == tree.root then None else Some (tree.parent v)

abbrev pub parent_text : Option ℕ → List ℕ
parent_text None = codes "-"
parent_text (Some u) = decimal u

-- a vertex with its distance and its parent
abbrev pub vertex_line : ℕ → ℕ → Option ℕ → List ℕ
vertex_line v distance parent =
    decimal v ++ codes " " ++ decimal distance ++ codes " " ++ parent_text parent ++ codes "\n"

-- a line for each vertex
abbrev pub distances_text : ℕ → Tree → List ℕ
distances_text vertices tree =
    flat_map (λ v. vertex_line v (tree.rank v) (parent_in tree v)) (range_with_len 0 vertices)
