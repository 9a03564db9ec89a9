-- The text of a tree's tables.
use Rattle.std.specs.Prelude.{ℕ, List, slice_index, flat_map}
use Rattle.std.specs.List.{range_with_len}
use Rattle.surf_tree.specs.Tables.{TreeTables, parent_of}
use Rattle.surf_texts.specs.DistanceTexts.{vertex_line}

-- a line for each of so many vertices
abbrev pub tables_text : TreeTables → ℕ → List ℕ
tables_text t vertices =
    flat_map (λ v. vertex_line v (slice_index t.distances v) (parent_of t v)) (range_with_len 0 vertices)
