-- The lines of loops by their heads.
use Rattle.std.specs.Prelude.{ℕ, List, ◌++◌, length, map, sum, flat_map}
use Rattle.surf_surfaces.specs.Mesh.{Mesh}
use Rattle.surf_surfaces.specs.Loop.{loop_walk}
use Rattle.surf_tree.specs.Tables.{TreeTables, tree_of}
use Rattle.surf_loops.specs.declared.head.LoopHead.{LoopHead}
use Rattle.surf_texts.specs.MeasuredTexts.{measured_line, total_lines}

-- the length of a head's loop, and its walk through the tree of some tables
abbrev pub head_line : Mesh → TreeTables → LoopHead → List ℕ
head_line mesh tree head = measured_line "loop " head.length (loop_walk mesh (tree_of tree) head.edge)

-- how many loops there are and what they total
abbrev pub loop_heads_text : List LoopHead → List ℕ
loop_heads_text heads = total_lines "loops " (length heads) (sum (map (λ h. h.length) heads))

-- that, and the line of each loop
abbrev pub heads_text : Mesh → TreeTables → List LoopHead → List ℕ
heads_text mesh tree heads = loop_heads_text heads ++ flat_map (head_line mesh tree) heads
