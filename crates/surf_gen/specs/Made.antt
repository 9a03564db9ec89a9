-- Lengths that are made from a number.
use Rattle.std.specs.Prelude.{ℕ, ◌+◌, ◌*◌, ◌%◌, List, map}
use Rattle.std.specs.List.{range_with_len}
use Rattle.surf_surfaces.specs.Mesh.{Mesh}
use Rattle.surf_surfaces.specs.Surface.{edge_count}

-- the length of edge k
abbrev pub made_length : ℕ → ℕ → ℕ
made_length scatter k = 1 + (scatter * (7 * k + 13)) % 97

-- a length for each edge
abbrev pub made_values : Mesh → ℕ → List ℕ
made_values mesh scatter = map (made_length scatter) (range_with_len 0 (edge_count mesh))
