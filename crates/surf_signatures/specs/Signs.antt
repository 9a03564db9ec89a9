-- The bits of edges in a flat table.
use Rattle.std.specs.Prelude.{ℕ, ◌+◌, ◌*◌, ◌/◌, ◌%◌, Bool, eqb, List}
use Rattle.std.specs.Int.{bit_at}
use Rattle.surf_z2.specs.Parity.{xor}
use Rattle.surf_graphs.specs.Graphs.{Graph}
use Rattle.surf_graphs.specs.Trees.{Tree, on_path}
use Rattle.surf_base.specs.Tables.{at}

-- the cell of bit k of edge e in a flat table with as many words for each edge
abbrev pub cell : ℕ → ℕ → ℕ → ℕ
cell words e k = e * words + k / 64

-- bit k of edge e
abbrev pub sign_bit : List ℕ → ℕ → ℕ → ℕ → Bool
sign_bit signs words e k = eqb (bit_at (at signs (cell words e k)) (k % 64)) 1

-- whether edge e has the left edge l: it is l, or it parts the two faces of l
abbrev pub has_left : Graph → Tree → ℕ → ℕ → Bool
has_left g t l e = xor (eqb l e) (xor (on_path t (g.from l) e) (on_path t (g.to l) e))
