-- Signatures of edges.
use Rattle.std.specs.Prelude.{ℕ, ◌≡◌, List, map, length}
use Rattle.std.specs.List.{range_with_len}
use Rattle.surf_graphs.specs.Cells.{Split, IsSplit}
use Rattle.surf_surfaces.specs.Mesh.{Mesh}
use Rattle.surf_surfaces.specs.Surface.{edge_count}
use Rattle.surf_surfaces.specs.Cells.{cells_of}
use Rattle.surf_surfaces.specs.Signature.{edge_signature}
use Rattle.surf_cotree.specs.Tables.{CotreeTables}

-- the edges in neither of two trees, and for each edge its signature: the set of the places of those, as one number
pub record SignTables : Type 0 where
  pub left : List ℕ
  pub signatures : List ℕ

-- those that a tree of faces was signed with
abbrev pub signs_of : CotreeTables → SignTables
signs_of t = record { left = t.left; signatures = t.signatures }

-- the table has the signatures of all edges by two trees and the edges in neither
abbrev pub AreSignatures : Mesh → Split → SignTables → Type 0
AreSignatures mesh d t = t.signatures ≡ map (edge_signature mesh d) (range_with_len 0 (edge_count mesh))

-- they are so, with as many left edges
pub record AreSigned (mesh : Mesh) (t : SignTables) (width : ℕ) : Type 0 where
  pub split : Split
  pub is_split : IsSplit (cells_of mesh) split
  pub count : length split.left ≡ width
  pub signatures : AreSignatures mesh split t
