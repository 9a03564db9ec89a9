-- What a cover desk holds after it has searched from a base.
use Rattle.std.specs.Prelude.{◌≡◌, ℕ, ◌*◌, List, length, map, slice_index}
use Rattle.std.specs.List.{range_with_len}
use Rattle.surf_graphs.specs.Cells.{Split, IsSplit}
use Rattle.surf_graphs.specs.Trees.{Tree}
use Rattle.surf_surfaces.specs.Mesh.{Mesh}
use Rattle.surf_surfaces.specs.Surface.{edge_count}
use Rattle.surf_surfaces.specs.Cells.{cells_of}
use Rattle.surf_surfaces.specs.Signature.{edge_signature}
use Rattle.surf_classes.specs.Cover.{AreSignedDistances}
use Rattle.surf_cotree.specs.Tables.{CotreeTables, split_with}
use Rattle.surf_cotree.specs.Grown.{IsGrownOn}
use Rattle.surf_cover.specs.Networks.{IsCertifiedBy, cover_by, length_by, node_of}
use Rattle.surf_cover.specs.Within.{AreListed, IsReachedWithin}
use Rattle.surf_cover.specs.Tables.{CoverTables, AreCoverTables, AreShort, distance_at}

-- the tables of a tree of faces were grown on the mesh, and have the signatures of its edges
pub record IsSigned (mesh : Mesh) (t : CotreeTables) : Type 0 where
  pub grown : IsGrownOn mesh t
  pub signatures : (tree : Tree) → IsSplit (cells_of mesh) (split_with tree t) →
      t.signatures ≡ map (edge_signature mesh (split_with tree t)) (range_with_len 0 (edge_count mesh))

-- the tables have the least lengths of walks from a base by their signatures, which shows at each edge
pub record IsGrownBy (mesh : Mesh) (lengths : List ℕ) (d : Split) (base : ℕ) (t : CoverTables) : Type 0 where
  pub certified : IsCertifiedBy mesh lengths d t.sets t.signs t.distances base
  pub distances : AreSignedDistances mesh lengths d base (distance_at t)

-- the tables have the distances from a base over the cover by their signatures, as far as a radius
pub record HasReached (mesh : Mesh) (lengths : List ℕ) (base radius : ℕ) (t : CoverTables) : Type 0 where
  pub nodes : length t.distances ≡ mesh.vertices * t.sets
  pub listed : AreListed t.distances t.settled
  pub reached : IsReachedWithin (cover_by mesh t.sets (slice_index t.signs)) (length_by lengths t.sets)
      (node_of t.sets base 0) radius (slice_index t.distances)

-- They have these for the tree of faces and the left edges of other tables, whatever the tree of the vertices beside
-- them
pub record IsGrown (mesh : Mesh) (lengths : List ℕ) (cotree : CotreeTables) (base : ℕ) (t : CoverTables) : Type 0 where
  pub made : AreCoverTables mesh t
  pub short : AreShort t
  pub grown : (tree : Tree) → IsSplit (cells_of mesh) (split_with tree cotree) →
      IsGrownBy mesh lengths (split_with tree cotree) base t
