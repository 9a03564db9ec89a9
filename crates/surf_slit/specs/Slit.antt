-- A surface that is cut along some of its edges, with the labels of its corners.
use Rattle.std.specs.Prelude.{◌≡◌, ℕ, ◌<◌, ◌^◌, List, Bool, false, length, replicate, slice_index}
use Rattle.surf_surfaces.specs.Mesh.{Mesh}
use Rattle.surf_surfaces.specs.Surface.{edge_count, IsSurface}
use Rattle.surf_surfaces.specs.SideNumber.{side_count}
use Rattle.surf_slit.specs.Labels.{corner_at, AreLabels}

-- the surface, which edges are cut, the label of the corner at which each side begins, and how many labels there are
pub record CutMesh : Type 0 where
  pub mesh : Mesh
  pub cut : List Bool
  pub labels : List ℕ
  pub count : ℕ

-- what a slit surface keeps
pub record IsSlit (mesh : Mesh) (cut : List Bool) (labels : List ℕ) (count : ℕ) : Type 0 where
  pub surface : IsSurface mesh
  pub few : side_count mesh < 2 ^ 30
  pub flags : length cut ≡ edge_count mesh
  pub are_labels : AreLabels mesh cut labels count

-- no edge is cut, and the labels are the numbers of the vertices
pub record IsUncutSlit (mesh : Mesh) (slit : CutMesh) : Type 0 where
  pub same_mesh : slit.mesh ≡ mesh
  pub none_cut : slit.cut ≡ replicate (edge_count mesh) false
  pub by_vertex : (s : ℕ) → s < side_count mesh → slice_index slit.labels s ≡ corner_at mesh s
  pub as_many : slit.count ≡ mesh.vertices
