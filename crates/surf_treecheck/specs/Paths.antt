-- The ways through the tree of faces that a certificate says.
use Rattle.std.specs.Prelude.{◌≡◌, ℕ, ◌<◌, List, length, get_or, Option, Some, None}
use Rattle.surf_surfaces.specs.Mesh.{Mesh}
use Rattle.surf_surfaces.specs.Surface.{face_count, edge_count}
use Rattle.surf_surfaces.specs.Walk.{edge_number}
use Rattle.surf_validity.specs.Rows.{DualRows}
use Rattle.surf_validity.specs.Valid.{side_at, across, depth_at, dual_tree}
use Rattle.surf_treecheck.specs.declared.links.Links.{Links}

-- a face hangs on the face across a side, by the edge that is the side
pub record IsLinkOver (mesh : Mesh) (f : ℕ) (side : ℕ × ℕ) (face edge : ℕ) : Type 0 where
  pub hangs_on : face ≡ across mesh f side
  pub by_edge : edge ≡ edge_number mesh side

-- the same for a row of a face, if it has a side
abbrev pub HasLink : Mesh → ℕ → Option (ℕ × ℕ) → ℕ → ℕ → Type 0
HasLink mesh f None face edge = Unit {0}
HasLink mesh f (Some side) face edge = IsLinkOver mesh f side face edge

-- the tables have the links of the first faces
pub record AreLinks (mesh : Mesh) (dual : DualRows) (n : ℕ) (parent up : List ℕ) : Type 0 where
  pub parents : length parent ≡ n
  pub ups : length up ≡ n
  pub each : (f : ℕ) → f < n → HasLink mesh f (side_at dual f) (get_or parent f 0) (get_or up f 0)

-- the tables have the links of all faces
abbrev pub AreAllLinks : Mesh → DualRows → Links → Type 0
AreAllLinks mesh dual links =
    AreLinks mesh dual (face_count mesh) links.parent.items links.up.items

-- a face other than face 0 hangs on a face by an edge, and is deeper
pub record IsStepUp (mesh : Mesh) (dual : DualRows) (f face edge : ℕ) : Type 0 where
  pub face_in : face < face_count mesh
  pub edge_in : edge < edge_count mesh
  pub parent : face ≡ (dual_tree mesh dual).parent f
  pub up : edge ≡ (dual_tree mesh dual).up f
  pub falls : depth_at dual face < depth_at dual f
