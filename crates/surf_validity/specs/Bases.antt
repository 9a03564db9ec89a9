-- When a basis certificate is valid for a mesh and lengths.
use Rattle.std.specs.Prelude.{◌≡◌, ℕ, ◌<◌, List, length, map, sum, take, All, Contains, slice_index_or, []}
use Rattle.surf_z2.specs.Space.{numbers, Spanned, Weighed, SpannedUpToWeight}
use Rattle.surf_graphs.specs.Cells.{Split}
use Rattle.surf_surfaces.specs.Mesh.{Mesh, pair_of, edges, steps}
use Rattle.surf_surfaces.specs.Surface.{edge_count}
use Rattle.surf_surfaces.specs.Walk.{first, last, walk_length}
use Rattle.surf_surfaces.specs.Homology.{IsLoopCount}
use Rattle.surf_surfaces.specs.Loop.{loop_walk}
use Rattle.surf_surfaces.specs.Cotree.{split_of}
use Rattle.surf_surfaces.specs.Signature.{walk_signature}
use Rattle.surf_validity.specs.Rows.{TreeRows, BasisCert}
use Rattle.surf_validity.specs.Valid.{certified_tree, dual_tree, loop_size, IsTreeValid, IsDualValid, IsDivided}
use Rattle.surf_validity.specs.Valid.{HasTreeRows, HasDualRows}

-- no rows
abbrev pub no_rows : TreeRows
no_rows = record { base = 0; distance = []; parent = [] }

-- the tree at a place
abbrev pub tree_at : BasisCert → ℕ → TreeRows
tree_at cert x = slice_index_or cert.trees x no_rows

-- the tree at vertex 0, the tree of faces, and the edges in neither, increasing
abbrev pub split_in : Mesh → BasisCert → Split
split_in mesh cert = split_of mesh (certified_tree mesh (tree_at cert 0)) (dual_tree mesh cert.dual)

-- a closed list of neighbours, not empty
pub record IsClosedList (mesh : Mesh) (walk : List ℕ) : Type 0 where
  pub begins : 0 < length walk
  pub along_edges : All (λ s. Contains (edges mesh) (pair_of s)) (steps walk)
  pub returns : first walk ≡ last walk

-- the signatures of the cycles, in order
abbrev pub signatures : Mesh → BasisCert → List ℕ
signatures mesh cert = map (walk_signature mesh (split_in mesh cert)) cert.cycles

-- the signature of the cycle at a place is a sum of those of some cycles before it, or of none
abbrev pub IsDependent : Mesh → BasisCert → ℕ → Type 0
IsDependent mesh cert k =
    Spanned numbers (take k (signatures mesh cert)) (slice_index_or (signatures mesh cert) k 0)

-- a cycle's signature with its length
abbrev pub weighed_cycle : Mesh → List ℕ → BasisCert → List ℕ → Weighed ℕ
weighed_cycle mesh lengths cert walk =
    record { weight = walk_length mesh lengths walk; vector = walk_signature mesh (split_in mesh cert) walk }

-- that of the loop of an edge through the tree at a vertex
abbrev pub weighed_loop : Mesh → List ℕ → BasisCert → ℕ → ℕ → Weighed ℕ
weighed_loop mesh lengths cert x e = record {
  weight = loop_size mesh lengths (tree_at cert x) e;
  vector = walk_signature mesh (split_in mesh cert) (loop_walk mesh (certified_tree mesh (tree_at cert x)) e);
}

-- the signature of the loop is a sum of those of cycles that are no longer
abbrev pub IsCovered : Mesh → List ℕ → BasisCert → ℕ → ℕ → Type 0
IsCovered mesh lengths cert x e =
    SpannedUpToWeight numbers (map (weighed_cycle mesh lengths cert) cert.cycles) (weighed_loop mesh lengths cert x e)

-- there is a tree for each vertex, with a row for each vertex
pub record HasTrees (mesh : Mesh) (cert : BasisCert) : Type 0 where
  pub trees : length cert.trees ≡ mesh.vertices
  pub rows : (x : ℕ) → x < mesh.vertices → HasTreeRows mesh (tree_at cert x)

-- there are as many left pairs, and as many cycles, as two less the characteristic
pub record HasCounts (mesh : Mesh) (cert : BasisCert) : Type 0 where
  pub left : IsLoopCount mesh (length cert.left)
  pub cycles : IsLoopCount mesh (length cert.cycles)

-- the lists are as long as the mesh asks for, and the tree at each place has that place as its base
pub record HasBasisShape (mesh : Mesh) (cert : BasisCert) : Type 0 where
  pub vertices : HasTrees mesh cert
  pub faces : HasDualRows mesh cert.dual
  pub loops : HasCounts mesh cert
  pub bases : (x : ℕ) → x < mesh.vertices → (tree_at cert x).base ≡ x

-- a certificate of a basis is valid
pub record IsValidBasis (mesh : Mesh) (lengths : List ℕ) (cert : BasisCert) : Type 0 where
  pub shape : HasBasisShape mesh cert
  pub trees : (x : ℕ) → x < mesh.vertices → IsTreeValid mesh lengths (tree_at cert x)
  pub dual : IsDualValid mesh cert.dual
  pub divided : IsDivided mesh (tree_at cert 0) cert.dual cert.left
  pub closed : All (IsClosedList mesh) cert.cycles
  pub independent : (k : ℕ) → k < length cert.cycles → IsDependent mesh cert k → ⊥
  pub covered : (x e : ℕ) → x < mesh.vertices → e < edge_count mesh → IsCovered mesh lengths cert x e

-- the sum of the lengths of the cycles
abbrev pub basis_total : Mesh → List ℕ → BasisCert → ℕ
basis_total mesh lengths cert = sum (map (walk_length mesh lengths) cert.cycles)
