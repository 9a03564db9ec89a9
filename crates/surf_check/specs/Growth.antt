-- A tree of the faces that grows from face 0, with a flag for each face.
use Rattle.std.specs.Prelude.{◌≡◌, ◌≢◌, ℕ, ◌+◌, ◌<◌, ◌≤◌, Bool, true, false, List, length, get_or}
use Rattle.surf_z2.specs.Parity.{xor}
use Rattle.surf_graphs.specs.Graphs.{joins}
use Rattle.surf_graphs.specs.Trees.{Tree, IsTree}
use Rattle.surf_graphs.specs.Cells.{dual}
use Rattle.surf_surfaces.specs.Mesh.{Mesh}
use Rattle.surf_surfaces.specs.Surface.{face_count, edge_count, faces_of}
use Rattle.surf_surfaces.specs.Cells.{cells_of}
use Rattle.surf_orientation.specs.Chains.{same_way, FollowTree}
use Rattle.surf_surfaces.specs.SideNumber.{IsEdgeOf}
use Rattle.surf_soup.specs.Reach.{marked, unmarked}
use Rattle.surf_check.specs.declared.face_tree.FaceTree.{FaceTree}

-- the flag of a face
abbrev pub flag_of : List Bool → ℕ → Bool
flag_of flags f = get_or flags f false

-- the tree that tables by face say
abbrev pub grown_tree : List ℕ → List ℕ → List ℕ → Tree
grown_tree parent up rank =
    record { root = 0; parent = λ f. get_or parent f 0; up = λ f. get_or up f 0; rank = λ f. get_or rank f 0 }

-- a face hangs on a face of the tree by an edge of both, and has the flag that the edge asks for
pub record Hangs (mesh : Mesh) (parent up rank : List ℕ) (flags seen : List Bool) (f : ℕ) : Type 0 where
  pub parent_seen : marked seen (get_or parent f 0) ≡ true
  pub rank_falls : get_or rank (get_or parent f 0) 0 < get_or rank f 0
  pub is_edge : get_or up f 0 < edge_count mesh
  pub is_joined : joins (dual (cells_of mesh)) f (get_or parent f 0) (get_or up f 0) ≡ true
  pub its_flag : flag_of flags f ≡ xor (same_way mesh (get_or up f 0)) (flag_of flags (get_or parent f 0))

-- A tree so far: the marked faces are listed, and each but face 0 hangs on another.
pub record Grows (mesh : Mesh) (parent up rank : List ℕ) (flags seen : List Bool) (listed : List ℕ) : Type 0 where
  pub parents : length parent ≡ face_count mesh
  pub ups : length up ≡ face_count mesh
  pub ranks : length rank ≡ face_count mesh
  pub flag_count : length flags ≡ face_count mesh
  pub seen_count : length seen ≡ face_count mesh
  pub counted : length listed + unmarked seen ≡ face_count mesh
  pub root : marked seen 0 ≡ true
  pub listed_seen : (i : ℕ) → i < length listed → marked seen (get_or listed i 0) ≡ true
  pub seen_listed : (f : ℕ) → marked seen f ≡ true → (i : ℕ) × (i < length listed) × (get_or listed i 0 ≡ f)
  pub ranks_below : (f : ℕ) → marked seen f ≡ true → get_or rank f 0 < length listed
  pub hangs : (f : ℕ) → marked seen f ≡ true → f ≢ 0 → Hangs mesh parent up rank flags seen f

abbrev pub TreeGrows : Mesh → FaceTree → Type 0
TreeGrows mesh t = Grows mesh t.parent.items t.up.items t.rank.items t.flags.items t.seen.items t.listed.items

-- no mark is lost, and the list goes on
pub record GrowsOn (seen_before seen : List Bool) (listed_before listed : List ℕ) : Type 0 where
  pub stay : (f : ℕ) → marked seen_before f ≡ true → marked seen f ≡ true
  pub longer : length listed_before ≤ length listed
  pub kept : (i : ℕ) → i < length listed_before → get_or listed i 0 ≡ get_or listed_before i 0

abbrev pub TreeGrowsOn : FaceTree → FaceTree → Type 0
TreeGrowsOn old new = GrowsOn old.seen.items new.seen.items old.listed.items new.listed.items

-- the faces of a side's edge are marked
abbrev pub IsCrossed : Mesh → List Bool → ℕ → Type 0
IsCrossed mesh seen s = (e : ℕ) → IsEdgeOf mesh s e →
    (marked seen (faces_of mesh e).0 ≡ true) × (marked seen (faces_of mesh e).1 ≡ true)

-- a tree of all faces, with flags that its edges fit
pub record IsFlagTree (mesh : Mesh) (t : FaceTree) : Type 0 where
  pub parents : length t.parent.items ≡ face_count mesh
  pub ups : length t.up.items ≡ face_count mesh
  pub flag_count : length t.flags.items ≡ face_count mesh
  pub is_tree : IsTree (dual (cells_of mesh)) (grown_tree t.parent.items t.up.items t.rank.items)
  pub follows : FollowTree mesh (grown_tree t.parent.items t.up.items t.rank.items) (flag_of t.flags.items)
