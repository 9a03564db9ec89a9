-- Tables of sets by the numbers of edges or vertices, and of a tree of faces.
use Rattle.std.specs.Prelude.{◌≡◌, ◌≢◌, ℕ, ◌+◌, ◌*◌, ◌/◌, ◌<◌, if◌then◌else◌, bit_xor, map, take, drop, List}
use Rattle.std.specs.Prelude.{slice_index}
use Rattle.std.specs.List.{range_with_len}
use Rattle.surf_z2.specs.Sieve.{has}
use Rattle.surf_z2.specs.Words.{number}
use Rattle.surf_graphs.specs.Trees.{Tree}
use Rattle.surf_surfaces.specs.Mesh.{Mesh}
use Rattle.surf_surfaces.specs.Surface.{face_count}

-- sets of numbers below a width, each as one number, by the numbers of edges or vertices
pub record Signed : Type 0 where
  pub width : ℕ
  pub sets : List ℕ

-- how many words of 64 bits a set of numbers below a width has
abbrev pub words_for : ℕ → ℕ
words_for width = (width + 63) / 64

-- a set of a flat table with as many words for each of them
abbrev pub row_of : ℕ → List ℕ → ℕ → ℕ
row_of words table e = number (take words (drop (e * words) table))

-- the sets of such a table
abbrev pub sets_in : ℕ → ℕ → List ℕ → List ℕ
sets_in words count table = map (row_of words table) (range_with_len 0 count)

-- a set, to which another one is added where it has a number
abbrev pub added_where : ℕ → ℕ → ℕ → ℕ
added_where k other set = if has set k then bit_xor set other else set

-- the tree of faces of three tables, rooted at face 0
abbrev pub face_tree : List ℕ → List ℕ → List ℕ → Tree
face_tree parents ups depths =
    record { root = 0; parent = slice_index parents; up = slice_index ups; rank = slice_index depths }

-- a tree is rooted at face 0, and each other face hangs as two tables say
pub record HangsBy (mesh : Mesh) (tree : Tree) (parents ups : List ℕ) : Type 0 where
  pub root : tree.root ≡ 0
  pub parent : (f : ℕ) → f < face_count mesh → f ≢ 0 → slice_index parents f ≡ tree.parent f
  pub up : (f : ℕ) → f < face_count mesh → f ≢ 0 → slice_index ups f ≡ tree.up f
