-- Certificates, as records of plain lists.
use Rattle.std.specs.Prelude.{ℕ, List, Option}

-- a tree of shortest walks: its base, and for each vertex the distance from it and the parent
pub record TreeRows : Type 0 where
  pub base : ℕ
  pub distance : List ℕ
  pub parent : List (Option ℕ)

-- a tree of the faces, rooted at face 0: for each face how many edges it is from there, and the side over which its
-- parent lies
pub record DualRows : Type 0 where
  pub depth : List ℕ
  pub side : List (Option (ℕ × ℕ))

-- what shows that loops at a base are least: the two trees, and the edges that are left, as pairs of their ends
pub record LoopCert : Type 0 where
  pub tree : TreeRows
  pub dual : DualRows
  pub left : List (ℕ × ℕ)

-- what shows that cycles are a least basis: a tree at each vertex, the tree of faces and the left edges over the tree
-- at vertex 0, and the cycles
pub record BasisCert : Type 0 where
  pub trees : List TreeRows
  pub dual : DualRows
  pub left : List (ℕ × ℕ)
  pub cycles : List (List ℕ)
