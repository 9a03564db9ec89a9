-- Certificates whose lists fit the lines of a text.
use Rattle.std.specs.Prelude.{◌≡◌, ◌<◌, ◌≤◌, ◌^◌, ℕ, true, List, length, slice_index_or, Option, Some, None}
use Rattle.std.specs.List.{All, AllPairs, zip}
use Rattle.surf_surfaces.specs.Mesh.{pair_lt}
use Rattle.surf_validity.specs.Rows.{TreeRows, DualRows, LoopCert, BasisCert}
use Rattle.surf_records.specs.declared.cert.Cert.{Cert}
use Rattle.surf_records.specs.declared.cert.Cert.TheVariants.{Loops, Basis}

-- the greatest number of a text that isn't a distance
abbrev pub greatest : ℕ
greatest = 4294967295

-- A number of a text is at most 4,294,967,295.
abbrev pub IsNumber : ℕ → Type 0
IsNumber n = n ≤ greatest

abbrev pub IsParent : Option ℕ → Type 0
IsParent None = Unit {0}
IsParent (Some u) = IsNumber u

-- rows of so many vertices: each has a whole distance, and a number or nothing as its parent
pub record TreeFits (v : ℕ) (tree : TreeRows) : Type 0 where
  pub base : IsNumber tree.base
  pub distances : length tree.distance ≡ v
  pub parents : length tree.parent ≡ v
  pub whole : All (λ d. d < 2 ^ 64) tree.distance
  pub numbers : All IsParent tree.parent

-- two numbers, the lesser first
pub record IsPair (pair : ℕ × ℕ) : Type 0 where
  pub ordered : pair.0 < pair.1
  pub number : IsNumber pair.1

-- a depth of at least 1 with a side, or depth 0 with none
abbrev pub IsFaceRow : ℕ × Option (ℕ × ℕ) → Type 0
IsFaceRow (depth, None) = depth ≡ 0
IsFaceRow (depth, Some pair) = (1 ≤ depth) × IsNumber depth × IsPair pair

-- rows of so many faces
pub record DualFits (f : ℕ) (dual : DualRows) : Type 0 where
  pub depths : length dual.depth ≡ f
  pub sides : length dual.side ≡ f
  pub rows : All IsFaceRow (zip dual.depth dual.side)

-- so many pairs, each less than all later ones
pub record LeftFits (k : ℕ) (left : List (ℕ × ℕ)) : Type 0 where
  pub count : length left ≡ k
  pub pairs : All IsPair left
  pub rises : AllPairs (λ p q. pair_lt p q ≡ true) left

-- at least one number
pub record CycleFits (cycle : List ℕ) : Type 0 where
  pub some : 1 ≤ length cycle
  pub numbers : All IsNumber cycle

-- the counts are those of the lists
pub record LoopFits (cert : LoopCert) : Type 0 where
  pub vertices : IsNumber (length cert.tree.distance)
  pub faces : IsNumber (length cert.dual.depth)
  pub count : IsNumber (length cert.left)
  pub tree : TreeFits (length cert.tree.distance) cert.tree
  pub dual : DualFits (length cert.dual.depth) cert.dual
  pub left : LeftFits (length cert.left) cert.left

-- the same with a tree for each vertex, that from a vertex at its number, and as many cycles as left edges
pub record BasisFits (cert : BasisCert) : Type 0 where
  pub vertices : IsNumber (length cert.trees)
  pub faces : IsNumber (length cert.dual.depth)
  pub count : IsNumber (length cert.left)
  pub trees : All (TreeFits (length cert.trees)) cert.trees
  pub bases : (x : ℕ) (d : TreeRows) → x < length cert.trees → (slice_index_or cert.trees x d).base ≡ x
  pub dual : DualFits (length cert.dual.depth) cert.dual
  pub left : LeftFits (length cert.left) cert.left
  pub as_many : length cert.cycles ≡ length cert.left
  pub cycles : All CycleFits cert.cycles

-- a certificate of either kind
abbrev pub CertFits : Cert → Type 0
CertFits (Loops cert) = LoopFits cert
CertFits (Basis cert) = BasisFits cert
