-- Evidence of the class of a closed walk, or of how the classes of two differ: a set of faces, or a set of edges.
use Rattle.std.specs.List.{list_any}
use Rattle.std.specs.Prelude.{◌≡◌, ℕ, ◌<◌, ◌==◌, Bool, true, false, List, map, All, AllPairs, Contains, Option, Some}
use Rattle.std.specs.Prelude.{None, replicate}
use Rattle.surf_z2.specs.Parity.{odd}
use Rattle.surf_z2.specs.Space.{Chain, difference}
use Rattle.surf_z2.specs.Sieve.{has}
use Rattle.surf_graphs.specs.Cells.{Split}
use Rattle.surf_graphs.specs.Independence.{signature_of}
use Rattle.surf_surfaces.specs.Mesh.{Mesh, sides, pair_of, pair_lt, among, edges}
use Rattle.surf_surfaces.specs.Surface.{face_count, edge_count, face_at, ends}
use Rattle.surf_surfaces.specs.Walk.{IsClosed, edge_number, parity}
use Rattle.surf_surfaces.specs.Homology.{boundary}
use Rattle.surf_surfaces.specs.Cells.{cells_of}
use Rattle.surf_surfaces.specs.Cotree.{split_of}
use Rattle.surf_surfaces.specs.Choice.{Trees, AreChosenAt}
use Rattle.surf_surfaces.specs.Signature.{edge_signature}

-- the edges that a walk runs an odd number of times; where there is another walk, those that exactly one
-- of the two does
abbrev pub joint_parity : Mesh → List ℕ → Option (List ℕ) → Chain
joint_parity mesh walk None = parity mesh walk
joint_parity mesh walk (Some other) = difference (parity mesh walk) (parity mesh other)

-- the walk is closed, and so is the other, where there is one
abbrev pub AreClosed : Mesh → List ℕ → Option (List ℕ) → Type 0
AreClosed mesh walk None = IsClosed mesh walk
AreClosed mesh walk (Some other) = IsClosed mesh walk × IsClosed mesh other

-- whether the number is in the list
abbrev pub is_listed : List ℕ → ℕ → Bool
is_listed xs k = list_any (λ x. k == x) xs

-- null evidence: a set of faces, as an increasing list, whose boundary is the chain
pub record IsNullEvidence (mesh : Mesh) (chain : Chain) (faces : List ℕ) : Type 0 where
  pub rises : AllPairs (λ f g. f < g) faces
  pub are_faces : All (λ f. f < face_count mesh) faces
  pub bounds : (e : ℕ) → e < edge_count mesh → boundary mesh (is_listed faces) e ≡ chain e

-- whether an odd number of the face's sides are among the pairs
abbrev pub has_odd_sides : Mesh → List (ℕ × ℕ) → ℕ → Bool
has_odd_sides mesh pairs f = odd (map (λ s. among (pair_of s) pairs) (sides (face_at mesh f)))

-- whether an odd number of the pairs are edges of the chain
abbrev pub is_odd_in : Mesh → Chain → List (ℕ × ℕ) → Bool
is_odd_in mesh chain pairs = odd (map (λ p. chain (edge_number mesh p)) pairs)

-- odd evidence: a set of edges, as an increasing list of pairs, such that each face has an even number of
-- its sides in the set and the chain has an odd number of members in it
pub record IsOddEvidence (mesh : Mesh) (chain : Chain) (pairs : List (ℕ × ℕ)) : Type 0 where
  pub rises : AllPairs (λ p q. pair_lt p q ≡ true) pairs
  pub are_edges : All (Contains (edges mesh)) pairs
  pub faces_even : (f : ℕ) → f < face_count mesh → has_odd_sides mesh pairs f ≡ false
  pub chain_odd : is_odd_in mesh chain pairs ≡ true

-- evidence of either kind
pub data Evidence : Type 0 where
  null_faces : List ℕ → Evidence
  odd_pairs : List (ℕ × ℕ) → Evidence

-- it is right for the chain
abbrev pub IsEvidence : Mesh → Chain → Evidence → Type 0
IsEvidence mesh chain (null_faces faces) = IsNullEvidence mesh chain faces
IsEvidence mesh chain (odd_pairs pairs) = IsOddEvidence mesh chain pairs

-- its list is increasing, whatever it lists
abbrev pub IsRising : Evidence → Type 0
IsRising (null_faces faces) = AllPairs (λ f g. f < g) faces
IsRising (odd_pairs pairs) = AllPairs (λ p q. pair_lt p q ≡ true) pairs

-- ---- the choice

-- of the null evidence, that without face 0
pub record IsChosenNull (mesh : Mesh) (chain : Chain) (faces : List ℕ) : Type 0 where
  pub evidence : IsNullEvidence mesh chain faces
  pub without_first : is_listed faces 0 ≡ false

-- of the odd evidence, the edges whose signature has the least number of the chain's signature
pub record IsChosenOdd (mesh : Mesh) (d : Split) (chain : Chain) (pairs : List (ℕ × ℕ)) : Type 0 where
  pub number : ℕ
  pub in_signature : has (signature_of (cells_of mesh) d chain) number ≡ true
  pub least : (k : ℕ) → k < number → has (signature_of (cells_of mesh) d chain) k ≡ false
  pub rises : AllPairs (λ p q. pair_lt p q ≡ true) pairs
  pub are_edges : All (Contains (edges mesh)) pairs
  pub exactly : (e : ℕ) → e < edge_count mesh →
      among (ends mesh e) pairs ≡ has (edge_signature mesh d e) number

-- of the evidence of the one kind that there is, that which is chosen
abbrev pub IsChosen : Mesh → Split → Chain → Evidence → Type 0
IsChosen mesh d chain (null_faces faces) = IsChosenNull mesh chain faces
IsChosen mesh d chain (odd_pairs pairs) = IsChosenOdd mesh d chain pairs

-- a length of 1 for each edge
abbrev pub unit_lengths : Mesh → List ℕ
unit_lengths mesh = replicate (edge_count mesh) 1

-- that which is chosen over the trees at vertex 0, where each edge has length 1
pub record IsClassEvidence (mesh : Mesh) (chain : Chain) (evidence : Evidence) : Type 0 where
  pub trees : Trees
  pub are_chosen : AreChosenAt mesh (unit_lengths mesh) 0 trees
  pub chosen : IsChosen mesh (split_of mesh trees.tree trees.cotree) chain evidence
