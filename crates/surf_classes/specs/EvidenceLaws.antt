-- What holds of evidence, of the choice of it, and of its faults.
use Rattle.std.specs.Prelude.{◌≡◌, ◌≢◌, ℕ, ◌<◌, ◌&&◌, ◌↔◌, ◌⊎◌, Bool, true, List, AllPairs, Option, Some, None}
use Rattle.std.specs.Prelude.{bit_xor, false, map, filter}
use Rattle.std.specs.List.{range_with_len}
use Rattle.surf_z2.specs.Parity.{xor, odd_below}
use Rattle.surf_z2.specs.Space.{Chain}
use Rattle.surf_z2.specs.Sieve.{has}
use Rattle.surf_graphs.specs.Cells.{Split, IsSplit, dual}
use Rattle.surf_graphs.specs.Independence.{signature_of}
use Rattle.surf_graphs.specs.Trees.{Tree, IsTree}
use Rattle.surf_surfaces.specs.Mesh.{Mesh, pair_lt, among, edges}
use Rattle.surf_surfaces.specs.Surface.{face_count, edge_count, ends, borders, IsSurface}
use Rattle.surf_surfaces.specs.Walk.{ArePositive}
use Rattle.surf_surfaces.specs.Homology.{boundary, IsBoundary}
use Rattle.surf_surfaces.specs.Cells.{cells_of}
use Rattle.surf_surfaces.specs.Cotree.{split_of}
use Rattle.surf_surfaces.specs.Choice.{Trees, AreChosenAt}
use Rattle.surf_surfaces.specs.Signature.{edge_signature, walk_signature}
use Rattle.surf_classes.specs.Evidence.{joint_parity, AreClosed, has_odd_sides, is_odd_in, IsNullEvidence}
use Rattle.surf_classes.specs.Evidence.{IsOddEvidence, Evidence, IsEvidence, IsRising, IsChosenNull, IsChosenOdd}
use Rattle.surf_classes.specs.Evidence.{IsChosen, IsClassEvidence}
use Rattle.surf_classes.specs.Faults.{Fault, IsFirstFault}

-- No chain has evidence of both kinds.
abbrev pub EvidenceIsOfOneKind : Type 0
EvidenceIsOfOneKind = (mesh : Mesh) → IsSurface mesh → (chain : Chain) (faces : List ℕ) (pairs : List (ℕ × ℕ)) →
    IsNullEvidence mesh chain faces → IsOddEvidence mesh chain pairs → ⊥

-- A chain has null evidence exactly where it is a boundary.
abbrev pub BoundariesHaveEvidence : Type 0
BoundariesHaveEvidence = (mesh : Mesh) → IsSurface mesh → (chain : Chain) →
    IsBoundary mesh chain ↔ ((faces : List ℕ) × IsNullEvidence mesh chain faces)

-- A boundary has one null evidence without face 0.
abbrev pub NullChoiceIsOne : Type 0
NullChoiceIsOne = (mesh : Mesh) → IsSurface mesh → (chain : Chain) → IsBoundary mesh chain →
    (faces : List ℕ) × IsChosenNull mesh chain faces
    × ((other : List ℕ) → IsChosenNull mesh chain other → other ≡ faces)

-- The chosen null evidence of a boundary lists, in order, the faces of the set without face 0 whose
-- boundary it is.
abbrev pub NullChoiceIsFiltered : Type 0
NullChoiceIsFiltered = (mesh : Mesh) → IsSurface mesh → (chain : Chain) (set : ℕ → Bool) →
    ((e : ℕ) → e < edge_count mesh → boundary mesh set e ≡ chain e) → set 0 ≡ false →
    IsChosenNull mesh chain (filter set (range_with_len 0 (face_count mesh)))

-- A set of faces that follows a tree of the faces by a chain that is a boundary has that chain as
-- its boundary.
abbrev pub NullEvidenceGrows : Type 0
NullEvidenceGrows = (mesh : Mesh) → IsSurface mesh → (cotree : Tree) → IsTree (dual (cells_of mesh)) cotree →
    (chain : Chain) → IsBoundary mesh chain → (set : ℕ → Bool) →
    ((f : ℕ) → f < face_count mesh → f ≢ cotree.root →
    set f ≡ xor (set (cotree.parent f)) (chain (cotree.up f))) →
    (e : ℕ) → e < edge_count mesh → boundary mesh set e ≡ chain e

-- The chosen odd evidence is odd evidence.
abbrev pub OddChoiceIsRight : Type 0
OddChoiceIsRight = (mesh : Mesh) (d : Split) → IsSurface mesh → IsSplit (cells_of mesh) d →
    (chain : Chain) (pairs : List (ℕ × ℕ)) → IsChosenOdd mesh d chain pairs → IsOddEvidence mesh chain pairs

-- Closed walks whose chain is no boundary have one chosen odd evidence.
abbrev pub OddChoiceIsOne : Type 0
OddChoiceIsOne = (mesh : Mesh) (d : Split) → IsSurface mesh → IsSplit (cells_of mesh) d →
    (walk : List ℕ) (other : Option (List ℕ)) → AreClosed mesh walk other →
    (IsBoundary mesh (joint_parity mesh walk other) → ⊥) →
    (pairs : List (ℕ × ℕ)) × IsChosenOdd mesh d (joint_parity mesh walk other) pairs
    × ((others : List (ℕ × ℕ)) → IsChosenOdd mesh d (joint_parity mesh walk other) others → others ≡ pairs)

-- The chosen odd evidence lists, in order, the edges whose signature has the chosen number.
abbrev pub OddChoiceIsFiltered : Type 0
OddChoiceIsFiltered = (mesh : Mesh) (d : Split) (chain : Chain) (number : ℕ) →
    has (signature_of (cells_of mesh) d chain) number ≡ true →
    ((k : ℕ) → k < number → has (signature_of (cells_of mesh) d chain) k ≡ false) →
    IsChosenOdd mesh d chain
    (map (ends mesh) (filter (λ e. has (edge_signature mesh d e) number) (range_with_len 0 (edge_count mesh))))

-- The chosen odd evidence is one, whichever trees show the choice at a base.
abbrev pub OddChoiceIsThatOfAllTrees : Type 0
OddChoiceIsThatOfAllTrees = (mesh : Mesh) (lengths : List ℕ) (base : ℕ) (a b : Trees) → IsSurface mesh →
    ArePositive mesh lengths → AreChosenAt mesh lengths base a → AreChosenAt mesh lengths base b →
    (chain : Chain) (pairs others : List (ℕ × ℕ)) →
    IsChosenOdd mesh (split_of mesh a.tree a.cotree) chain pairs →
    IsChosenOdd mesh (split_of mesh b.tree b.cotree) chain others → pairs ≡ others

-- The chain of closed walks is a boundary exactly where its signature is empty.
abbrev pub ClassesAreDecided : Type 0
ClassesAreDecided = (mesh : Mesh) (d : Split) → IsSurface mesh → IsSplit (cells_of mesh) d →
    (walk : List ℕ) (other : Option (List ℕ)) → AreClosed mesh walk other →
    IsBoundary mesh (joint_parity mesh walk other)
    ↔ (signature_of (cells_of mesh) d (joint_parity mesh walk other) ≡ 0)

-- the signature of the walk, or of both
abbrev pub joint_signature : Mesh → Split → List ℕ → Option (List ℕ) → ℕ
joint_signature mesh d walk None = walk_signature mesh d walk
joint_signature mesh d walk (Some other) = bit_xor (walk_signature mesh d walk) (walk_signature mesh d other)

-- The signature of the chain of closed walks is the sum of those of the steps of the walks.
abbrev pub JointSignaturesAdd : Type 0
JointSignaturesAdd = (mesh : Mesh) (d : Split) → IsSurface mesh →
    (walk : List ℕ) (other : Option (List ℕ)) → AreClosed mesh walk other →
    signature_of (cells_of mesh) d (joint_parity mesh walk other) ≡ joint_signature mesh d walk other

-- the sums that odd evidence speaks of, as sums over all edges
pub record OddSumsAreOverEdges (mesh : Mesh) (chain : Chain) (pairs : List (ℕ × ℕ)) : Type 0 where
  pub of_faces : (f : ℕ) → f < face_count mesh →
      has_odd_sides mesh pairs f ≡ odd_below (edge_count mesh) (λ e. borders mesh f e && among (ends mesh e) pairs)
  pub of_chain : is_odd_in mesh chain pairs ≡ odd_below (edge_count mesh) (λ e. among (ends mesh e) pairs && chain e)

-- The sums of odd evidence go over all edges.
abbrev pub OddSumsAreSumsOverEdges : Type 0
OddSumsAreSumsOverEdges = (mesh : Mesh) → IsSurface mesh → (chain : Chain) (pairs : List (ℕ × ℕ)) →
    AllPairs (λ p q. pair_lt p q ≡ true) pairs → ((p : ℕ × ℕ) → among p pairs ≡ true → among p (edges mesh) ≡ true) →
    OddSumsAreOverEdges mesh chain pairs

-- evidence is right or has a first fault, and not both, and it has one first fault
pub record FaultsTell (mesh : Mesh) (chain : Chain) (evidence : Evidence) : Type 0 where
  pub some : IsEvidence mesh chain evidence ⊎ ((fault : Fault) × IsFirstFault mesh chain evidence fault)
  pub not_both : IsEvidence mesh chain evidence → (fault : Fault) → IsFirstFault mesh chain evidence fault → ⊥
  pub one : (a b : Fault) → IsFirstFault mesh chain evidence a → IsFirstFault mesh chain evidence b → a ≡ b

-- Evidence with an increasing list is right or has one first fault, and not both.
abbrev pub FaultsAreTold : Type 0
FaultsAreTold = (mesh : Mesh) (chain : Chain) (evidence : Evidence) → IsRising evidence →
    FaultsTell mesh chain evidence

-- Chosen evidence is right.
abbrev pub ChosenEvidenceIsRight : Type 0
ChosenEvidenceIsRight = (mesh : Mesh) (d : Split) → IsSurface mesh → IsSplit (cells_of mesh) d →
    (chain : Chain) (evidence : Evidence) → IsChosen mesh d chain evidence → IsEvidence mesh chain evidence

-- Closed walks have one chosen evidence.
abbrev pub ChosenEvidenceIsOne : Type 0
ChosenEvidenceIsOne = (mesh : Mesh) (d : Split) → IsSurface mesh → IsSplit (cells_of mesh) d →
    (walk : List ℕ) (other : Option (List ℕ)) → AreClosed mesh walk other →
    (evidence : Evidence) × IsChosen mesh d (joint_parity mesh walk other) evidence
    × ((others : Evidence) → IsChosen mesh d (joint_parity mesh walk other) others → others ≡ evidence)

-- The evidence that is chosen over the trees at vertex 0 for length 1 is right.
abbrev pub ClassEvidenceIsRight : Type 0
ClassEvidenceIsRight = (mesh : Mesh) → IsSurface mesh → (chain : Chain) (evidence : Evidence) →
    IsClassEvidence mesh chain evidence → IsEvidence mesh chain evidence

-- There is one evidence over the trees at vertex 0 for length 1.
abbrev pub ClassEvidenceIsOne : Type 0
ClassEvidenceIsOne = (mesh : Mesh) → IsSurface mesh →
    (walk : List ℕ) (other : Option (List ℕ)) → AreClosed mesh walk other →
    (evidence : Evidence) × IsClassEvidence mesh (joint_parity mesh walk other) evidence
    × ((others : Evidence) → IsClassEvidence mesh (joint_parity mesh walk other) others → others ≡ evidence)
