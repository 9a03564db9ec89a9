-- The border of a disc, listed in one round.
use Rattle.std.specs.Prelude.{◌≡◌, ◌≢◌, ℕ, ◌+◌, ◌-◌, ◌<◌, ◌≤◌, ◌⊎◌, Bool, true, false, List, length, slice_index}
use Rattle.std.specs.Prelude.{slice_index_or}
use Rattle.std.specs.List.{flat_map}
use Rattle.surf_surfaces.specs.Mesh.{Mesh, sides}
use Rattle.surf_surfaces.specs.Surface.{faces_with}
use Rattle.surf_opening.specs.Laws.{TellsCut}
use Rattle.surf_opening.specs.Side.{Side}
use Rattle.surf_opening.specs.Uncut.{IsDualTree, IsTrimmed}
use Rattle.surf_surfaces.specs.SideNumber.{IsEdgeOf, side_count, pair_at}
use Rattle.surf_cutter.specs.Trimming.{is_cut}

-- the two corners of a side, in the listed order of its face
abbrev pub corners_of : Mesh → ℕ → ℕ × ℕ
corners_of mesh s = slice_index_or (flat_map sides mesh.faces) s (0, 0)

-- the copy is a corner of the side
abbrev pub HasCopy : Mesh → ℕ → ℕ → Type 0
HasCopy mesh s c = (c ≡ (corners_of mesh s).0) ⊎ (c ≡ (corners_of mesh s).1)

-- a side whose edge is a side of one face only
abbrev pub IsBorderSide : Mesh → ℕ → Type 0
IsBorderSide mesh s = (s < side_count mesh) × (length (faces_with mesh (pair_at mesh s)) ≡ 1)

-- beside s, the border side t is the other one at a copy, and there is no further one
pub record IsOtherAt (mesh : Mesh) (c s t : ℕ) : Type 0 where
  pub border : IsBorderSide mesh t
  pub at : HasCopy mesh t c
  pub differs : t ≢ s
  pub no_third : (u : ℕ) → IsBorderSide mesh u → HasCopy mesh u c → (u ≡ s) ⊎ (u ≡ t)

-- the one copy that the last side has and the side before it doesn't have
pub record IsOnward (mesh : Mesh) (before last c : ℕ) : Type 0 where
  pub of_last : HasCopy mesh last c
  pub new : HasCopy mesh before c → ⊥
  pub one : (d : ℕ) → HasCopy mesh last d → (HasCopy mesh before d → ⊥) → d ≡ c

-- All border sides, each once, in one round along the border. The first is the least. The second is the other border
-- side at the second corner of the first. Each further one is the other border side at the copy that the last side has
-- and the side before it doesn't have. The round closes at the first corner of the first side.
pub record IsBoundary (mesh : Mesh) (list : List ℕ) : Type 0 where
  pub border : (k : ℕ) → k < length list → IsBorderSide mesh (slice_index list k)
  pub all : (s : ℕ) → IsBorderSide mesh s → (k : ℕ) × (k < length list) × (slice_index list k ≡ s)
  pub once : (i k : ℕ) → i < k → k < length list → slice_index list i ≢ slice_index list k
  pub first : (s : ℕ) → IsBorderSide mesh s → slice_index list 0 ≤ s
  pub second : 1 < length list → IsOtherAt mesh (corners_of mesh (slice_index list 0)).1 (slice_index list 0)
      (slice_index list 1)
  pub further : (k : ℕ) → k + 2 < length list →
      (c : ℕ) × IsOnward mesh (slice_index list k) (slice_index list (k + 1)) c
      × IsOtherAt mesh c (slice_index list (k + 1)) (slice_index list (k + 2))
  pub closes : HasCopy mesh (slice_index list (length list - 1)) (corners_of mesh (slice_index list 0)).0

-- a list of all border sides, in their order
pub record AreBorderSides (mesh : Mesh) (list : List ℕ) : Type 0 where
  pub border : (k : ℕ) → k < length list → IsBorderSide mesh (slice_index list k)
  pub all : (s : ℕ) → IsBorderSide mesh s → (k : ℕ) × (k < length list) × (slice_index list k ≡ s)
  pub rises : (i k : ℕ) → i < k → k < length list → slice_index list i < slice_index list k

-- the least border side
abbrev pub IsLeastBorderSide : Mesh → ℕ → Type 0
IsLeastBorderSide mesh s = IsBorderSide mesh s × ((t : ℕ) → IsBorderSide mesh t → s ≤ t)

-- at each copy of a border side there is another border side, and no third
pub record HasPairedBorder (mesh : Mesh) : Type 0 where
  pub apart : (s : ℕ) → IsBorderSide mesh s → (corners_of mesh s).0 ≢ (corners_of mesh s).1
  pub another : (s c : ℕ) → IsBorderSide mesh s → HasCopy mesh s c → (t : ℕ) × IsBorderSide mesh t × HasCopy mesh t c
      × (t ≢ s)
  pub no_third : (s t u c : ℕ) → IsBorderSide mesh s → IsBorderSide mesh t → IsBorderSide mesh u →
      HasCopy mesh s c → HasCopy mesh t c → HasCopy mesh u c → (s ≡ t) ⊎ ((s ≡ u) ⊎ (t ≡ u))

-- a side of the surface whose edge has a flag
abbrev pub IsCutSide : Mesh → List Bool → ℕ → Type 0
IsCutSide mesh cut s = (e : ℕ) × IsEdgeOf mesh s e × (slice_index_or cut e false ≡ true)

-- the sides below n whose edges have a flag, in their order
pub record AreCutSides (mesh : Mesh) (cut : List Bool) (n : ℕ) (list : List ℕ) : Type 0 where
  pub below : (k : ℕ) → k < length list → slice_index list k < n
  pub are_cut : (k : ℕ) → k < length list → IsCutSide mesh cut (slice_index list k)
  pub all : (s : ℕ) → s < n → IsCutSide mesh cut s → (k : ℕ) × (k < length list) × (slice_index list k ≡ s)
  pub rises : (i k : ℕ) → i < k → k < length list → slice_index list i < slice_index list k

-- The flags mark what is cut where a tree of the faces grows face by face along edges that aren't cut, and some edges
-- are left uncut beside it, each at a vertex where it is the only cut edge while more than two are cut.
abbrev pub OpensToDisc : Mesh → List Bool → Type 0
OpensToDisc mesh cut =
    (tree : List (ℕ × ℕ)) × (uncut : List (ℕ × ℕ)) × IsDualTree (Side mesh) tree × IsTrimmed (Side mesh) tree uncut
    × TellsCut mesh uncut (is_cut cut)
