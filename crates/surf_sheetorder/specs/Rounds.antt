-- Rounds of sheets, each with cocycles of its own for a range of numbers.
use Rattle.std.specs.Prelude.{◌≡◌, ℕ, ◌<◌, ◌≤◌, Bool, List, length, All, Contains}
use Rattle.surf_z2.specs.Space.{Chain}
use Rattle.surf_surfaces.specs.Mesh.{Mesh}
use Rattle.surf_surfaces.specs.Surface.{edge_count}
use Rattle.surf_surfaces.specs.Walk.{IsClosed}
use Rattle.surf_surfaces.specs.Homology.{IsLoopCount}
use Rattle.surf_sheets.specs.Sheets.{IsCocycle, ArePaired, is_crossed}
use Rattle.surf_sheets.specs.Placed.{AreByPlace}
use Rattle.surf_sheetorder.specs.Off.{place_at_number, ComesFirst, OffSheet, IsPlacedSheetOff, AreInOrder, IsServedBySome}

-- two sets of edges are alike: there is a label of two at each vertex, and an edge is in one of them but not in the
-- other exactly where the labels of its ends differ
abbrev pub AreAlike : Mesh → Chain → Chain → Type 0
AreAlike mesh set other = (label : ℕ → Bool) × ((e : ℕ) → e < edge_count mesh → other e ≡ is_crossed mesh set label e)

-- as many closed walks as 2 − χ, in the order of length and base, with cocycles that are paired with them
pub record AreClaimed (mesh : Mesh) (lengths : List ℕ) (walks : List (List ℕ)) (cocycles : ℕ → Chain) : Type 0 where
  pub closed : All (IsClosed mesh) walks
  pub count : IsLoopCount mesh (length walks)
  pub by_place : AreByPlace mesh lengths walks
  pub are_cocycles : (i : ℕ) → i < length walks → IsCocycle mesh (cocycles i)
  pub paired : ArePaired mesh walks cocycles

-- and the place of each comes first among the closed walks that are odd on its cocycle
pub record AreFirst (mesh : Mesh) (lengths : List ℕ) (walks : List (List ℕ)) (cocycles : ℕ → Chain) : Type 0 where
  pub claimed : AreClaimed mesh lengths walks cocycles
  pub first : (i : ℕ) → i < length walks → ComesFirst mesh lengths (cocycles i) (place_at_number mesh lengths walks i)

-- the numbers of a round are those from `start` on that are below `end`. It has cocycles for them, and so many sheets
pub record Round : Type 0 where
  pub start : ℕ
  pub end : ℕ
  pub cocycles : ℕ → Chain
  pub count : ℕ
  pub sheets : ℕ → OffSheet

abbrev pub IsOfRound : Round → ℕ → Type 0
IsOfRound round i = (round.start ≤ i) × (i < round.end)

-- its cocycles are alike to those of the walks with their numbers, its sheets are sheets for them in an order, and each
-- edge of a cocycle has an end that is served
pub record IsRound (mesh : Mesh) (lengths : List ℕ) (walks : List (List ℕ)) (cocycles : ℕ → Chain)
    (round : Round) : Type 0 where
  pub alike : (i : ℕ) → IsOfRound round i → AreAlike mesh (cocycles i) (round.cocycles i)
  pub are_sheets : (t : ℕ) → t < round.count →
      IsPlacedSheetOff mesh lengths walks round.cocycles (round.sheets t)
  pub in_order : AreInOrder mesh round.sheets round.count
  pub served : (i : ℕ) → IsOfRound round i →
      IsServedBySome mesh round.sheets round.count i (round.cocycles i)

-- claimed walks, and rounds of which each number has one
pub record AreShownByRounds (mesh : Mesh) (lengths : List ℕ) (walks : List (List ℕ)) (cocycles : ℕ → Chain)
    (rounds : List Round) : Type 0 where
  pub claimed : AreClaimed mesh lengths walks cocycles
  pub are_rounds : All (IsRound mesh lengths walks cocycles) rounds
  pub each : (i : ℕ) → i < length walks → (round : Round) × Contains rounds round × IsOfRound round i
