-- What is known of cocycles that are paired with the walks of a least basis.
use Rattle.std.specs.Prelude.{◌≡◌, ℕ, ◌+◌, ◌<◌, ◌≤◌, ◌^◌, ◌⊎◌, true, false, List, length, map, All, bit_xor}
use Rattle.std.specs.Prelude.{slice_index}
use Rattle.surf_z2.specs.Space.{Chain, Independent, numbers}
use Rattle.surf_z2.specs.Sieve.{has}
use Rattle.surf_surfaces.specs.Mesh.{Mesh}
use Rattle.surf_surfaces.specs.Surface.{IsSurface}
use Rattle.surf_surfaces.specs.Walk.{IsClosed, ArePositive, walk_length}
use Rattle.surf_surfaces.specs.Homology.{IsLeastBasis}
use Rattle.surf_sheets.specs.Sheets.{IsCocycle, is_odd_on, walk_at, ArePaired, AreByLength, Sheet, HasNoShortCut, IsSheet}
use Rattle.surf_paired.specs.Paired.{HasWayTo, IsFarOff, image, moved, ArePairedRows, AreUnits}

-- Let cocycles be paired with the walks of a least basis in the order of length, whichever they are. Then a closed walk
-- that is odd on one of them is no shorter than the walk with its number.
abbrev pub OddWalksAreNoShorterThanLeast : Type 0
OddWalksAreNoShorterThanLeast =
    (mesh : Mesh) (lengths : List ℕ) (walks : List (List ℕ)) (cocycles : ℕ → Chain) → IsSurface mesh →
    ArePositive mesh lengths → IsLeastBasis mesh lengths walks → AreByLength mesh lengths walks →
    ((i : ℕ) → i < length walks → IsCocycle mesh (cocycles i)) → ArePaired mesh walks cocycles → (i : ℕ) →
    i < length walks → (walk : List ℕ) → IsClosed mesh walk → is_odd_on mesh (cocycles i) walk ≡ true →
    walk_length mesh lengths (walk_at walks i) ≤ walk_length mesh lengths walk

-- Then any distances and labels without a margin are a sheet, by which no edge is a short cut, if they are those of walks
-- from one vertex but where the way there and back is as long as all walks in the range.
abbrev pub VerticesAreSheets : Type 0
VerticesAreSheets =
    (mesh : Mesh) (lengths : List ℕ) (walks : List (List ℕ)) (cocycles : ℕ → Chain) (sheet : Sheet) (x : ℕ) →
    IsSurface mesh → ArePositive mesh lengths → IsLeastBasis mesh lengths walks → AreByLength mesh lengths walks →
    ((i : ℕ) → i < length walks → IsCocycle mesh (cocycles i)) → ArePaired mesh walks cocycles → x < mesh.vertices →
    sheet.margin ≡ 0 → HasNoShortCut mesh lengths sheet.distance →
    ((v : ℕ) → v < mesh.vertices → HasWayTo mesh lengths cocycles sheet x v ⊎ IsFarOff mesh lengths walks sheet v) →
    IsSheet mesh lengths walks cocycles sheet

-- ---- elimination

-- The image of a sum is the sum of the images.
abbrev pub ImagesAdd : Type 0
ImagesAdd = (rows : List ℕ) (x y : ℕ) → image rows (bit_xor x y) ≡ bit_xor (image rows x) (image rows y)

-- Where a set is added to each row that has a number, it is added to each image that has it.
abbrev pub ImagesMove : Type 0
ImagesMove = (rows : List ℕ) (k other x : ℕ) → image (map (moved k other) rows) x ≡ moved k other (image rows x)

-- Rows that are the sets of their own numbers are paired with none.
abbrev pub UnitsPairNone : Type 0
UnitsPairNone = (classes rows : List ℕ) → AreUnits rows → ArePairedRows classes rows 0

-- The image of the next of independent classes has a number that no class before it has.
abbrev pub NextHasOwn : Type 0
NextHasOwn =
    (classes rows : List ℕ) (n : ℕ) → Independent numbers classes → All (λ c. c < 2 ^ length rows) classes →
    n < length classes → ArePairedRows classes rows n →
    ((k : ℕ) → n ≤ k → k < length rows → has (image rows (slice_index classes n)) k ≡ false) → ⊥

-- Pairs stay where a set without a number that comes later than they is added to the rows that have it.
abbrev pub PairsStay : Type 0
PairsStay =
    (classes rows : List ℕ) (n k other : ℕ) → n ≤ k → other < 2 ^ length rows → has other k ≡ false →
    ArePairedRows classes rows n → ArePairedRows classes (map (moved k other) rows) n

-- One pair more: the image of the next class has its own number, and what it has above is taken out.
abbrev pub OnePairMore : Type 0
OnePairMore =
    (classes rows : List ℕ) (n other : ℕ) → other < 2 ^ length rows → has other n ≡ false →
    has (image rows (slice_index classes n)) n ≡ true →
    ((j : ℕ) → n < j → has other j ≡ has (image rows (slice_index classes n)) j) → ArePairedRows classes rows n →
    ArePairedRows classes (map (moved n other) rows) (n + 1)
