-- Searches as far as a cap of each vertex: what is sought there, what is kept of it, and how great caps have to be.
use Rattle.std.specs.Prelude.{ℕ, ◌≡◌, ◌≢◌, ◌<◌, ◌≤◌, ◌+◌, ◌-◌, ◌*◌, ◌^◌, ◌⊎◌, ◌&&◌, ◌||◌, nat_le, min, Bool, false, IsTrue, List, [], ◌∷◌, All, Contains, length, map, slice_index, slice_index_or, Option, Some, None}
use Rattle.std.specs.List.Sorted.{IsNonDecreasingBy}
use Rattle.surf_z2.specs.Order.{IsInOrder, merge}
use Rattle.surf_z2.specs.Space.{numbers, Independent}
use Rattle.surf_graphs.specs.Cells.{Split, IsSplit}
use Rattle.surf_graphs.specs.Trees.{Tree}
use Rattle.surf_surfaces.specs.Mesh.{Mesh}
use Rattle.surf_surfaces.specs.Surface.{edge_count, ends}
use Rattle.surf_surfaces.specs.Walk.{ArePositive}
use Rattle.surf_surfaces.specs.Cells.{cells_of}
use Rattle.surf_surfaces.specs.Class.{class_of}
use Rattle.surf_surfaces.specs.Choice.{Trees, AreChosen}
use Rattle.surf_surfaces.specs.FewBases.{Place, Found}
use Rattle.surf_caps.specs.Caps.{Sought, AreEnoughFor, either, limited}
use Rattle.surf_choice.specs.declared.candidate.Signed.{Signed}
use Rattle.surf_choice.specs.declared.candidate.Candidate.{Candidate}
use Rattle.surf_choice.specs.Candidates.{Chosen, IsSumOfLength, independent_of, signed_earlier, signatures}
use Rattle.surf_choice.specs.Places.{is_sought, limit_of, order_of, stands_before}
use Rattle.surf_search.specs.declared.caps.Ask.{Ask}
use Rattle.surf_finder.specs.Found.{SurfaceTables, AreFound}
use Rattle.surf_finder.specs.Passing.{AreNoShorter, is_marked}
use Rattle.surf_search.specs.Ahead.{IsAhead}
use Rattle.surf_finder.specs.Signing.{SignTables, AreSignatures}

-- ---- what is sought

-- no loop of the place is longer than the cap. The greatest number that there is caps nothing
abbrev pub is_within_cap : ℕ → Place → Bool
is_within_cap cap place = nat_le place.0 cap || nat_le 18446744073709551615 cap

-- the cap of a vertex
abbrev pub cap_at : List ℕ → ℕ → ℕ
cap_at caps v = slice_index_or caps v 0

-- at each vertex what is within its cap
abbrev pub in_caps : List ℕ → Sought
in_caps caps z place = is_within_cap (cap_at caps z) place

-- in a round also what is within a bound, at the vertices that are marked
abbrev pub in_round : List ℕ → List Bool → ℕ → Sought
in_round caps marks bound = either (in_caps caps) (λ z place. is_marked marks z && is_within_cap bound place)

-- the earlier of a limit and a cap: what comes before it is what comes before the limit and is within the cap
pub record IsCapped (limit : Option Candidate) (cap : ℕ) (capped : Option Candidate) : Type 0 where
  pub sooner : (p : Place) → IsTrue (is_sought capped p) → IsTrue (is_sought limit p)
  pub within : (p : Place) → IsTrue (is_sought capped p) → IsTrue (is_within_cap cap p)
  pub all : (p : Place) → IsTrue (is_within_cap cap p) → IsTrue (is_sought limit p) → IsTrue (is_sought capped p)

-- what comes before a limit comes before a wider one
abbrev pub IsWider : Option Candidate → Option Candidate → Type 0
IsWider limit wide = (p : Place) → IsTrue (is_sought limit p) → IsTrue (is_sought wide p)

-- ---- what is kept

-- what is told of a loop that was found: its length, its least base and its class
abbrev pub told_of : Mesh → Split → Found → ℕ × (ℕ × ℕ)
told_of mesh d k = (k.size, (k.through, class_of mesh d k.walk))

-- what a candidate tells of its loop
abbrev pub told_by : Signed → ℕ × (ℕ × ℕ)
told_by c = (c.candidate.length, (c.candidate.base, c.signature))

-- independent loops in order, which are enough of those that are sought and come before a limit. Searches may have found
-- them that bar vertices
pub record AreKeptTo (mesh : Mesh) (lengths : List ℕ) (trees : ℕ → Tree) (d : Split) (limit : Option Candidate)
    (sought : Sought) (kept : List Signed) : Type 0 where
  pub loops : List Found
  pub told : map (told_of mesh d) loops ≡ map told_by kept
  pub enough : AreEnoughFor mesh lengths trees (limited (is_sought limit) sought) loops
  pub order : IsInOrder stands_before kept
  pub independent : Independent numbers (signatures kept)

-- so they are by all trees that show the choice
abbrev pub AreKeptUpTo : SurfaceTables → Sought → Chosen → Type 0
AreKeptUpTo f sought choice = (trees : ℕ → Trees) → AreChosen f.mesh f.lengths trees → (d : Split) →
    IsSplit (cells_of f.mesh) d → AreSignatures f.mesh d f.signs →
    AreKeptTo f.mesh f.lengths (λ x. (trees x).tree) d (limit_of choice) sought choice.kept

-- the choice was made again from what was kept and the loops at a vertex that come before a limit
pub record IsKeptAt (f : SurfaceTables) (base : ℕ) (limit : Option Candidate) (old new : Chosen) : Type 0 where
  pub list : List Signed
  pub are : AreFound f.mesh f.lengths f.signs limit base list
  pub sorted : IsNonDecreasingBy order_of list
  pub new_is : new ≡ record old { kept = independent_of (merge signed_earlier old.kept list) }

-- up to any caps for which what was kept was enough, what is kept now is enough too
abbrev pub StaysEnough : SurfaceTables → Chosen → Chosen → Type 0
StaysEnough f old new = (caps : List ℕ) → AreKeptUpTo f (in_caps caps) old → AreKeptUpTo f (in_caps caps) new

-- ---- a round

-- a finder bars vertices that are marked: its lengths differ at edges there alone, and are no shorter
pub record IsBarring (f scout : SurfaceTables) (marks : List Bool) : Type 0 where
  pub positive : ArePositive f.mesh f.lengths
  pub count : length marks ≡ f.mesh.vertices
  pub ahead : IsAhead f scout marks
  pub no_shorter : AreNoShorter f.mesh f.lengths scout.lengths

-- Where what was kept was enough in a round up to a cap, and nothing is left to find up to a length, what is kept now is
-- enough with the vertices that are marked now.
abbrev pub KeepsInRound : SurfaceTables → ℕ → ℕ → List Bool → List Bool → Chosen → Chosen → Type 0
KeepsInRound f least cap before after old new = (caps : List ℕ) →
    ((v : ℕ) → v < f.mesh.vertices → least ≤ cap_at caps v) →
    AreKeptUpTo f (in_round caps before cap) old → AreKeptUpTo f (in_round caps after cap) new

-- each of some loops is a sum of kept ones up to a length, or is longer than kept ones of which it is a sum by so much
abbrev pub AreLongerOr : List Signed → ℕ → ℕ → List Signed → Type 0
AreLongerOr kept least margin found = All (λ s. (sum : ℕ) × IsSumOfLength kept sum s.signature
    × ((sum ≤ least) ⊎ (sum + margin ≤ s.candidate.length))) found

-- a number that is greater for a lesser cap, and among those of one cap for a greater rank
abbrev pub fall_order : List ℕ → List ℕ → ℕ → ℕ
fall_order caps ranks v = (18446744073709551615 - cap_at caps v) * 2 ^ 32 + slice_index_or ranks v 0

-- no vertex of a list has a greater cap than one before it
abbrev pub AreFalling : List ℕ → List ℕ → Type 0
AreFalling caps list = (i j d : ℕ) → i ≤ j → j < length list → cap_at caps (slice_index_or list j d) ≤ cap_at caps (slice_index_or list i d)

-- the vertices that are marked were searched without a cap
abbrev pub AreDone : List ℕ → List Bool → Type 0
AreDone reached marks = (v : ℕ) → IsTrue (is_marked marks v) → cap_at reached v ≡ 18446744073709551615

-- caps are raised to a length, where they were less
pub record AreRaisedTo (most : ℕ) (old new : List ℕ) : Type 0 where
  pub count : length new ≡ length old
  pub each : (v : ℕ) → v < length old → (most ≤ cap_at new v) × ((cap_at new v ≡ cap_at old v) ⊎ (cap_at new v ≡ most))

-- ---- how great caps have to be

-- loops over an edge of the signature are asked for up to a length: that of the last of the first kept loops of which the
-- signature is a sum. The greatest number asks for all
abbrev pub IsAsked : List Signed → ℕ → ℕ → Type 0
IsAsked kept ask signature = (ask ≡ 18446744073709551615) ⊎ IsSumOfLength kept ask signature

-- an end of the edge has a cap that is no less than a number
abbrev pub HasCappedEnd : Mesh → List ℕ → ℕ → ℕ → Type 0
HasCappedEnd mesh caps least e = (least ≤ cap_at caps (ends mesh e).0) ⊎ (least ≤ cap_at caps (ends mesh e).1)

-- each edge has an end with a cap that is no less than what is asked, as far as it is no more than a number
abbrev pub AreCapped : Mesh → SignTables → List Signed → ℕ → List ℕ → Type 0
AreCapped mesh s kept most caps = (e : ℕ) → e < edge_count mesh →
    (ask : ℕ) × IsAsked kept ask (slice_index s.signatures e) × HasCappedEnd mesh caps (min ask most) e

-- caps are no less than others
abbrev pub AreNoLess : List ℕ → List ℕ → Type 0
AreNoLess old new = (v : ℕ) → cap_at old v ≤ cap_at new v

-- a list has those of the first vertices whose caps are greater than how far they were searched
abbrev pub AreRising : List ℕ → List ℕ → ℕ → List ℕ → Type 0
AreRising caps reached below list = (v : ℕ) → v < below → (cap_at caps v ≤ cap_at reached v) ⊎ Contains list v

-- ---- asks of edges

-- a list has an ask for each edge with a signature that isn't empty: what is asked, and no more than a number
abbrev pub AreAsks : SignTables → List Signed → ℕ → ℕ → List Ask → Type 0
AreAsks s kept most below asks = (e : ℕ) → e < below → slice_index s.signatures e ≢ 0 →
    (a : Ask) × Contains asks a × (a.edge ≡ e) × ((ask : ℕ) × IsAsked kept ask (slice_index s.signatures e) × (a.length ≡ min ask most))

-- ---- how long loops are that a round seeks

-- there is a limit, and it is no longer than a number
abbrev pub is_limit_below : Option Candidate → ℕ → Bool
is_limit_below None most = false
is_limit_below (Some c) most = nat_le c.length most

-- four times the length of the first of those kept, as far as a number goes
abbrev pub most_at_first : List Signed → ℕ
most_at_first [] = 18446744073709551615
most_at_first (s ∷ rest) = min (s.candidate.length * 4) 18446744073709551615
