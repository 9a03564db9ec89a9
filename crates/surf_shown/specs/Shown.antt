-- Searches that were kept, and what they show of loops that are claimed to have the places of the basis.
use Rattle.std.specs.Prelude.{◌≡◌, ℕ, ◌+◌, ◌^◌, ◌<◌, ◌≤◌, ◌⊎◌, Bool, true, false, ◌||◌, ◌==◌, bit_xor, List, [], ◌∷◌, length, map, take, All}
use Rattle.std.specs.Prelude.{slice_index, slice_index_or}
use Rattle.std.specs.List.{range_with_len}
use Rattle.surf_z2.specs.Order.{IsInOrder}
use Rattle.surf_graphs.specs.Cells.{Split, IsSplit}
use Rattle.surf_surfaces.specs.Surface.{edge_count, ends}
use Rattle.surf_surfaces.specs.Walk.{ArePositive}
use Rattle.surf_surfaces.specs.Cells.{cells_of}
use Rattle.surf_surfaces.specs.Signature.{edge_signature}
use Rattle.surf_surfaces.specs.Choice.{Trees, AreChosen, Loop, IsChosenBasis}
use Rattle.surf_surfaces.specs.FewBases.{place_of_loop}
use Rattle.surf_choice.specs.Candidates.{signatures}
use Rattle.surf_choice.specs.Places.{is_sought, place_of, stands_before}
use Rattle.surf_choice.specs.declared.candidate.Signed.{Signed}
use Rattle.surf_sheetorder.specs.Searches.{ListedLoop}
use Rattle.surf_sheetorder.specs.Needs.{AreClaimedLoops, IsSearchOff, IsSumOfFirst, NoneNeedsSooner, NoneNeedsSoonerAt}
use Rattle.surf_base.specs.Tables.{at}
use Rattle.surf_shown.specs.declared.record.Claim.{Claim}
use Rattle.surf_shown.specs.declared.record.Labels.{Labels}
use Rattle.surf_shown.specs.declared.record.Round.{Round}
use Rattle.surf_shown.specs.declared.record.SearchRecord.{SearchRecord}

-- ---- what is claimed

-- a candidate with its signature as a loop: its place and its class
abbrev pub loop_of : Signed → ListedLoop
loop_of s = record { place = place_of s.candidate; class = s.signature }

abbrev pub loops_of : List Signed → List ListedLoop
loops_of list = map loop_of list

-- the loops that are claimed
abbrev pub claimed : Claim → List ListedLoop
claimed c = loops_of c.loops.now

-- they stand in the order of length and base
abbrev pub AreInPlace : List Signed → Type 0
AreInPlace kept = IsInOrder stands_before kept

-- candidates have the signatures of some loops, and each of them is as long as its number, from 1 on
pub record AreRanks (loops ranks : List Signed) : Type 0 where
  pub signatures_same : signatures ranks ≡ signatures loops
  pub length_is : (k : ℕ) (s : Signed) → k < length ranks → (slice_index_or ranks k s).candidate.length ≡ k + 1

-- two trees and the edges in neither divide the edges, and the table has the signatures by them
pub record IsSignedBy (c : Claim) (d : Split) : Type 0 where
  pub split : IsSplit (cells_of c.mesh.now) d
  pub signatures : c.signatures.now.sets ≡ map (edge_signature c.mesh.now d) (range_with_len 0 (edge_count c.mesh.now))

-- the table has signatures, for as many loops as may be kept. Lengths are positive. There are ranks of the loops. The loops are as many as 2 − χ,
-- independent, in order, and told of closed walks
pub record IsClaim (c : Claim) : Type 0 where
  pub signed : (d : Split) × IsSignedBy c d
  pub small : All (λ s. s < 2 ^ c.ranks.now.width) c.signatures.now.sets
  pub positive : ArePositive c.mesh.now c.lengths.now
  pub ranked : AreRanks c.loops.now c.ranks.now.kept
  pub in_place : AreInPlace c.loops.now
  pub loops : (d : Split) → IsSignedBy c d → AreClaimedLoops c.mesh.now c.lengths.now d (claimed c)

-- the loops have the lengths and the bases of the basis that is chosen, one by one, whichever trees show the choice
abbrev pub HavePlaces : Claim → Type 0
HavePlaces c = (trees : ℕ → Trees) → AreChosen c.mesh.now c.lengths.now trees → (basis : List Loop) →
    IsChosenBasis c.mesh.now c.lengths.now trees basis →
    map (λ s. place_of s.candidate) c.loops.now ≡ map place_of_loop basis

-- ---- searches

-- a list has a vertex
abbrev pub is_in : List ℕ → ℕ → Bool
is_in [] v = false
is_in (x ∷ xs) v = (x == v) || is_in xs v

-- one of some searches serves a vertex
abbrev pub is_served_by : List SearchRecord → ℕ → Bool
is_served_by [] v = false
is_served_by (r ∷ rs) v = is_in r.served.items v || is_served_by rs v

-- a search that leaves out vertices went as is told of it
abbrev pub IsSearched : Claim → (ℕ → Bool) → SearchRecord → Type 0
IsSearched c off r = (d : Split) → IsSignedBy c d →
    IsSearchOff c.mesh.now c.lengths.now d off r.base (is_sought r.limit) (loops_of r.loops.items) r.margin r.served.items

-- each search leaves out the vertices that those before it serve, and went as is told of it
pub record AreRecords (c : Claim) (records : List SearchRecord) : Type 0 where
  pub searched : (t : ℕ) (r : SearchRecord) → t < length records →
      IsSearched c (is_served_by (take t records)) (slice_index_or records t r)
  pub inside : (t : ℕ) (r : SearchRecord) → t < length records →
      All (λ v. v < c.mesh.now.vertices) (slice_index_or records t r).served.items
  pub small : (t : ℕ) (r : SearchRecord) → t < length records →
      All (λ s. s.signature < 2 ^ c.ranks.now.width) (slice_index_or records t r).loops.items

-- there is a class for each vertex, of as many loops as may be kept
pub record AreLabels (c : Claim) (l : Labels) : Type 0 where
  pub count : length l.numbers.now ≡ c.mesh.now.vertices
  pub inside : All (λ k. k < length l.classes.now) l.numbers.now
  pub small : All (λ s. s < 2 ^ c.ranks.now.width) l.classes.now

-- the searches and the labels of a round are such
pub record IsRound (c : Claim) (r : Round) : Type 0 where
  pub records : AreRecords c r.records.now
  pub labels : AreLabels c r.labels

-- ---- what is shown

-- a table has of each vertex the number of a loop: no closed walk over the vertex that needs a loop before that one
-- comes sooner than it
abbrev pub AreShownTo : Claim → List ℕ → Type 0
AreShownTo c table = (d : Split) → IsSignedBy c d → (v i : ℕ) → v < c.mesh.now.vertices → i < at table v →
    i < length (claimed c) → NoneNeedsSoonerAt c.mesh.now c.lengths.now d (claimed c) i v

-- no closed walk that needs a loop before the one with a number comes sooner than it
abbrev pub AreFirstTo : Claim → ℕ → Type 0
AreFirstTo c to = (d : Split) → IsSignedBy c d → (i : ℕ) → i < to → i < length (claimed c) →
    NoneNeedsSooner c.mesh.now c.lengths.now d (claimed c) i

-- no entry of a table is less than a number
abbrev pub IsLeast : ℕ → List ℕ → Type 0
IsLeast least table = (v : ℕ) → v < length table → least ≤ at table v

-- nor is the entry of a vertex that one of some searches serves
abbrev pub AreServedTo : List SearchRecord → ℕ → List ℕ → Type 0
AreServedTo records to table = (v : ℕ) → is_served_by records v ≡ true → to ≤ at table v

-- the entry of a vertex is raised to a number, and no other one changes
pub record IsRaised (v end : ℕ) (old new : List ℕ) : Type 0 where
  pub there : end ≤ at new v
  pub more : (u : ℕ) → at old u ≤ at new u
  pub each : (u i : ℕ) → i < at new u → (i < at old u) ⊎ ((i < end) × (u ≡ v))
  pub count : length new ≡ length old

-- ---- labels

-- the class of the label of a vertex
abbrev pub label_at : Labels → ℕ → ℕ
label_at l v = slice_index l.classes.now (at l.numbers.now v)

-- the signature of an edge, with the labels of its ends added
abbrev pub labelled_class : Claim → Labels → ℕ → ℕ
labelled_class c l e =
    bit_xor (bit_xor (label_at l (ends c.mesh.now e).0) (label_at l (ends c.mesh.now e).1)) (slice_index c.signatures.now.sets e)

-- the class of an edge is a sum of the first loops. If the one with a number, from `from` on and before `to`, is among
-- them, then the entry of an end of the edge is greater than that number
abbrev pub IsServedEdge : Claim → Labels → ℕ → ℕ → List ℕ → ℕ → Type 0
IsServedEdge c l from to table e = (n : ℕ) × IsSumOfFirst (claimed c) n (labelled_class c l e)
    × ((i : ℕ) → from ≤ i → i < to → i < n → (i < at table (ends c.mesh.now e).0) ⊎ (i < at table (ends c.mesh.now e).1))
