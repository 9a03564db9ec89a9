-- The lengths of loops are numbers of 64 bits.
use Rattle.surf_surfaces.proofs.Common.{ℕ, ◌≡◌, ◌<◌, ◌≤◌, ◌^◌, inl, inr, arith, List, length, slice_index, cases_lt, get_or_past, Mesh, ends, loop_length}
use Rattle.surf_lengths.specs.Lengths.{longest, AreLengths}
use Rattle.surf_tree.specs.Tables.{TreeTables, AreTreeTables, tree_of}
use Rattle.surf_cotree.specs.Searches.{heaviest}

-- a table has nothing past its end
distance_fits : (distances : List ℕ) (n : ℕ) → length distances ≡ n → ((v : ℕ) → v < n → slice_index distances v < 2 ^ 62) → (v : ℕ) → slice_index distances v < 2 ^ 62
distance_fits distances n long fits v = elim (cases_lt v n) [
  | inl l ↦ fits v l
  | inr past ↦ let none : slice_index distances v ≡ 0 = get_or_past distances v 0 (omega arith) in omega arith
]

length_fits : (lengths : List ℕ) → AreLengths lengths → (e : ℕ) → slice_index lengths e ≤ longest
length_fits lengths are e = elim (cases_lt e (length lengths)) [
  | inl l ↦ (are e 0 l).fits
  | inr past ↦ let none : slice_index lengths e ≡ 0 = get_or_past lengths e 0 past in omega arith
]

pub loop_fits : (mesh : Mesh) (lengths : List ℕ) (t : TreeTables) → AreTreeTables mesh t → AreLengths lengths → ((v : ℕ) → v < mesh.vertices → slice_index t.distances v < 2 ^ 62) →
    (e : ℕ) → loop_length mesh lengths (tree_of t) e ≤ heaviest
loop_fits mesh lengths t made are fits e =
    let u = distance_fits t.distances mesh.vertices made.distances fits (ends mesh e).0 in
    let v = distance_fits t.distances mesh.vertices made.distances fits (ends mesh e).1 in
    let own = length_fits lengths are e in
    omega (arith, u, v, own)
