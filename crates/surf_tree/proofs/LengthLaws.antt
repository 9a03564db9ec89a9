-- Lengths are no greater than the longest.
use Rattle.surf_surfaces.proofs.Common.{ℕ, ◌≤◌, List, length, arith, inl, inr, cases_lt, get_or_past, edge_length}
use Rattle.surf_lengths.specs.Lengths.{longest, AreLengths}

pub short_lengths : (lengths : List ℕ) → AreLengths lengths → (e : ℕ) → edge_length lengths e ≤ longest
short_lengths lengths are e = elim (cases_lt e (length lengths)) [
  | inl l ↦ (are e 0 l).fits
  | inr past ↦ let z = get_or_past lengths e 0 past in omega arith
]
