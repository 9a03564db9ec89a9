-- Lengths are positive.
use Rattle.surf_surfaces.proofs.Common.{◌≡◌, ℕ, List, length, arith, Mesh, edge_count, ArePositive}
use Rattle.surf_lengths.specs.Lengths.{AreLengths}

pub lengths_positive : (mesh : Mesh) (lengths : List ℕ) → AreLengths lengths → length lengths ≡ edge_count mesh →
    ArePositive mesh lengths
lengths_positive mesh lengths are count e l = (are e 0 (omega (arith, count, l))).positive
