-- Pairs with the lesser number first.
use Rattle.surf_surfaces.proofs.Common.{◌≡◌, ℕ, ◌<◌, ltb, true, refl, lt-ltb, Mesh, pair, edge_count, ends, edge_number}
use Rattle.surf_class.proofs.StepEdges.{numbered}

-- such a pair is its own unordered pair
pub pair_ordered : (p : ℕ × ℕ) → p.0 < p.1 → pair p.0 p.1 ≡ p
pair_ordered p l = let less : ltb p.0 p.1 ≡ true = lt-ltb p.0 p.1 l in rw less refl

pub pair_number : (mesh : Mesh) (p : ℕ × ℕ) (e : ℕ) → p.0 < p.1 → e < edge_count mesh → ends mesh e ≡ pair p.0 p.1 →
    e ≡ edge_number mesh p
pair_number mesh p e l below is = numbered mesh p e below is
