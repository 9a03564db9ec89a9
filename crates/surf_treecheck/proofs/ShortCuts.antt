-- Trees of all bases without short cuts.
use Rattle.surf_treecheck.proofs.Common.{ℕ, List, Mesh, edge_count, BasisCert, HoldsBelow, IsNoShortCutAt}

-- no edge is a short cut in the tree at a base
abbrev pub HasNoShortCut : Mesh → List ℕ → BasisCert → ℕ → Type 0
HasNoShortCut mesh lengths cert x = HoldsBelow (edge_count mesh) (IsNoShortCutAt mesh lengths cert x)
