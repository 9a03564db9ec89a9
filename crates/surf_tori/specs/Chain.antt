-- Chains of tori.
use Rattle.std.specs.Prelude.{◌≡◌, ℕ, zero, suc, ◌+◌, ◌-◌, ◌*◌, ◌≤◌, pos, ◌-ℤ◌}
use Rattle.surf_surfaces.specs.Mesh.{Mesh, characteristic}
use Rattle.surf_surfaces.specs.Surface.{face_count, edge_count, IsSurface}
use Rattle.surf_tori.specs.Torus.{torus}
use Rattle.surf_tori.specs.ConnectedSum.{connected_sum}

-- the first face of the cell in the third row and the third column
abbrev pub joint : ℕ → ℕ
joint b = 2 * (2 * b + 2)

-- that face of a chain's last torus: it stands as far from the end as in its torus
abbrev pub last_joint : Mesh → ℕ → ℕ → ℕ
last_joint mesh a b = face_count mesh - (2 * (a * b) - joint b)

-- A torus to which k more are joined, each to the one before. The first face of its cell in the first row and the
-- first column is left out, and of the one before that of the cell in the third row and the third column.
abbrev pub longer_chain : ℕ → ℕ → ℕ → Mesh
longer_chain zero a b = torus a b
longer_chain (suc k) a b =
    connected_sum (longer_chain k a b) (last_joint (longer_chain k a b) a b) (torus a b) 0

-- the chain of g tori of a rows and b columns
abbrev pub chain : ℕ → ℕ → ℕ → Mesh
chain g a b = longer_chain (g - 1) a b

-- A chain of at least one torus of at least 4 by 4 squares is a surface.
abbrev pub ChainsAreSurfaces : Type 0
ChainsAreSurfaces = (g a b : ℕ) → 1 ≤ g → 4 ≤ a → 4 ≤ b → IsSurface (chain g a b)

-- The χ of a chain of g tori is 2 − 2g.
abbrev pub ChainsHaveCharacteristic : Type 0
ChainsHaveCharacteristic =
    (g a b : ℕ) → 1 ≤ g → 4 ≤ a → 4 ≤ b → characteristic (chain g a b) ≡ pos 2 -ℤ pos (2 * g)

-- A chain of g tori of a by b has g · ab − 3(g − 1) vertices and 2g · ab − 2(g − 1) faces, and
-- three halves as many edges as faces.
pub record ChainCounts (g a b : ℕ) : Type 0 where
  pub vertices : (chain g a b).vertices ≡ g * (a * b) - 3 * (g - 1)
  pub faces : face_count (chain g a b) ≡ 2 * (g * (a * b)) - 2 * (g - 1)
  pub edges : 2 * edge_count (chain g a b) ≡ 3 * face_count (chain g a b)
