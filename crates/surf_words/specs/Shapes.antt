-- Meshes that are made from numbers.
use Rattle.std.specs.Prelude.{ℕ, ◌≤◌, ◌⊎◌, ◌≡◌, nat_le, ◌&&◌, if◌then◌else◌, Option, Some, None, option_and_then}
use Rattle.surf_surfaces.specs.Mesh.{Mesh}
use Rattle.surf_tori.specs.Chain.{chain}

-- a chain of tori, each of as many rows and columns of squares; one torus is a chain too
pub record Shape : Type 0 where
  pub tori : ℕ
  pub rows : ℕ
  pub columns : ℕ

-- a torus has at least 3 rows and 3 columns, and the tori of a longer chain have at least 4
pub record IsShape (s : Shape) : Type 0 where
  pub some : 1 ≤ s.tori
  pub rows : 3 ≤ s.rows
  pub columns : 3 ≤ s.columns
  pub longer : (s.tori ≡ 1) ⊎ ((4 ≤ s.rows) × (4 ≤ s.columns))

-- the mesh of a shape
abbrev pub mesh_of : Shape → Mesh
mesh_of s = chain s.tori s.rows s.columns

-- the chain of as many tori of as many rows and columns, from 1 torus and from a least number of rows and columns on
abbrev pub shape_from : ℕ → ℕ → ℕ → ℕ → Option Shape
shape_from least tori rows columns =
    if nat_le 1 tori && (nat_le least rows && nat_le least columns)
    then Some (record { tori = tori; rows = rows; columns = columns })
    else None

-- that of numbers that may be missing
abbrev pub shape_named : ℕ → Option ℕ → Option ℕ → Option ℕ → Option Shape
shape_named least tori rows columns =
    option_and_then (λ g. option_and_then (λ a. option_and_then (shape_from least g a) columns) rows) tori
