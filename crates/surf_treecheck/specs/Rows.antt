-- The conditions on the rows of a certificate, each by its number.
use Rattle.std.specs.Prelude.{ℕ, List}
use Rattle.surf_surfaces.specs.Mesh.{Mesh}
use Rattle.surf_validity.specs.Rows.{TreeRows, DualRows}
use Rattle.surf_validity.specs.Valid.{parent_at, side_at, IsParent, AddsUp, IsDualRow}

-- a vertex has the parent that it should: none at the base, and else a neighbour
abbrev pub HasParent : Mesh → TreeRows → ℕ → Type 0
HasParent mesh rows v = IsParent mesh rows.base v (parent_at rows v)

-- the distance of a vertex is that by its parent
abbrev pub HasDistance : Mesh → List ℕ → TreeRows → ℕ → Type 0
HasDistance mesh lengths rows v = AddsUp mesh lengths rows v (parent_at rows v)

-- the row of a face says how it hangs in a tree of faces
abbrev pub HasDual : Mesh → DualRows → ℕ → Type 0
HasDual mesh dual f = IsDualRow mesh dual f (side_at dual f)
