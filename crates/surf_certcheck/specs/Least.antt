-- The least short edge of a set.
use Rattle.std.specs.Prelude.{◌≡◌, ℕ, ◌<◌, ◌≤◌, Bool, true, List, Option, Some, None, MatchOption}
use Rattle.std.specs.Prelude.{if◌then◌else◌, nat_lt, ◌⊎◌}
use Rattle.surf_surfaces.specs.Mesh.{Mesh}
use Rattle.surf_surfaces.specs.Surface.{edge_count}
use Rattle.surf_validity.specs.Rows.{TreeRows}
use Rattle.surf_validity.specs.Valid.{loop_size}

-- an edge whose loop is shorter than the limit
pub record IsShort (mesh : Mesh) (lengths : List ℕ) (rows : TreeRows) (limit c : ℕ) : Type 0 where
  pub inside : c < edge_count mesh
  pub shorter : loop_size mesh lengths rows c < limit

-- of the edges of a set none is short, or the least short one is this
abbrev pub IsLeastIn : (ℕ → Type 0) → (ℕ → Bool) → Option ℕ → Type 0
IsLeastIn short set o = MatchOption o ((c : ℕ) → set c ≡ true → short c → ⊥)
    (λ b. (set b ≡ true) × short b × ((c : ℕ) → set c ≡ true → short c → b ≤ c))

-- the lesser of a number and another one that may be missing
abbrev pub least_with : ℕ → Option ℕ → ℕ
least_with e None = e
least_with e (Some b) = if nat_lt b e then b else e

-- the least so far, with one more number, which counts where it is short
abbrev pub IsLeastWith : (ℕ → Type 0) → ℕ → Option ℕ → Option ℕ → Type 0
IsLeastWith short e before after =
    (short e × (after ≡ Some (least_with e before))) ⊎ ((short e → ⊥) × (after ≡ before))
