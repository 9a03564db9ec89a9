-- Coordinates of signatures in which each of some cycles has a place of its own.
use Rattle.std.specs.List.{range_with_len}
use Rattle.std.specs.Prelude.{◌≡◌, ℕ, ◌<◌, ◌≤◌, ◌^◌, true, List, length, map, take, slice_index, slice_index_or, All}
use Rattle.std.specs.Prelude.{Contains, Option, Some, None}
use Rattle.surf_z2.specs.Space.{numbers, IsLinear, Weighed, SpannedUpToWeight}
use Rattle.surf_z2.specs.Sieve.{has}
use Rattle.surf_graphs.specs.Cells.{Split, IsSplit}
use Rattle.surf_surfaces.specs.Cells.{cells_of}
use Rattle.surf_surfaces.specs.Loop.{loop_walk}
use Rattle.surf_surfaces.specs.Mesh.{Mesh}
use Rattle.surf_surfaces.specs.Signature.{edge_signature, walk_signature}
use Rattle.surf_surfaces.specs.Surface.{edge_count}
use Rattle.surf_signatures.specs.Tables.{Signed}
use Rattle.surf_validity.specs.Bases.{tree_at, split_in, weighed_cycle}
use Rattle.surf_validity.specs.Rows.{TreeRows, BasisCert}
use Rattle.surf_validity.specs.Valid.{certified_tree, loop_size, is_listed, IsDualValid, HasDualRows}
use Rattle.surf_surfaces.specs.Cotree.{is_left}
use Rattle.surf_validity.specs.Valid.{dual_tree}

-- the signatures of all edges
abbrev pub edge_signatures : Mesh → Split → List ℕ
edge_signatures mesh d = map (edge_signature mesh d) (range_with_len 0 (edge_count mesh))

-- the signature of the loop of an edge through a tree, with the length of the loop
abbrev pub weighed_through : Mesh → List ℕ → Split → TreeRows → ℕ → Weighed ℕ
weighed_through mesh lengths d rows e = record {
  weight = loop_size mesh lengths rows e;
  vector = walk_signature mesh d (loop_walk mesh (certified_tree mesh rows) e);
}

-- the signature of that loop is a sum of those of cycles that are no longer
abbrev pub IsCoveredBy : Mesh → List ℕ → Split → List (Weighed ℕ) → TreeRows → ℕ → Type 0
IsCoveredBy mesh lengths d cycles rows e = SpannedUpToWeight numbers cycles (weighed_through mesh lengths d rows e)

-- a table has for each edge what a map that takes sums to sums makes of its signature
pub record AreTaken (mesh : Mesh) (d : Split) (to : ℕ → ℕ) (sets : List ℕ) : Type 0 where
  pub linear : IsLinear numbers numbers to
  pub each : (e : ℕ) → e < edge_count mesh → slice_index sets e ≡ to (edge_signature mesh d e)

-- the weight of the cycle that has a place, if one has it
abbrev pub weight_at : List (Option ℕ) → ℕ → Option ℕ
weight_at weights k = slice_index_or weights k None

-- a cycle has the place, and is no heavier than a limit
abbrev pub IsPlacedUpTo : ℕ → Option ℕ → Type 0
IsPlacedUpTo limit None = ⊥
IsPlacedUpTo limit (Some weight) = weight ≤ limit

-- the places of a set are those of cycles no heavier than a limit
abbrev pub ArePlacedUpTo : ℕ → List (Option ℕ) → ℕ → Type 0
ArePlacedUpTo limit weights set =
    (k : ℕ) → k < length weights → has set k ≡ true → IsPlacedUpTo limit (weight_at weights k)

-- a cycle is a place alone
pub record HasPlace (to : ℕ → ℕ) (weights : List (Option ℕ)) (x : Weighed ℕ) : Type 0 where
  pub place : ℕ
  pub alone : to x.vector ≡ 2 ^ place
  pub weight : weight_at weights place ≡ Some x.weight

-- one of the cycles is this place alone and has this weight
pub record IsOfCycle (to : ℕ → ℕ) (cycles : List (Weighed ℕ)) (k weight : ℕ) : Type 0 where
  pub cycle : Weighed ℕ
  pub listed : Contains cycles cycle
  pub alone : to cycle.vector ≡ 2 ^ k
  pub weight_is : cycle.weight ≡ weight

-- The table has coordinates of all edges in which each of the cycles is a place alone: a map of signatures that takes
-- sums to sums and that another one undoes.
pub record IsFrame (mesh : Mesh) (d : Split) (cycles : List (Weighed ℕ)) (signed : Signed)
    (weights : List (Option ℕ)) : Type 0 where
  pub to : ℕ → ℕ
  pub back : ℕ → ℕ
  pub taken : AreTaken mesh d to signed.sets
  pub back_linear : IsLinear numbers numbers back
  pub undone : (v : ℕ) → back (to v) ≡ v
  pub within : (v : ℕ) → v < 2 ^ length d.left → to v < 2 ^ length d.left
  pub places : length weights ≡ length d.left
  pub placed : All (HasPlace to weights) cycles
  pub of_cycles : (k weight : ℕ) → weight_at weights k ≡ Some weight → IsOfCycle to cycles k weight

-- the same for the first cycles of a certificate
abbrev pub IsFrameOf : Mesh → List ℕ → BasisCert → ℕ → Signed → List (Option ℕ) → Type 0
IsFrameOf mesh lengths cert k signed weights =
    IsFrame mesh (split_in mesh cert) (map (weighed_cycle mesh lengths cert) (take k cert.cycles)) signed weights

-- the trees of a certificate and the listed pairs divide the edges
pub record HasSplit (mesh : Mesh) (cert : BasisCert) : Type 0 where
  pub faces : HasDualRows mesh cert.dual
  pub dual : IsDualValid mesh cert.dual
  pub split : IsSplit (cells_of mesh) (split_in mesh cert)
  pub listed : (e : ℕ) → e < edge_count mesh →
      is_listed mesh cert.left e ≡ is_left mesh (certified_tree mesh (tree_at cert 0)) (dual_tree mesh cert.dual) e
