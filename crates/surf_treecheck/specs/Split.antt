-- Which pairs keep the trees and the list of left pairs from dividing the edges.
use Rattle.std.specs.List.{list_any}
use Rattle.std.specs.Prelude.{◌≡◌, ℕ, ◌<◌, ◌⊎◌, Bool, true, false, List, length, get_or, if◌then◌else◌, Option, Some}
use Rattle.std.specs.Prelude.{None, MatchOption}
use Rattle.surf_surfaces.specs.Mesh.{Mesh, pair_of, pair_eq, pair_lt, edges, among}
use Rattle.surf_surfaces.specs.Surface.{edge_count, ends}
use Rattle.surf_validity.specs.Rows.{TreeRows, DualRows}
use Rattle.surf_validity.specs.Valid.{is_parent_edge, is_dual_edge, is_listed, just_one}

-- the flags by edge number are those of a test
pub record AreFlags (n : ℕ) (test : ℕ → Bool) (flags : List Bool) : Type 0 where
  pub count : length flags ≡ n
  pub each : (e : ℕ) → e < n → get_or flags e false ≡ test e

-- whether an edge is flagged
abbrev pub is_flagged : List Bool → ℕ → Bool
is_flagged flags e = get_or flags e false

-- no edge
abbrev pub none : ℕ → Bool
none e = false

-- whether the pair, lesser end first, is listed in either order
abbrev pub is_named : List (ℕ × ℕ) → ℕ × ℕ → Bool
is_named left p = list_any (λ q. pair_eq p (pair_of q)) left

-- a listed pair that is no edge
abbrev pub IsStray : Mesh → List (ℕ × ℕ) → ℕ × ℕ → Type 0
IsStray mesh left p = (is_named left p ≡ true) × (among p (edges mesh) ≡ false)

-- the lesser of two pairs where the second may be missing
abbrev pub lesser_of : ℕ × ℕ → Option (ℕ × ℕ) → ℕ × ℕ
lesser_of p None = p
lesser_of p (Some q) = if pair_lt p q then p else q

-- the least so far, with one more pair, which counts where it is no edge
abbrev pub least_with : Mesh → Option (ℕ × ℕ) → ℕ × ℕ → Option (ℕ × ℕ)
least_with mesh least p = if among p (edges mesh) then least else Some (lesser_of p least)

-- no listed pair is a stray, or the least one is this
abbrev pub IsLeastStray : Mesh → List (ℕ × ℕ) → Option (ℕ × ℕ) → Type 0
IsLeastStray mesh left o =
    MatchOption o ((q : ℕ × ℕ) → IsStray mesh left q → ⊥)
    (λ p. IsStray mesh left p × ((q : ℕ × ℕ) → IsStray mesh left q → pair_lt q p ≡ false))

-- an edge is in just one of the tree of vertices, the tree of faces and the list
abbrev pub IsInOne : Mesh → TreeRows → DualRows → List (ℕ × ℕ) → ℕ → Type 0
IsInOne mesh rows dual left e =
    just_one (is_parent_edge mesh rows e) (is_dual_edge mesh dual e) (is_listed mesh left e) ≡ true

-- the flags are those of the two trees and the list
pub record AreMarks (mesh : Mesh) (rows : TreeRows) (dual : DualRows) (left : List (ℕ × ℕ))
    (in_tree in_dual in_left : List Bool) : Type 0 where
  pub of_tree : AreFlags (edge_count mesh) (is_parent_edge mesh rows) in_tree
  pub of_dual : AreFlags (edge_count mesh) (is_dual_edge mesh dual) in_dual
  pub of_left : AreFlags (edge_count mesh) (is_listed mesh left) in_left

-- just one of three flags of an edge is on
abbrev pub AreOne : List Bool → List Bool → List Bool → ℕ → Type 0
AreOne tree dual left e = just_one (get_or tree e false) (get_or dual e false) (get_or left e false) ≡ true

-- an edge that is not
abbrev pub IsUndivided : Mesh → TreeRows → DualRows → List (ℕ × ℕ) → ℕ × ℕ → Type 0
IsUndivided mesh rows dual left p =
    (e : ℕ) × (e < edge_count mesh) × (ends mesh e ≡ p) × (IsInOne mesh rows dual left e → ⊥)

-- a pair of either kind
abbrev pub IsBadPair : Mesh → TreeRows → DualRows → List (ℕ × ℕ) → ℕ × ℕ → Type 0
IsBadPair mesh rows dual left p = IsStray mesh left p ⊎ IsUndivided mesh rows dual left p

-- the least of them
pub record IsLeastBadPair (mesh : Mesh) (rows : TreeRows) (dual : DualRows) (left : List (ℕ × ℕ))
    (p : ℕ × ℕ) : Type 0 where
  pub bad : IsBadPair mesh rows dual left p
  pub least : (q : ℕ × ℕ) → IsBadPair mesh rows dual left q → pair_lt q p ≡ false
