-- The edge between two vertices, by their numbers.
use Rattle.surf_surfaces.proofs.Common.{◌≡◌, ℕ, ◌<◌, ◌≤◌, ◌⊎◌, true, false, Some, None, Option, MatchOption, IfSome, refl, sym, ap, ◌∙◌, arith, inl, inr, cases_lt, lt-ltb, le-ltb, false_from_ne_true, Mesh, IsMesh, pair, among, edges, edge_count, ends, edge_number, place_of, pair_eq}
use Rattle.surf_surfaces.proofs.meshes.SurfaceLaws.{edge_below}
use Rattle.surf_surfaces.proofs.meshes.EdgeLaws.{place_of-ends, list_any_from}
use Rattle.surf_surfaces.proofs.meshes.PairLaws.{pair_eq-same}
use Rattle.surf_lengths.specs.Lines.{edge_named}

-- a number that is no vertex is no end of an edge
pub far_ends : (mesh : Mesh) → IsMesh mesh → (u v : ℕ) → (mesh.vertices ≤ u) ⊎ (mesh.vertices ≤ v) → edge_named mesh u v ≡ None
far_ends mesh is_mesh u v past =
    let out : among (pair u v) (edges mesh) ≡ false = false_from_ne_true (among (pair u v) (edges mesh)) (λ has.
    let below = edge_below mesh is_mesh (pair u v) has in
    elim (cases_lt u v) [
      | inl l ↦ let b = rw (lt-ltb u v l) at below in elim past [ inl p ↦ omega (arith, b.0, b.1) | inr p ↦ omega (arith, b.0, b.1) ]
      | inr ge ↦ let b = rw (le-ltb u v ge) at below in elim past [ inl p ↦ omega (arith, b.0, b.1) | inr p ↦ omega (arith, b.0, b.1) ]
    ])
    in
    rw out refl

pub no_edge : (mesh : Mesh) (u v : ℕ) → among (pair u v) (edges mesh) ≡ false → edge_named mesh u v ≡ None
no_edge mesh u v out = rw out refl

pub an_edge : (mesh : Mesh) (u v e : ℕ) → e < edge_count mesh → ends mesh e ≡ pair u v → edge_named mesh u v ≡ Some e
an_edge mesh u v e l is =
    let has : among (pair u v) (edges mesh) ≡ true = list_any_from (pair_eq (pair u v)) (edges mesh) (0, 0) e l (pair_eq-same (pair u v) (ends mesh e) (sym is)) in
    let number : edge_number mesh (u, v) ≡ e = sym (ap (λ p. place_of p (edges mesh)) is) ∙ place_of-ends mesh e l in
    rw has (ap Some number)

pub edge_found : (mesh : Mesh) (u v : ℕ) (found : Option ℕ) → MatchOption found (among (pair u v) (edges mesh) ≡ false) (λ e. (e < edge_count mesh) × (ends mesh e ≡ pair u v)) → found ≡ edge_named mesh u v
edge_found mesh u v None out = sym (no_edge mesh u v out)
edge_found mesh u v (Some e) is = sym (an_edge mesh u v e is.0 is.1)

pub edge_inside : (mesh : Mesh) (u v : ℕ) (found : Option ℕ) → MatchOption found (among (pair u v) (edges mesh) ≡ false) (λ e. (e < edge_count mesh) × (ends mesh e ≡ pair u v)) → IfSome found (λ e. e < edge_count mesh)
edge_inside mesh u v None out = tt
edge_inside mesh u v (Some e) is = is.0
