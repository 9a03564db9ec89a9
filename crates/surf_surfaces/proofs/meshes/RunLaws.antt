-- Which way a face runs its sides.
use Rattle.surf_surfaces.proofs.Common.{◌≡◌, ◌≢◌, ℕ, true, List, ◌⊎◌, get_or, sym, ap, ◌∙◌, inl, inr, cases_order, IsFace, sides, pair, pair_of, pair_eq, has_side, runs}
use Rattle.surf_surfaces.proofs.meshes.PairLaws.{pair_eq-true, pair_eq-same, pair_same}
use Rattle.surf_surfaces.proofs.meshes.EdgeLaws.{list_any_at, list_any_from}
use Rattle.surf_surfaces.proofs.meshes.FaceLaws.{pair_comm}
use Rattle.surf_surfaces.proofs.LawProofs.{sides_differ}
use Rattle.surf_surfaces.proofs.meshes.SideLaws.{pair_ends}

-- a run of a face is a side of it
pub runs_side : (p : ℕ × ℕ) (face : List ℕ) → runs p face ≡ true → has_side (pair_of p) face ≡ true
runs_side p face h =
    let r = list_any_at (pair_eq p) (sides face) (0, 0) h in
    list_any_from (λ s. pair_eq (pair_of p) (pair_of s)) (sides face) (0, 0) r.0 r.1
    (pair_eq-same (pair_of p) (pair_of (get_or (sides face) r.0 (0, 0)))
    (ap pair_of (pair_eq-true p (get_or (sides face) r.0 (0, 0)) r.2)))

-- a face does not run an edge in both directions
pub one_way : (n : ℕ) (face : List ℕ) → IsFace n face → (u v : ℕ) → u ≢ v → runs (u, v) face ≡ true →
    runs (v, u) face ≡ true → ⊥
one_way n face h u v apart a b =
    let i = list_any_at (pair_eq (u, v)) (sides face) (0, 0) a in
    let j = list_any_at (pair_eq (v, u)) (sides face) (0, 0) b in
    let first : (u, v) ≡ get_or (sides face) i.0 (0, 0) = pair_eq-true (u, v) (get_or (sides face) i.0 (0, 0)) i.2 in
    let second : (v, u) ≡ get_or (sides face) j.0 (0, 0) = pair_eq-true (v, u) (get_or (sides face) j.0 (0, 0)) j.2 in
    let same : pair_of (get_or (sides face) i.0 (0, 0)) ≡ pair_of (get_or (sides face) j.0 (0, 0)) =
    sym (ap pair_of first) ∙ pair_comm u v ∙ ap pair_of second in
    elim (cases_order i.0 j.0) [
      | inl is ↦
          let turned : (u, v) ≡ (v, u) = first ∙ ap (λ k. get_or (sides face) k (0, 0)) is ∙ sym second in
          apart (ap (λ (q : ℕ × ℕ). q.0) turned)
      | inr o ↦ elim o [
        | inl lt ↦ sides_differ n face h i.0 j.0 (0, 0) lt j.1 same
        | inr gt ↦ sides_differ n face h j.0 i.0 (0, 0) gt i.1 (sym same)
      ]
    ]

-- a side is run in one direction or the other
pub some_way : (u v : ℕ) (face : List ℕ) → has_side (pair u v) face ≡ true →
    (runs (u, v) face ≡ true) ⊎ (runs (v, u) face ≡ true)
some_way u v face h =
    let r = list_any_at (λ s. pair_eq (pair u v) (pair_of s)) (sides face) (0, 0) h in
    let s = get_or (sides face) r.0 (0, 0) in
    let is : pair u v ≡ pair s.0 s.1 = pair_eq-true (pair u v) (pair_of s) r.2 in
    elim (pair_ends u v s.0 s.1 is) [
      | inl e ↦ inl
          (list_any_from (pair_eq (u, v)) (sides face) (0, 0) r.0 r.1
          (pair_eq-same (u, v) s (pair_same (u, v) s e.0 e.1)))
      | inr e ↦ inr
          (list_any_from (pair_eq (v, u)) (sides face) (0, 0) r.0 r.1
          (pair_eq-same (v, u) s (pair_same (v, u) s e.1 e.0)))
    ]
