-- Faces that share edges, and corners of faces, are decided.
use Rattle.surf_surfaces.proofs.Common.{◌≡◌, ◌<◌, ◌⊎◌, ℕ, Bool, true, List, get_or, length, refl, sym, ap, ◌∙◌, subst, arith, inl, inr, cases_Bool, cases_lt, eqb-true, eq-eqb, ◌==◌, false≢true, Contains, All-contains, Mesh, IsMesh, pair, pair_of, pair_eq, sides, edges, edge_count, face_count, face_at, has_side, HasCorner, HasEdge, Share, ShareAt, ends}
use Rattle.std.specs.List.{list_any}
use Rattle.surf_surfaces.specs.Disc.{IsBorderEdge, ShareEnd, ShareOnBorder}
use Rattle.surf_surfaces.specs.Surface.{faces_with}
use Rattle.surf_surfaces.proofs.LawProofs.{edges_are_sides, edges_are_ordered}
use Rattle.surf_surfaces.proofs.meshes.EdgeLaws.{list_any_at, list_any_from}
use Rattle.surf_surfaces.proofs.meshes.PairLaws.{pair_eq-true, pair_eq-self}
use Rattle.surf_decided.proofs.Deciding.{Decided, when_same, when_less, when_true, both, one_of, as_well, some_below}

-- whether a number is in a list
pub contains_decided : (xs : List ℕ) (v : ℕ) → Decided (Contains xs v)
contains_decided xs v = elim (cases_Bool (list_any (λ u. v == u) xs)) [
  | inl on ↦ inl (let at = list_any_at (λ u. v == u) xs v on in (at.0, at.1, sym (eqb-true v (get_or xs at.0 v) at.2)))
  | inr out ↦ inr (λ c. false≢true (sym out
      ∙ list_any_from (λ u. v == u) xs v c.0 c.1 (eq-eqb v (get_or xs c.0 v) (sym c.2))))
]

module _ (mesh : Mesh) where
  pub corner_decided : (f v : ℕ) → Decided (HasCorner mesh f v)
  corner_decided f v = both (when_less f (face_count mesh)) (contains_decided (face_at mesh f) v)

  edge_decided : (f : ℕ) (p : ℕ × ℕ) → Decided (HasEdge mesh f p)
  edge_decided f p = both (when_less f (face_count mesh)) (when_true (has_side p (face_at mesh f)))

  -- ---- an edge of two faces

  abbrev shares : ℕ → ℕ → Bool
  shares f g = list_any (λ s. has_side (pair_of s) (face_at mesh g)) (sides (face_at mesh f))

  pub share_inside : (f g : ℕ) → Share mesh f g → (f < face_count mesh) × (g < face_count mesh)
  share_inside f g s = (s.1.0, s.2.0)

  pub share_decided : (f g : ℕ) → f < face_count mesh → g < face_count mesh → Decided (Share mesh f g)
  share_decided f g in_f in_g = elim (cases_Bool (shares f g)) [
    | inl on ↦ inl (
        let at = list_any_at (λ s. has_side (pair_of s) (face_at mesh g)) (sides (face_at mesh f)) (0, 0) on in
        let s : ℕ × ℕ = get_or (sides (face_at mesh f)) at.0 (0, 0) in (
          pair_of s,
          (
            in_f,
            list_any_from (λ t. pair_eq (pair_of s) (pair_of t)) (sides (face_at mesh f)) (0, 0) at.0 at.1
                (pair_eq-self (pair_of s)),
          ),
          (in_g, at.2),
        ))
    | inr out ↦ inr (λ s. false≢true (sym out ∙ shared f g s))
  ]
    where
      shared : (f g : ℕ) → Share mesh f g → shares f g ≡ true
      shared f g s =
          let at = list_any_at (λ t. pair_eq s.0 (pair_of t)) (sides (face_at mesh f)) (0, 0) s.1.1 in
          let t : ℕ × ℕ = get_or (sides (face_at mesh f)) at.0 (0, 0) in
          list_any_from (λ u. has_side (pair_of u) (face_at mesh g)) (sides (face_at mesh f)) (0, 0) at.0 at.1
          (ap (λ p. has_side p (face_at mesh g)) (sym (pair_eq-true s.0 (pair_of t) at.2)) ∙ s.2.1)

  -- ---- an edge at a vertex

  pub share_at_inside : (v f g : ℕ) → ShareAt mesh v f g → (f < face_count mesh) × (g < face_count mesh)
  share_at_inside v f g s = (s.1.0, s.2.0)

  pub share_at_sym : (v f g : ℕ) → ShareAt mesh v f g → ShareAt mesh v g f
  share_at_sym v f g s = (s.0, s.2, s.1)

  pub share_sym : (f g : ℕ) → Share mesh f g → Share mesh g f
  share_sym f g s = (s.0, s.2, s.1)

  -- the other end of an edge is a vertex
  other_end : IsMesh mesh → (v w f : ℕ) → HasEdge mesh f (pair v w) → w < mesh.vertices
  other_end is_mesh v w f has =
      let below = All-contains (λ (p : ℕ × ℕ). (p.0 < p.1) × (p.1 < mesh.vertices)) (edges mesh) (pair v w)
      (edges_are_ordered mesh is_mesh) ((edges_are_sides mesh (pair v w)).1 (f, has)) in
      at v w below
    where
      at : (v w : ℕ) → ((pair v w).0 < (pair v w).1) × ((pair v w).1 < mesh.vertices) → w < mesh.vertices
      at v w below = elim (cases_lt v w) [
        | inl less ↦ grind (arith, below, less)
        | inr more ↦ grind (arith, below, more)
      ]

  pub share_at_decided : IsMesh mesh → (v f g : ℕ) → f < face_count mesh → g < face_count mesh →
      Decided (ShareAt mesh v f g)
  share_at_decided is_mesh v f g in_f in_g =
      as_well (λ s. (s.0, s.2.0, s.2.1)) (λ s. (s.0, other_end is_mesh v s.0 f s.1, (s.1, s.2)))
      (some_below mesh.vertices (λ w. HasEdge mesh f (pair v w) × HasEdge mesh g (pair v w))
      (λ w _. both (edge_decided f (pair v w)) (edge_decided g (pair v w))))

  -- ---- border edges

  pub border_decided : (e : ℕ) → Decided (IsBorderEdge mesh e)
  border_decided e = both (when_less e (edge_count mesh)) (when_same (length (faces_with mesh (ends mesh e))) 1)

  is_end : (v h : ℕ) → Decided ((v ≡ (ends mesh h).0) ⊎ (v ≡ (ends mesh h).1))
  is_end v h = one_of (when_same v (ends mesh h).0) (when_same v (ends mesh h).1)

  pub share_end_decided : (e h : ℕ) → Decided (ShareEnd mesh e h)
  share_end_decided e h = elim (is_end (ends mesh e).0 h) [
    | inl first ↦ inl ((ends mesh e).0, inl refl, first)
    | inr deny ↦ elim (is_end (ends mesh e).1 h) [
      | inl second ↦ inl ((ends mesh e).1, inr refl, second)
      | inr out ↦ inr (λ s. neither s deny out)
    ]
  ]
    where
      End : ℕ → Type 0
      End v = (v ≡ (ends mesh h).0) ⊎ (v ≡ (ends mesh h).1)

      neither : ShareEnd mesh e h → (((ends mesh e).0 ≡ (ends mesh h).0) ⊎ ((ends mesh e).0 ≡ (ends mesh h).1) → ⊥) →
          (((ends mesh e).1 ≡ (ends mesh h).0) ⊎ ((ends mesh e).1 ≡ (ends mesh h).1) → ⊥) → ⊥
      neither (v, inl first, there) deny out = deny (subst (λ u. (u ≡ (ends mesh h).0) ⊎ (u ≡ (ends mesh h).1)) first there)
      neither (v, inr second, there) deny out = out (subst (λ u. (u ≡ (ends mesh h).0) ⊎ (u ≡ (ends mesh h).1)) second there)

  pub on_border_inside : (e h : ℕ) → ShareOnBorder mesh e h → (e < edge_count mesh) × (h < edge_count mesh)
  on_border_inside e h s = (s.0.0, s.1.0)

  pub on_border_decided : (e h : ℕ) → Decided (ShareOnBorder mesh e h)
  on_border_decided e h = as_well (λ s. (s.0, s.1.0, s.1.1)) (λ s. (s.0, (s.1, s.2)))
      (both (border_decided e) (both (border_decided h) (share_end_decided e h)))
