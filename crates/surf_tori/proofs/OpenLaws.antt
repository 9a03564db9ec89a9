-- Surfaces of which one triangle can be left out.
use Rattle.surf_surfaces.proofs.Common.{◌≡◌, ◌≢◌, ℕ, ◌<◌, true, List, [], ◌∷◌, ◌⊎◌, get_or, sym, ap, inl, inr, subst, list_any, cases_eq, Joined, here, over, Mesh, sides, pair, pair_of, pair_eq, face_count, face_at, has_side, runs, HasCorner, Share, IsConnected}
use Rattle.surf_surfaces.proofs.meshes.EdgeLaws.{list_any_at, list_any_from}
use Rattle.surf_surfaces.proofs.meshes.JoinedLaws.{joined_trans, joined_sym, joined_lift, joined_closed}
use Rattle.surf_surfaces.proofs.meshes.PairLaws.{pair_eq-true, pair_eq-self}
use Rattle.surf_tori.specs.Coherent.{Runs, IsCoherent}
use Rattle.surf_tori.proofs.LinkLaws.{KeptShareAt, KeptShare, HasKeptFans, kept_share_turned}
use Rattle.surf_tori.proofs.RenamedLaws.{run_corners, run_below, edge_corner, run_face, across}
use Rattle.surf_tori.proofs.TriangleLaws.{run_of, runs_first}
use Rattle.surf_surfaces.proofs.meshes.FaceLaws.{pair_comm}

-- what stays joined where the triangle f is left out
pub record Losing (mesh : Mesh) (f b0 b1 b2 : ℕ) : Type 0 where
  pub coherent : IsCoherent mesh
  pub triangle : face_at mesh f ≡ b0 ∷ b1 ∷ b2 ∷ []
  pub no_isolated : (v : ℕ) → v < mesh.vertices → (g : ℕ) × HasCorner mesh g v
  pub fans : HasKeptFans mesh (λ g. g ≢ f)
  pub connected : IsConnected mesh

-- an edge of a face is one of its runs
pub edge_run : (p : ℕ × ℕ) (face : List ℕ) → has_side p face ≡ true →
    (q : ℕ × ℕ) × (list_any (pair_eq q) (sides face) ≡ true) × (pair_of q ≡ p)
edge_run p face h =
    let r = list_any_at (λ s. pair_eq p (pair_of s)) (sides face) (0, 0) h in
    let q = get_or (sides face) r.0 (0, 0) in
    (q, list_any_from (pair_eq q) (sides face) (0, 0) r.0 r.1 (pair_eq-self q), sym (pair_eq-true p (pair_of q) r.2))

-- chains at a vertex are chains
pub share_of : (mesh : Mesh) (Kept : ℕ → Type 0) (v g k : ℕ) → KeptShareAt mesh Kept v g k → KeptShare mesh Kept g k
share_of mesh Kept v g k h = (h.0, h.1, (pair v h.2.0, h.2.1, h.2.2))

module _ {mesh : Mesh} {f b0 b1 b2 : ℕ} (can : Losing mesh f b0 b1 b2) where
  abbrev Chain : ℕ → ℕ → Type 0
  Chain = Joined (KeptShare mesh (λ g. g ≢ f))

  f_first : Runs mesh f (b0, b1)
  f_first = rw can.triangle (runs_first b0 b1 b2)

  hub : (g : ℕ) × (g ≢ f) × Runs mesh g (b1, b0)
  hub = across mesh can.coherent f b0 b1 f_first

  run_in : (g : ℕ) (p : ℕ × ℕ) → Runs mesh g p → (p.0 < mesh.vertices) × (p.1 < mesh.vertices) × (p.0 ≢ p.1)
  run_in g p r = run_below mesh.vertices p (face_at mesh g) (can.coherent.is_mesh g [] (run_face mesh g p r)) r

  -- another face at one of the first two corners of f is joined with the hub
  at_hub : (y v : ℕ) → y ≢ f → HasCorner mesh y v → (v ≡ b0) ⊎ (v ≡ b1) → Chain y hub.0
  at_hub y v other c o =
      let ends = run_corners (b1, b0) (face_at mesh hub.0) hub.2 in
      let in' = run_face mesh hub.0 (b1, b0) hub.2 in
      let below = run_in f (b0, b1) f_first in
      elim o [
        | inl e ↦ joined_lift (λ g k s. over (share_of mesh (λ t. t ≢ f) b0 g k s) here)
            (can.fans b0 below.0 y hub.0 other hub.1 (subst (HasCorner mesh y) e c) (in', ends.1))
        | inr e ↦ joined_lift (λ g k s. over (share_of mesh (λ t. t ≢ f) b1 g k s) here)
            (can.fans b1 below.1 y hub.0 other hub.1 (subst (HasCorner mesh y) e c) (in', ends.0))
      ]

  -- another face with an edge of f is joined with the hub
  near : (y : ℕ) → y ≢ f → Share mesh f y → Chain y hub.0
  near y other s =
      let q = edge_run s.0 (face_at mesh f) s.1.1 in
      let has : has_side (pair q.0.0 q.0.1) (face_at mesh y) ≡ true =
      subst (λ p. has_side p (face_at mesh y) ≡ true) (sym q.2) s.2.1 in
      let first = edge_corner q.0.0 q.0.1 (face_at mesh y) has in
      let second = edge_corner q.0.1 q.0.0 (face_at mesh y)
      (subst (λ p. has_side p (face_at mesh y) ≡ true) (pair_comm q.0.0 q.0.1) has) in
      elim (run_of b0 b1 b2 q.0 (subst (λ face. runs q.0 face ≡ true) can.triangle q.1)) [
        | inl e ↦ at_hub y q.0.0 other (s.2.0, first) (inl (ap (λ (t : ℕ × ℕ). t.0) e))
        | inr o ↦ elim o [
          | inl e ↦ at_hub y q.0.0 other (s.2.0, first) (inr (ap (λ (t : ℕ × ℕ). t.0) e))
          | inr e ↦ at_hub y q.0.1 other (s.2.0, second) (inl (ap (λ (t : ℕ × ℕ). t.1) e))
        ]
      ]

  -- where a chain from x has come: at another face, or at f, and then the hub is joined with x
  record Reached (x y : ℕ) : Type 0 where
    elsewhere : y ≢ f → Chain x y
    there : y ≡ f → Chain x hub.0

  one_more : (x y z : ℕ) → Share mesh y z → Reached x y → Reached x z
  one_more x y z s r = elim (cases_eq y f) [
    | inl at ↦ record {
      elsewhere = λ other.
          joined_trans (r.there at) (joined_sym (kept_share_turned mesh (λ g. g ≢ f))
          (near z other (subst (λ g. Share mesh g z) at s)));
      there = λ e. r.there at;
    }
    | inr other ↦ record {
      elsewhere = λ next. joined_trans (r.elsewhere other) (over (other, next, s) here);
      there = λ e.
          joined_trans (r.elsewhere other) (near y other (subst (λ g. Share mesh g y) e (s.0, s.2, s.1)));
    }
  ]

  -- the other faces are joined without f
  pub others_joined : (x y : ℕ) → x < face_count mesh → y < face_count mesh → x ≢ f → y ≢ f →
      Joined (KeptShare mesh (λ g. g ≢ f)) x y
  others_joined x y x_in y_in x_other y_other =
      let start : Reached x x = record { elsewhere = λ o. here; there = λ e. absurd (x_other e) } in
      (joined_closed (Reached x) (one_more x) (can.connected x y x_in y_in) start).elsewhere y_other
