-- The faces at a vertex are one fan, or the vertex is pinched.
use Rattle.surf_surfaces.proofs.Common.{◌<◌, ◌⊎◌, ℕ, arith, inl, inr, Joined, Mesh, IsMesh, face_count, HasCorner, Share, ShareAt, HasOneFan, IsConnected}
use Rattle.surf_z2.proofs.Sought.{least_such}
use Rattle.surf_surfaces.proofs.meshes.JoinedLaws.{joined_trans, joined_sym}
use Rattle.surf_soup.specs.Apart.{IsLeastApart}
use Rattle.surf_soup.specs.Ring.{IsPinch, IsLeastPinch}
use Rattle.surf_soup.specs.Vertices.{AllMet, IsLeastIsolated}
use Rattle.surf_decided.proofs.Deciding.{Decided, undenied, implied, all_or_first, some_below}
use Rattle.surf_decided.proofs.Reaching.{joined_decided}
use Rattle.surf_decided.proofs.Sharing.{corner_decided, share_inside, share_decided, share_at_inside, share_at_decided, share_at_sym, share_sym}

module _ (mesh : Mesh) where
  -- ---- vertices in no face

  met_decided : (v : ℕ) → Decided ((f : ℕ) × HasCorner mesh f v)
  met_decided v = elim (some_below (face_count mesh) (λ f. HasCorner mesh f v) (λ f _. corner_decided mesh f v)) [
    | inl some ↦ inl (some.0, some.2)
    | inr none ↦ inr (λ some. none (some.0, some.1.0, some.1))
  ]

  pub met_or_isolated : AllMet mesh ⊎ ((v : ℕ) × IsLeastIsolated mesh v)
  met_or_isolated =
      elim (all_or_first mesh.vertices (λ v. (f : ℕ) × HasCorner mesh f v) (λ v _. met_decided v)) [
        | inl all ↦ inl all
        | inr first ↦ inr (
          first.0,
          record {
            is_vertex = first.1.below;
            no_face = λ f has. first.1.fails (f, has);
            met_before = first.1.before;
          },
        )
      ]

  -- ---- faces apart

  pub connected_or_apart : IsConnected mesh ⊎ ((f : ℕ) × IsLeastApart mesh f)
  connected_or_apart =
      let n : ℕ = face_count mesh in
      elim (all_or_first n (Joined (Share mesh) 0)
      (λ f l. joined_decided n (Share mesh) (share_inside mesh) (share_decided mesh) 0 f)) [
        | inl all ↦ inl (λ f g in_f in_g. joined_trans (joined_sym (share_sym mesh) (all f in_f)) (all g in_g))
        | inr first ↦ inr (
          first.0,
          record {
            is_face = first.1.below;
            apart = first.1.fails;
            joined_before = first.1.before;
          },
        )
      ]

  -- ---- fans

  module _ (is_mesh : IsMesh mesh) where
    at_decided : (v f g : ℕ) → Decided (Joined (ShareAt mesh v) f g)
    at_decided v f g =
        joined_decided (face_count mesh) (ShareAt mesh v) (share_at_inside mesh v) (share_at_decided mesh is_mesh v) f g

    pub fan_or_pinch : (v : ℕ) → HasOneFan mesh v ⊎ ((f : ℕ) × ((g : ℕ) × IsPinch mesh v f g))
    fan_or_pinch v =
        elim (least_such (face_count mesh) (λ f. HasCorner mesh f v) (λ f _. corner_decided mesh f v)) [
          | inl first ↦
              let f : ℕ = first.at in
              elim (all_or_first (face_count mesh) (λ g. HasCorner mesh g v → Joined (ShareAt mesh v) f g)
              (λ g _. implied (corner_decided mesh g v) (at_decided v f g))) [
                | inl all ↦ inl (λ g h has_g has_h.
                    joined_trans (joined_sym (share_at_sym mesh v) (all g has_g.0 has_g)) (all h has_h.0 has_h))
                | inr other ↦
                    let fails = other.1.fails in
                    inr (
                      f,
                      (
                        other.0,
                        record {
                          first = first.holds;
                          none_less = λ h less has. let late = first.least h has.0 has in absurd (omega (arith, less, late));
                          second = undenied (corner_decided mesh other.0 v) (λ deny. fails (λ has. absurd (deny has)));
                          apart = λ joined. fails (λ _. joined);
                          joined_before = other.1.before;
                        },
                      ),
                    )
              ]
          | inr none ↦ inl (λ f g has_f has_g. absurd (none f has_f.0 has_f))
        ]

    fan_decided : (v : ℕ) → Decided (HasOneFan mesh v)
    fan_decided v = elim (fan_or_pinch v) [
      | inl fan ↦ inl fan
      | inr pinch ↦ inr (λ fan. let is = pinch.1.1 in is.apart (fan pinch.0 pinch.1.0 is.first is.second))
    ]

    pub fans_or_pinch : ((v : ℕ) → v < mesh.vertices → HasOneFan mesh v)
        ⊎ ((v : ℕ) × ((f : ℕ) × ((g : ℕ) × IsLeastPinch mesh v f g)))
    fans_or_pinch = elim (all_or_first mesh.vertices (HasOneFan mesh) (λ v _. fan_decided v)) [
      | inl all ↦ inl all
      | inr first ↦ elim (fan_or_pinch first.0) [
        | inl fan ↦ absurd (first.1.fails fan)
        | inr pinch ↦ inr (
          first.0,
          (
            pinch.0,
            (
              pinch.1.0,
              record {
                is_vertex = first.1.below;
                pinch = pinch.1.1;
                none_before = first.1.before;
              },
            ),
          ),
        )
      ]
    ]
