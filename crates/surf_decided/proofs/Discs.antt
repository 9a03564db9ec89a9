-- A mesh is a disc, or it has a first fault.
use Rattle.surf_surfaces.proofs.Common.{◌≢◌, ◌+◌, ◌≤◌, ◌⊎◌, ℕ, List, refl, subst, arith, inl, inr, Joined, Mesh, IsMesh, face_count, edge_count, ends, faces_with}
use Rattle.std.specs.Prelude.{take}
use Rattle.surf_z2.proofs.Sought.{least_such}
use Rattle.surf_surfaces.proofs.meshes.JoinedLaws.{joined_trans, joined_sym}
use Rattle.surf_surfaces.specs.Disc.{IsBorderEdge, ShareOnBorder, IsDisc}
use Rattle.surf_soup.specs.Pairs.{degree}
use Rattle.surf_disc.specs.Across.{NoneCrowded}
use Rattle.surf_disc.specs.Border.{IsLeastOnBorder, IsLeastOutside, HasOneBorder}
use Rattle.surf_disc.specs.Fault.{IsLeastCrowded, IsPatch}
use Rattle.surf_disc.specs.declared.faults.BorderKind.TheVariants.{Nothing, Two}
use Rattle.surf_disc.specs.declared.faults.DiscFault.{DiscFault}
use Rattle.surf_disc.specs.declared.faults.DiscFault.TheVariants.{Crowded, Isolated, Pinched, Apart, Border, Count, Memory}
use Rattle.surf_decided.proofs.Deciding.{implied, undenied, when_same, when_most, all_or_first}
use Rattle.surf_decided.proofs.Reaching.{joined_decided}
use Rattle.surf_decided.proofs.Sharing.{border_decided, on_border_inside, on_border_decided}
use Rattle.surf_decided.proofs.Fans.{met_or_isolated, connected_or_apart, fans_or_pinch}
use Rattle.surf_decided.specs.Told.{HasDiscFault}

-- the fault isn't want of memory
abbrev IsTold : DiscFault → Type 0
IsTold Memory = ⊥
IsTold fault = Unit {0}

told : (fault : DiscFault) → IsTold fault → fault ≢ Memory
told fault is = λ same. subst IsTold same is

module _ (mesh : Mesh) (is_mesh : IsMesh mesh) where
  crowded_or_not : NoneCrowded mesh ⊎ HasDiscFault mesh
  crowded_or_not =
      elim (all_or_first (edge_count mesh) (λ e. degree mesh e ≤ 2) (λ e _. when_most (degree mesh e) 2)) [
        | inl none ↦ inl none
        | inr crowd ↦
            let e : ℕ = crowd.0 in
            let p : ℕ × ℕ = ends mesh e in
            let faces : List ℕ = take 3 (faces_with mesh p) in
            let is : IsLeastCrowded mesh (p.0, p.1) faces e =
            record {
              is_edge = crowd.1.below;
              its_ends = refl;
              many = many_from (degree mesh e) crowd.1.fails;
              its_faces = refl;
              none_before = crowd.1.before;
            } in
            inr (Crowded p.0 p.1 faces, told (Crowded p.0 p.1 faces) tt, (e, is))
      ]
    where
      many_from : (n : ℕ) → (n ≤ 2 → ⊥) → 3 ≤ n
      many_from n fails = elim (when_most n 2) [
        | inl less ↦ absurd (fails less)
        | inr more ↦ undenied (when_most 3 n) (λ deny. more (two_at_most n deny))
      ]
        where
          two_at_most : (n : ℕ) → (3 ≤ n → ⊥) → n ≤ 2
          two_at_most n deny = elim (when_most 3 n) [
            | inl many ↦ absurd (deny many)
            | inr few ↦ omega (arith, few)
          ]

  -- each edge has one or two faces, each vertex one fan, and the faces are connected
  patch_or_fault : IsPatch mesh ⊎ HasDiscFault mesh
  patch_or_fault = elim crowded_or_not [
    | inr fault ↦ inr fault
    | inl none ↦ elim (met_or_isolated mesh) [
      | inr lone ↦ inr (Isolated lone.0, told (Isolated lone.0) tt, (none, lone.1))
      | inl met ↦ elim (fans_or_pinch mesh is_mesh) [
        | inr pinch ↦ inr (
          Pinched pinch.0 pinch.1.0 pinch.1.1.0,
          told (Pinched pinch.0 pinch.1.0 pinch.1.1.0) tt,
          (none, met, pinch.1.1.1),
        )
        | inl fans ↦ elim (connected_or_apart mesh) [
          | inr apart ↦ inr (Apart apart.0, told (Apart apart.0) tt, (none, met, fans, apart.1))
          | inl connected ↦ inl (record {
            none_crowded = none;
            all_met = met;
            all_fans = fans;
            connected = connected;
          })
        ]
      ]
    ]
  ]

  on_border_sym : (e h : ℕ) → ShareOnBorder mesh e h → ShareOnBorder mesh h e
  on_border_sym e h s = (s.1, s.0, (s.2.0, s.2.2, s.2.1))

  -- there is a border, and all of it is one cycle
  border_or_fault : IsPatch mesh → (((e : ℕ) × IsBorderEdge mesh e) × HasOneBorder mesh) ⊎ HasDiscFault mesh
  border_or_fault patch =
      elim (least_such (edge_count mesh) (IsBorderEdge mesh) (λ e _. border_decided mesh e)) [
        | inr none ↦ inr (
          Border Nothing,
          told (Border Nothing) tt,
          (patch, λ e is. none e is.0 is),
        )
        | inl first ↦
            let e : ℕ = first.at in
            let least = first.least in
            elim (all_or_first (edge_count mesh) (λ h. IsBorderEdge mesh h → Joined (ShareOnBorder mesh) e h)
            (λ h _. implied (border_decided mesh h) (joined_decided (edge_count mesh) (ShareOnBorder mesh)
            (on_border_inside mesh) (λ x y _ _. on_border_decided mesh x y) e h))) [
              | inl all ↦ inl (
                (e, first.holds),
                λ d h on_d on_h. joined_trans (joined_sym on_border_sym (all d on_d.0 on_d)) (all h on_h.0 on_h),
              )
              | inr other ↦
                  let h : ℕ = other.0 in
                  let fails = other.1.fails in
                  let u : ℕ × ℕ = ends mesh e in
                  let s : ℕ × ℕ = ends mesh h in
                  let is : IsLeastOnBorder mesh e =
                  record {
                    on_border = first.holds;
                    none_before = λ d l on. let late = least d on.0 on in absurd (omega (arith, l, late));
                  } in
                  let out : IsLeastOutside mesh e h =
                  record {
                    on_border = undenied (border_decided mesh h) (λ deny. fails (λ on. absurd (deny on)));
                    outside = λ joined. fails (λ _. joined);
                    inside_before = other.1.before;
                  } in
                  inr (
                    Border (Two u.0 u.1 s.0 s.1),
                    told (Border (Two u.0 u.1 s.0 s.1)) tt,
                    (patch, (e, h, is, out, refl, refl)),
                  )
            ]
      ]

  -- the mesh is a disc, or it has a fault
  pub disc_or_fault : IsDisc mesh ⊎ HasDiscFault mesh
  disc_or_fault = elim patch_or_fault [
    | inr fault ↦ inr fault
    | inl patch ↦ elim (border_or_fault patch) [
      | inr fault ↦ inr fault
      | inl border ↦
          let v : ℕ = mesh.vertices in
          let e : ℕ = edge_count mesh in
          let f : ℕ = face_count mesh in
          elim (when_same (v + f) (e + 1)) [
            | inl one ↦ inl (record {
              is_mesh = is_mesh;
              one_or_two = patch.none_crowded;
              no_isolated = patch.all_met;
              one_fan = patch.all_fans;
              connected = patch.connected;
              some_border = border.0;
              one_border = border.1;
              characteristic_one = one;
            })
            | inr other ↦ inr (
              Count v e f,
              told (Count v e f) tt,
              (patch, border.0, border.1, refl, refl, refl, other),
            )
          ]
    ]
  ]
