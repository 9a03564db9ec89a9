-- A mesh is a surface, or it has a first fault.
use Rattle.surf_surfaces.proofs.Common.{◌≡◌, ◌≢◌, ◌<◌, ◌≤◌, ◌⊎◌, ℕ, List, [], ◌∷◌, length, get_or, refl, subst, arith, inl, inr, Mesh, IsMesh, face_count, edge_count, edges, ends, faces_with, IsSurface, Contains-get_or}
use Rattle.std.specs.Prelude.{take}
use Rattle.surf_check.specs.declared.checking.SurfaceFault.{SurfaceFault}
use Rattle.surf_check.specs.declared.checking.SurfaceFault.TheVariants.{Empty, Border, Crowded, Isolated, Pinched, Apart, Memory}
use Rattle.surf_soup.specs.Pairs.{degree, HasTwoFaces, IsLeastBorder, IsLeastCrowd}
use Rattle.surf_soup.specs.Vertices.{AllMet}
use Rattle.surf_surfaces.proofs.LawProofs.{edges_are_sides}
use Rattle.surf_surfaces.proofs.meshes.SurfaceLaws.{faces_with-contains}
use Rattle.surf_decided.proofs.Deciding.{denied, undenied, when_same, when_less, all_or_first}
use Rattle.surf_decided.proofs.Fans.{met_or_isolated, connected_or_apart, fans_or_pinch}
use Rattle.surf_decided.specs.Told.{HasSurfaceFault}

-- the fault isn't want of memory
abbrev IsTold : SurfaceFault → Type 0
IsTold Memory = ⊥
IsTold fault = Unit {0}

told : (fault : SurfaceFault) → IsTold fault → fault ≢ Memory
told fault is = λ same. subst IsTold same is

-- a list of one
pub one_row : (xs : List ℕ) → length xs ≡ 1 → xs ≡ get_or xs 0 0 ∷ []
one_row [] is = absurd (omega (arith, is))
one_row (x ∷ []) is = refl
one_row (x ∷ y ∷ xs) is = absurd (omega (arith, is))

-- each edge is a side of some face
pub some_degree : (mesh : Mesh) (e : ℕ) → e < edge_count mesh → 1 ≤ degree mesh e
some_degree mesh e l =
    let f = (edges_are_sides mesh (ends mesh e)).0 (Contains-get_or (edges mesh) e (0, 0) l) in
    let at = (faces_with-contains mesh (ends mesh e) f.0).1 f.1 in
    let below = at.1 in
    omega (arith, below)

module _ (mesh : Mesh) (is_mesh : IsMesh mesh) where
  -- each edge has two faces, or one has another number of them
  pairs_or_fault : 0 < face_count mesh → HasTwoFaces mesh ⊎ HasSurfaceFault mesh
  pairs_or_fault some =
      elim (all_or_first (edge_count mesh) (λ e. degree mesh e ≢ 1) (λ e _. denied (when_same (degree mesh e) 1))) [
        | inr border ↦
            let e : ℕ = border.0 in
            let p : ℕ × ℕ = ends mesh e in
            let face : ℕ = get_or (faces_with mesh p) 0 0 in
            let one : degree mesh e ≡ 1 = undenied (when_same (degree mesh e) 1) border.1.fails in
            let is : IsLeastBorder mesh (p.0, p.1) face e =
            record {
              is_edge = border.1.below;
              its_ends = refl;
              its_face = one_row (faces_with mesh p) one;
              none_before = border.1.before;
            } in
            inr (Border p.0 p.1 face, told (Border p.0 p.1 face) tt, (some, (e, is)))
        | inl none ↦ elim (all_or_first (edge_count mesh) (λ e. degree mesh e < 3) (λ e _. when_less (degree mesh e) 3)) [
          | inr crowd ↦
              let e : ℕ = crowd.0 in
              let p : ℕ × ℕ = ends mesh e in
              let fails = crowd.1.fails in
              let many : 3 ≤ degree mesh e = many_from (degree mesh e) fails in
              let is : IsLeastCrowd mesh (p.0, p.1) (take 3 (faces_with mesh p)) e =
              record {
                is_edge = crowd.1.below;
                its_ends = refl;
                many = many;
                its_faces = refl;
                none_before = crowd.1.before;
                no_border = none;
              } in
              inr (
                Crowded p.0 p.1 (take 3 (faces_with mesh p)),
                told (Crowded p.0 p.1 (take 3 (faces_with mesh p))) tt,
                (some, (e, is)),
              )
          | inl few ↦ inl (λ e l. let least = some_degree mesh e l in
              let not_one = none e l in
              let less = few e l in
              omega (arith, least, not_one, less))
        ]
      ]
    where
      many_from : (n : ℕ) → (n < 3 → ⊥) → 3 ≤ n
      many_from n fails = undenied (elim (when_less n 3) [
        | inl less ↦ inr (λ more. absurd (omega (arith, less, more)))
        | inr more ↦ inl (omega (arith, more))
      ]) (λ deny. fails (omega (arith, deny)))

  met_or_fault : 0 < face_count mesh → HasTwoFaces mesh → AllMet mesh ⊎ HasSurfaceFault mesh
  met_or_fault some two = elim (met_or_isolated mesh) [
    | inl all ↦ inl all
    | inr lone ↦ inr (Isolated lone.0, told (Isolated lone.0) tt, (some, two, lone.1))
  ]

  -- the mesh is a surface, or it has a fault
  pub surface_or_fault : IsSurface mesh ⊎ HasSurfaceFault mesh
  surface_or_fault = elim (when_less 0 (face_count mesh)) [
    | inr none ↦ inr (Empty, told Empty tt, omega (arith, none))
    | inl some ↦ elim (pairs_or_fault some) [
      | inr fault ↦ inr fault
      | inl two ↦ elim (met_or_fault some two) [
        | inr fault ↦ inr fault
        | inl met ↦ elim (fans_or_pinch mesh is_mesh) [
          | inr pinch ↦ inr (
            Pinched pinch.0 pinch.1.0 pinch.1.1.0,
            told (Pinched pinch.0 pinch.1.0 pinch.1.1.0) tt,
            (some, two, met, pinch.1.1.1),
          )
          | inl fans ↦ elim (connected_or_apart mesh) [
            | inr apart ↦ inr (Apart apart.0, told (Apart apart.0) tt, (some, two, met, fans, apart.1))
            | inl connected ↦ inl (record {
              is_mesh = is_mesh;
              some_face = some;
              two_faces = two;
              no_isolated = met;
              one_fan = fans;
              connected = connected;
            })
          ]
        ]
      ]
    ]
  ]
