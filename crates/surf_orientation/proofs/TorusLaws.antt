-- Five squares around five vertices are a surface, a torus.
use Rattle.surf_surfaces.proofs.Common.{◌≡◌, ◌≢◌, ℕ, ◌<◌, List, [], ◌∷◌, zero, suc, refl, arith, Contains, length, All-from_recursion, All-contains, AllByRecursion, here, over, IsMesh, IsFace, steps, ends, face_at, faces_with, HasCorner, ShareAt, HasOneFan, IsConnected, IsSurface}
use Rattle.surf_surfaces.proofs.meshes.FanLaws.{listed_faces_are_fan}
use Rattle.surf_surfaces.proofs.meshes.SmallFaces.{square}
use Rattle.surf_orientation.specs.Examples.{five_torus}

is_mesh : IsMesh five_torus
is_mesh = All-from_recursion (IsFace 5) five_torus.faces (
  square 5 0 1 3 2 (omega arith) (omega arith) (omega arith) (omega arith) (omega arith) (omega arith) (omega arith)
      (omega arith) (omega arith) (omega arith),
  (
    square 5 1 2 4 3 (omega arith) (omega arith) (omega arith) (omega arith) (omega arith) (omega arith) (omega arith)
        (omega arith) (omega arith) (omega arith),
    (
      square 5 2 3 0 4 (omega arith) (omega arith) (omega arith) (omega arith) (omega arith) (omega arith) (omega arith)
          (omega arith) (omega arith) (omega arith),
      (
        square 5 3 4 1 0 (omega arith) (omega arith) (omega arith) (omega arith) (omega arith) (omega arith) (omega arith)
            (omega arith) (omega arith) (omega arith),
        (
          square 5 4 0 2 1 (omega arith) (omega arith) (omega arith) (omega arith) (omega arith) (omega arith) (omega arith)
              (omega arith) (omega arith) (omega arith),
          tt,
        ),
      ),
    ),
  ),
)

two_faces : (e : ℕ) → e < 10 → length (faces_with five_torus (ends five_torus e)) ≡ 2
two_faces zero h = refl
two_faces (suc zero) h = refl
two_faces (suc (suc zero)) h = refl
two_faces (suc (suc (suc zero))) h = refl
two_faces (suc (suc (suc (suc zero)))) h = refl
two_faces (suc (suc (suc (suc (suc zero))))) h = refl
two_faces (suc (suc (suc (suc (suc (suc zero)))))) h = refl
two_faces (suc (suc (suc (suc (suc (suc (suc zero))))))) h = refl
two_faces (suc (suc (suc (suc (suc (suc (suc (suc zero)))))))) h = refl
two_faces (suc (suc (suc (suc (suc (suc (suc (suc (suc zero))))))))) h = refl
two_faces (suc (suc (suc (suc (suc (suc (suc (suc (suc (suc e)))))))))) h = absurd (omega arith)

no_isolated : (v : ℕ) → v < 5 → (f : ℕ) × HasCorner five_torus f v
no_isolated zero h = (0, (omega arith, (0, omega arith, refl)))
no_isolated (suc zero) h = (0, (omega arith, (1, omega arith, refl)))
no_isolated (suc (suc zero)) h = (0, (omega arith, (3, omega arith, refl)))
no_isolated (suc (suc (suc zero))) h = (0, (omega arith, (2, omega arith, refl)))
no_isolated (suc (suc (suc (suc zero)))) h = (1, (omega arith, (2, omega arith, refl)))
no_isolated (suc (suc (suc (suc (suc v))))) h = absurd (omega arith)

-- a vertex that is none of the corners
not_there : (v : ℕ) (face : List ℕ) → AllByRecursion (λ w. w ≢ v) face → Contains face v → ⊥
not_there v face h c = All-contains (λ w. w ≢ v) face v (All-from_recursion (λ w. w ≢ v) face h) c refl

listed_0 : (f : ℕ) → HasCorner five_torus f 0 → Contains (0 ∷ 3 ∷ 2 ∷ 4 ∷ []) f
listed_0 zero has = (0, omega arith, refl)
listed_0 (suc zero) has =
    absurd (not_there 0 (face_at five_torus 1) ((omega arith), ((omega arith), ((omega arith), ((omega arith), tt))))
    has.1)
listed_0 (suc (suc zero)) has = (2, omega arith, refl)
listed_0 (suc (suc (suc zero))) has = (1, omega arith, refl)
listed_0 (suc (suc (suc (suc zero)))) has = (3, omega arith, refl)
listed_0 (suc (suc (suc (suc (suc f))))) has = let low = has.0 in absurd (omega (arith, low))

listed_1 : (f : ℕ) → HasCorner five_torus f 1 → Contains (0 ∷ 1 ∷ 4 ∷ 3 ∷ []) f
listed_1 zero has = (0, omega arith, refl)
listed_1 (suc zero) has = (1, omega arith, refl)
listed_1 (suc (suc zero)) has =
    absurd (not_there 1 (face_at five_torus 2) ((omega arith), ((omega arith), ((omega arith), ((omega arith), tt))))
    has.1)
listed_1 (suc (suc (suc zero))) has = (3, omega arith, refl)
listed_1 (suc (suc (suc (suc zero)))) has = (2, omega arith, refl)
listed_1 (suc (suc (suc (suc (suc f))))) has = let low = has.0 in absurd (omega (arith, low))

listed_2 : (f : ℕ) → HasCorner five_torus f 2 → Contains (0 ∷ 2 ∷ 1 ∷ 4 ∷ []) f
listed_2 zero has = (0, omega arith, refl)
listed_2 (suc zero) has = (2, omega arith, refl)
listed_2 (suc (suc zero)) has = (1, omega arith, refl)
listed_2 (suc (suc (suc zero))) has =
    absurd (not_there 2 (face_at five_torus 3) ((omega arith), ((omega arith), ((omega arith), ((omega arith), tt))))
    has.1)
listed_2 (suc (suc (suc (suc zero)))) has = (3, omega arith, refl)
listed_2 (suc (suc (suc (suc (suc f))))) has = let low = has.0 in absurd (omega (arith, low))

listed_3 : (f : ℕ) → HasCorner five_torus f 3 → Contains (0 ∷ 1 ∷ 3 ∷ 2 ∷ []) f
listed_3 zero has = (0, omega arith, refl)
listed_3 (suc zero) has = (1, omega arith, refl)
listed_3 (suc (suc zero)) has = (3, omega arith, refl)
listed_3 (suc (suc (suc zero))) has = (2, omega arith, refl)
listed_3 (suc (suc (suc (suc zero)))) has =
    absurd (not_there 3 (face_at five_torus 4) ((omega arith), ((omega arith), ((omega arith), ((omega arith), tt))))
    has.1)
listed_3 (suc (suc (suc (suc (suc f))))) has = let low = has.0 in absurd (omega (arith, low))

listed_4 : (f : ℕ) → HasCorner five_torus f 4 → Contains (1 ∷ 2 ∷ 4 ∷ 3 ∷ []) f
listed_4 zero has = absurd
    (not_there 4 (face_at five_torus 0) ((omega arith), ((omega arith), ((omega arith), ((omega arith), tt)))) has.1)
listed_4 (suc zero) has = (0, omega arith, refl)
listed_4 (suc (suc zero)) has = (1, omega arith, refl)
listed_4 (suc (suc (suc zero))) has = (3, omega arith, refl)
listed_4 (suc (suc (suc (suc zero)))) has = (2, omega arith, refl)
listed_4 (suc (suc (suc (suc (suc f))))) has = let low = has.0 in absurd (omega (arith, low))

fan : (v : ℕ) → v < 5 → HasOneFan five_torus v
fan zero h = listed_faces_are_fan five_torus 0 (0 ∷ 3 ∷ 2 ∷ 4 ∷ [])
    (All-from_recursion (λ s. ShareAt five_torus 0 s.0 s.1) (steps (0 ∷ 3 ∷ 2 ∷ 4 ∷ [])) (
      (1, (omega arith, refl), (omega arith, refl)),
      ((3, (omega arith, refl), (omega arith, refl)), ((4, (omega arith, refl), (omega arith, refl)), tt)),
    )) listed_0
fan (suc zero) h = listed_faces_are_fan five_torus 1 (0 ∷ 1 ∷ 4 ∷ 3 ∷ [])
    (All-from_recursion (λ s. ShareAt five_torus 1 s.0 s.1) (steps (0 ∷ 1 ∷ 4 ∷ 3 ∷ [])) (
      (3, (omega arith, refl), (omega arith, refl)),
      ((2, (omega arith, refl), (omega arith, refl)), ((4, (omega arith, refl), (omega arith, refl)), tt)),
    )) listed_1
fan (suc (suc zero)) h =
    listed_faces_are_fan five_torus 2 (0 ∷ 2 ∷ 1 ∷ 4 ∷ [])
    (All-from_recursion (λ s. ShareAt five_torus 2 s.0 s.1) (steps (0 ∷ 2 ∷ 1 ∷ 4 ∷ [])) (
      (3, (omega arith, refl), (omega arith, refl)),
      ((4, (omega arith, refl), (omega arith, refl)), ((1, (omega arith, refl), (omega arith, refl)), tt)),
    )) listed_2
fan (suc (suc (suc zero))) h =
    listed_faces_are_fan five_torus 3 (0 ∷ 1 ∷ 3 ∷ 2 ∷ [])
    (All-from_recursion (λ s. ShareAt five_torus 3 s.0 s.1) (steps (0 ∷ 1 ∷ 3 ∷ 2 ∷ [])) (
      (1, (omega arith, refl), (omega arith, refl)),
      ((4, (omega arith, refl), (omega arith, refl)), ((0, (omega arith, refl), (omega arith, refl)), tt)),
    )) listed_3
fan (suc (suc (suc (suc zero)))) h =
    listed_faces_are_fan five_torus 4 (1 ∷ 2 ∷ 4 ∷ 3 ∷ [])
    (All-from_recursion (λ s. ShareAt five_torus 4 s.0 s.1) (steps (1 ∷ 2 ∷ 4 ∷ 3 ∷ [])) (
      (2, (omega arith, refl), (omega arith, refl)),
      ((0, (omega arith, refl), (omega arith, refl)), ((1, (omega arith, refl), (omega arith, refl)), tt)),
    )) listed_4
fan (suc (suc (suc (suc (suc v))))) h = absurd (omega arith)

connected : IsConnected five_torus
connected zero zero x y = here
connected zero (suc zero) x y = over ((1, 3), (omega arith, refl), (omega arith, refl)) here
connected zero (suc (suc zero)) x y = over ((2, 3), (omega arith, refl), (omega arith, refl)) here
connected zero (suc (suc (suc zero))) x y = over ((0, 1), (omega arith, refl), (omega arith, refl)) here
connected zero (suc (suc (suc (suc zero)))) x y = over ((0, 2), (omega arith, refl), (omega arith, refl)) here
connected (suc zero) zero x y = over ((1, 3), (omega arith, refl), (omega arith, refl)) here
connected (suc zero) (suc zero) x y = here
connected (suc zero) (suc (suc zero)) x y = over ((2, 4), (omega arith, refl), (omega arith, refl)) here
connected (suc zero) (suc (suc (suc zero))) x y = over ((3, 4), (omega arith, refl), (omega arith, refl)) here
connected (suc zero) (suc (suc (suc (suc zero)))) x y = over ((1, 2), (omega arith, refl), (omega arith, refl)) here
connected (suc (suc zero)) zero x y = over ((2, 3), (omega arith, refl), (omega arith, refl)) here
connected (suc (suc zero)) (suc zero) x y = over ((2, 4), (omega arith, refl), (omega arith, refl)) here
connected (suc (suc zero)) (suc (suc zero)) x y = here
connected (suc (suc zero)) (suc (suc (suc zero))) x y = over ((0, 3), (omega arith, refl), (omega arith, refl)) here
connected (suc (suc zero)) (suc (suc (suc (suc zero)))) x y =
    over ((0, 4), (omega arith, refl), (omega arith, refl)) here
connected (suc (suc (suc zero))) zero x y = over ((0, 1), (omega arith, refl), (omega arith, refl)) here
connected (suc (suc (suc zero))) (suc zero) x y = over ((3, 4), (omega arith, refl), (omega arith, refl)) here
connected (suc (suc (suc zero))) (suc (suc zero)) x y = over ((0, 3), (omega arith, refl), (omega arith, refl)) here
connected (suc (suc (suc zero))) (suc (suc (suc zero))) x y = here
connected (suc (suc (suc zero))) (suc (suc (suc (suc zero)))) x y =
    over ((1, 4), (omega arith, refl), (omega arith, refl)) here
connected (suc (suc (suc (suc zero)))) zero x y = over ((0, 2), (omega arith, refl), (omega arith, refl)) here
connected (suc (suc (suc (suc zero)))) (suc zero) x y = over ((1, 2), (omega arith, refl), (omega arith, refl)) here
connected (suc (suc (suc (suc zero)))) (suc (suc zero)) x y =
    over ((0, 4), (omega arith, refl), (omega arith, refl)) here
connected (suc (suc (suc (suc zero)))) (suc (suc (suc zero))) x y =
    over ((1, 4), (omega arith, refl), (omega arith, refl)) here
connected (suc (suc (suc (suc zero)))) (suc (suc (suc (suc zero)))) x y = here
connected (suc (suc (suc (suc (suc f))))) g x y = absurd (omega arith)
connected f (suc (suc (suc (suc (suc g))))) x y = absurd (omega arith)

pub five_torus_is_surface : IsSurface five_torus
five_torus_is_surface = record {
  is_mesh = is_mesh;
  some_face = omega arith;
  two_faces = two_faces;
  no_isolated = no_isolated;
  one_fan = fan;
  connected = connected;
}
