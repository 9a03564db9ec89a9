-- The premises of the laws are met: a one-sided surface, and a turning of a torus.
use Rattle.surf_surfaces.proofs.Common.{◌≡◌, ℕ, ◌<◌, false, [], ◌∷◌, pos, zero, suc, refl, arith, Contains, length, All-from_recursion, Joined, here, over, ends, faces_with, HasCorner, HasEdge, ShareAt, Share, HasOneFan, IsSurface, IsOrientation, IsMesh, IsFace, pair, steps, characteristic, IsOneSided}
use Rattle.surf_surfaces.proofs.meshes.SmallFaces.{square}
use Rattle.surf_surfaces.proofs.meshes.FanLaws.{listed_faces_are_fan}
use Rattle.surf_orientation.specs.Examples.{half_cube, half_cube_chain, five_torus}
use Rattle.surf_orientation.specs.Statements.{genus_of}

is_mesh : IsMesh half_cube
is_mesh = All-from_recursion (IsFace 4) half_cube.faces (
  square 4 0 1 2 3 (omega arith) (omega arith) (omega arith) (omega arith) (omega arith) (omega arith) (omega arith)
      (omega arith) (omega arith) (omega arith),
  (
    square 4 0 1 3 2 (omega arith) (omega arith) (omega arith) (omega arith) (omega arith) (omega arith) (omega arith)
        (omega arith) (omega arith) (omega arith),
    (
      square 4 0 2 1 3 (omega arith) (omega arith) (omega arith) (omega arith) (omega arith) (omega arith) (omega arith)
          (omega arith) (omega arith) (omega arith),
      tt,
    ),
  ),
)

two_faces : (e : ℕ) → e < 6 → length (faces_with half_cube (ends half_cube e)) ≡ 2
two_faces zero h = refl
two_faces (suc zero) h = refl
two_faces (suc (suc zero)) h = refl
two_faces (suc (suc (suc zero))) h = refl
two_faces (suc (suc (suc (suc zero)))) h = refl
two_faces (suc (suc (suc (suc (suc zero))))) h = refl
two_faces (suc (suc (suc (suc (suc (suc e)))))) h = absurd (omega arith)

no_isolated : (v : ℕ) → v < 4 → (f : ℕ) × HasCorner half_cube f v
no_isolated zero h = (0, (omega arith, (0, omega arith, refl)))
no_isolated (suc zero) h = (0, (omega arith, (1, omega arith, refl)))
no_isolated (suc (suc zero)) h = (0, (omega arith, (2, omega arith, refl)))
no_isolated (suc (suc (suc zero))) h = (0, (omega arith, (3, omega arith, refl)))
no_isolated (suc (suc (suc (suc v)))) h = absurd (omega arith)

-- the three faces in a row at a vertex, neighbours by two of its edges
fan_by : (v u w : ℕ) → HasEdge half_cube 0 (pair v u) → HasEdge half_cube 1 (pair v u) →
    HasEdge half_cube 1 (pair v w) → HasEdge half_cube 2 (pair v w) → HasOneFan half_cube v
fan_by v u w a b c d =
    listed_faces_are_fan half_cube v (0 ∷ 1 ∷ 2 ∷ [])
    (All-from_recursion (λ s. ShareAt half_cube v s.0 s.1) (steps (0 ∷ 1 ∷ 2 ∷ [])) ((u, a, b), ((w, c, d), tt)))
    (λ f has. listed f has.0)
  where
    listed : (f : ℕ) → f < 3 → Contains (0 ∷ 1 ∷ 2 ∷ []) f
    listed zero h = (0, omega arith, refl)
    listed (suc zero) h = (1, omega arith, refl)
    listed (suc (suc zero)) h = (2, omega arith, refl)
    listed (suc (suc (suc f))) h = absurd (omega arith)

fan : (v : ℕ) → v < 4 → HasOneFan half_cube v
fan zero h = fan_by 0 1 2 (omega arith, refl) (omega arith, refl) (omega arith, refl) (omega arith, refl)
fan (suc zero) h = fan_by 1 0 3 (omega arith, refl) (omega arith, refl) (omega arith, refl) (omega arith, refl)
fan (suc (suc zero)) h = fan_by 2 3 0 (omega arith, refl) (omega arith, refl) (omega arith, refl) (omega arith, refl)
fan (suc (suc (suc zero))) h = fan_by 3 2 1 (omega arith, refl) (omega arith, refl) (omega arith, refl)
    (omega arith, refl)
fan (suc (suc (suc (suc v)))) h = absurd (omega arith)

corner_0 : (f : ℕ) → f < 3 → HasCorner half_cube f 0
corner_0 zero h = (omega arith, (0, omega arith, refl))
corner_0 (suc zero) h = (omega arith, (0, omega arith, refl))
corner_0 (suc (suc zero)) h = (omega arith, (0, omega arith, refl))
corner_0 (suc (suc (suc f))) h = absurd (omega arith)

joined_more : (v : ℕ) {f g : ℕ} → Joined (ShareAt half_cube v) f g → Joined (Share half_cube) f g
joined_more v here = here
joined_more v (over s rest) = over (pair v s.0, s.1, s.2) (joined_more v rest)

pub half_cube_is_surface : IsSurface half_cube
half_cube_is_surface = record {
  is_mesh = is_mesh;
  some_face = omega arith;
  two_faces = two_faces;
  no_isolated = no_isolated;
  one_fan = fan;
  connected = λ f g lf lg. joined_more 0 (fan 0 (omega arith) f g (corner_0 f lf) (corner_0 g lg));
}

pub half_cube_is_one_sided : IsOneSided half_cube half_cube_chain
half_cube_is_one_sided = record {
  some_link = omega arith;
  linked = (
    record { differ = omega arith; first = (omega arith, refl); second = (omega arith, refl) },
    (record { differ = omega arith; first = (omega arith, refl); second = (omega arith, refl) }, tt),
  );
  odd_number = refl;
}

pub half_cube_characteristic : characteristic half_cube ≡ pos 1
half_cube_characteristic = refl

pub five_torus_orientation : IsOrientation five_torus (λ f. false)
five_torus_orientation zero h = refl
five_torus_orientation (suc zero) h = refl
five_torus_orientation (suc (suc zero)) h = refl
five_torus_orientation (suc (suc (suc zero))) h = refl
five_torus_orientation (suc (suc (suc (suc zero)))) h = refl
five_torus_orientation (suc (suc (suc (suc (suc zero))))) h = refl
five_torus_orientation (suc (suc (suc (suc (suc (suc zero)))))) h = refl
five_torus_orientation (suc (suc (suc (suc (suc (suc (suc zero))))))) h = refl
five_torus_orientation (suc (suc (suc (suc (suc (suc (suc (suc zero)))))))) h = refl
five_torus_orientation (suc (suc (suc (suc (suc (suc (suc (suc (suc zero))))))))) h = refl
five_torus_orientation (suc (suc (suc (suc (suc (suc (suc (suc (suc (suc e)))))))))) h = absurd (omega arith)

pub five_torus_genus : genus_of five_torus ≡ 1
five_torus_genus = refl
