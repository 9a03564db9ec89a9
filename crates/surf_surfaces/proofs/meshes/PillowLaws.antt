-- The smallest surface is one.
use Rattle.surf_surfaces.proofs.Common.{◌≡◌, ℕ, ◌<◌, false, zero, suc, refl, arith, length, All-from_recursion, Joined, here, over, IsMesh, IsFace, pair, IsLoopCount, ends, faces_with, HasCorner, HasEdge, ShareAt, HasOneFan, IsConnected, IsSurface, IsOrientation, IsOrientable}
use Rattle.surf_surfaces.specs.Pillow.{pillow}
use Rattle.surf_surfaces.proofs.meshes.SmallFaces.{triangle}

pillow_is_mesh : IsMesh pillow
pillow_is_mesh = All-from_recursion (IsFace 3) pillow.faces (
  triangle 3 0 1 2 (λ e. omega arith) (λ e. omega arith) (λ e. omega arith) (omega arith) (omega arith) (omega arith),
  (
    triangle 3 0 2 1 (λ e. omega arith) (λ e. omega arith) (λ e. omega arith) (omega arith) (omega arith) (omega arith),
    tt,
  ),
)

both_have : (v w : ℕ) → HasEdge pillow 0 (pair v w) → HasEdge pillow 1 (pair v w) → (f g : ℕ) → f < 2 → g < 2 →
    Joined (ShareAt pillow v) f g
both_have v w a b zero zero x y = here
both_have v w a b zero (suc zero) x y = over (w, a, b) here
both_have v w a b (suc zero) zero x y = over (w, b, a) here
both_have v w a b (suc zero) (suc zero) x y = here
both_have v w a b (suc (suc f)) g x y = absurd (omega arith)
both_have v w a b f (suc (suc g)) x y = absurd (omega arith)

fan : (v : ℕ) → v < 3 → HasOneFan pillow v
fan zero h f g a b = both_have 0 1 (omega arith, refl) (omega arith, refl) f g a.0 b.0
fan (suc zero) h f g a b = both_have 1 2 (omega arith, refl) (omega arith, refl) f g a.0 b.0
fan (suc (suc zero)) h f g a b = both_have 2 0 (omega arith, refl) (omega arith, refl) f g a.0 b.0
fan (suc (suc (suc v))) h f g a b = absurd (omega arith)

connected : IsConnected pillow
connected zero zero x y = here
connected zero (suc zero) x y = over ((0, 1), (omega arith, refl), (omega arith, refl)) here
connected (suc zero) zero x y = over ((0, 1), (omega arith, refl), (omega arith, refl)) here
connected (suc zero) (suc zero) x y = here
connected (suc (suc f)) g x y = absurd (omega arith)
connected f (suc (suc g)) x y = absurd (omega arith)

two_faces : (e : ℕ) → e < 3 → length (faces_with pillow (ends pillow e)) ≡ 2
two_faces zero h = refl
two_faces (suc zero) h = refl
two_faces (suc (suc zero)) h = refl
two_faces (suc (suc (suc e))) h = absurd (omega arith)

no_isolated : (v : ℕ) → v < 3 → (f : ℕ) × HasCorner pillow f v
no_isolated zero h = (0, (omega arith, (0, omega arith, refl)))
no_isolated (suc zero) h = (0, (omega arith, (1, omega arith, refl)))
no_isolated (suc (suc zero)) h = (0, (omega arith, (2, omega arith, refl)))
no_isolated (suc (suc (suc v))) h = absurd (omega arith)

pub pillow_is_surface : IsSurface pillow
pillow_is_surface = record {
  is_mesh = pillow_is_mesh;
  some_face = omega arith;
  two_faces = two_faces;
  no_isolated = no_isolated;
  one_fan = fan;
  connected = connected;
}

turning : IsOrientation pillow (λ f. false)
turning zero h = refl
turning (suc zero) h = refl
turning (suc (suc zero)) h = refl
turning (suc (suc (suc e))) h = absurd (omega arith)

pub pillow_is_two_sided : IsOrientable pillow
pillow_is_two_sided = ((λ f. false), turning)

pub pillow_count : IsLoopCount pillow 0
pillow_count = refl
