-- Triangles by their corners.
use Rattle.surf_surfaces.proofs.Common.{◌≡◌, ◌≢◌, ℕ, zero, suc, ◌<◌, true, false, ◌||◌, [], ◌∷◌, ◌⊎◌, get_or, sym, arith, inl, inr, AllPairs, Contains, or_cases, or_left, or_right, true≢false, All-from_recursion, IsFace, pair_eq, runs}
use Rattle.surf_surfaces.proofs.meshes.PairLaws.{pair_eq-true, pair_eq-self}

-- one of three
abbrev pub OneOf : ℕ → ℕ → ℕ → ℕ → Type 0
OneOf v x y z = (v ≡ x) ⊎ ((v ≡ y) ⊎ (v ≡ z))

pub corner_of : (x y z v : ℕ) → Contains (x ∷ y ∷ z ∷ []) v → OneOf v x y z
corner_of x y z v h = at h.0 h.1 (sym h.2)
  where
    at : (k : ℕ) → k < 3 → v ≡ get_or (x ∷ y ∷ z ∷ []) k v → OneOf v x y z
    at zero in' e = inl e
    at (suc zero) in' e = inr (inl e)
    at (suc (suc zero)) in' e = inr (inr e)
    at (suc (suc (suc k))) in' e = absurd (omega arith)

-- the three runs of a triangle
pub run_of : (x y z : ℕ) (p : ℕ × ℕ) → runs p (x ∷ y ∷ z ∷ []) ≡ true →
    (p ≡ (x, y)) ⊎ ((p ≡ (y, z)) ⊎ (p ≡ (z, x)))
run_of x y z p h = elim (or_cases (pair_eq p (x, y)) (pair_eq p (y, z) || (pair_eq p (z, x) || false)) h) [
  | inl a ↦ inl (pair_eq-true p (x, y) a)
  | inr o ↦ elim (or_cases (pair_eq p (y, z)) (pair_eq p (z, x) || false) o) [
    | inl b ↦ inr (inl (pair_eq-true p (y, z) b))
    | inr q ↦ elim (or_cases (pair_eq p (z, x)) false q) [
      | inl c ↦ inr (inr (pair_eq-true p (z, x) c))
      | inr n ↦ absurd (true≢false (sym n))
    ]
  ]
]

pub runs_first : (x y z : ℕ) → runs (x, y) (x ∷ y ∷ z ∷ []) ≡ true
runs_first x y z = or_left (pair_eq (x, y) (x, y)) (pair_eq (x, y) (y, z) || (pair_eq (x, y) (z, x) || false))
    (pair_eq-self (x, y))

pub runs_second : (x y z : ℕ) → runs (y, z) (x ∷ y ∷ z ∷ []) ≡ true
runs_second x y z = or_right (pair_eq (y, z) (x, y)) (pair_eq (y, z) (y, z) || (pair_eq (y, z) (z, x) || false))
    (or_left (pair_eq (y, z) (y, z)) (pair_eq (y, z) (z, x) || false) (pair_eq-self (y, z)))

pub runs_third : (x y z : ℕ) → runs (z, x) (x ∷ y ∷ z ∷ []) ≡ true
runs_third x y z = or_right (pair_eq (z, x) (x, y)) (pair_eq (z, x) (y, z) || (pair_eq (z, x) (z, x) || false))
    (or_right (pair_eq (z, x) (y, z)) (pair_eq (z, x) (z, x) || false)
    (or_left (pair_eq (z, x) (z, x)) false (pair_eq-self (z, x))))
