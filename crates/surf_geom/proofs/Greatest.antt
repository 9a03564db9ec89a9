-- Measures are greatest.
use Rattle.surf_surfaces.proofs.Common.{◌≡◌, ℕ, zero, suc, ◌+◌, ◌-◌, ◌*◌, ◌/◌, ◌%◌, ◌^◌, ◌<◌, ◌≤◌, Bool, true, false, refl, sym, ap, ◌∙◌, subst, arith, inl, inr, nat_le, cases_Bool, cases_eq, cases_lt, cases_order, leb-true, le-leb, both_ways, mul-le, div-add-mod', mod_below, one-le-pow}
use Rattle.surf_geom.specs.Root.{IsRoot}
use Rattle.surf_geom.specs.Measures.{greatest, unit_square, measure_of}
use Rattle.surf_geom.specs.Laws.{IsMeasure}

greatest_passes : (test : ℕ → Bool) (bound : ℕ) → test 0 ≡ true → test (greatest test bound) ≡ true
unfolding greatest
greatest_passes test zero none = none
greatest_passes test (suc n) none = elim (cases_Bool (test (suc n))) [
  | inl here ↦ ap (λ b. test (Rattle.std.proofs.Common.cond b (suc n) (greatest test n))) here ∙ here
  | inr out ↦ ap (λ b. test (Rattle.std.proofs.Common.cond b (suc n) (greatest test n))) out ∙ greatest_passes test n none
]

greatest_is_above : (test : ℕ → Bool) (bound n : ℕ) → n ≤ bound → test n ≡ true → n ≤ greatest test bound
unfolding greatest
greatest_is_above test zero n le here = omega arith
greatest_is_above test (suc bound) n le here = elim (cases_Bool (test (suc bound))) [
  | inl top ↦ rw top le
  | inr out ↦ elim (cases_eq n (suc bound)) [
    | inl same ↦ absurd (both_ways (test (suc bound)) out (ap test (sym same) ∙ here))
    | inr less ↦ rw out (greatest_is_above test bound n (omega arith) here)
  ]
]

some_unit : (k : ℕ) → 0 < unit_square k
some_unit k = omega (arith, one-le-pow (2 * (9 - k)) 10 (omega arith))

-- a square in units is at least its root
square_above : (unit n : ℕ) → 0 < unit → n ≤ n * n * unit
square_above unit zero some = omega arith
square_above unit (suc n) some =
    let one : suc n * 1 ≤ suc n * suc n = mul-le (suc n) 1 (suc n) (suc n) (omega arith) (omega arith) in
    let two : suc n * suc n * 1 ≤ suc n * suc n * unit = mul-le (suc n * suc n) 1 (suc n * suc n) unit (omega arith) (omega arith) in
    omega arith

is_measure : (unit s : ℕ) → 0 < unit → IsMeasure unit s (measure_of unit s)
is_measure unit s some =
    let test = λ (n : ℕ). nat_le (n * n * unit) s in
    let m = measure_of unit s in
    record {
      within = leb-true _ _ (greatest_passes test s (le-leb _ _ (omega arith)));
      greatest = elim (cases_lt s ((m + 1) * (m + 1) * unit)) [
        | inl lt ↦ lt
        | inr fits ↦
            let above : m + 1 ≤ (m + 1) * (m + 1) * unit = square_above unit (m + 1) some in
            let more : m + 1 ≤ m = greatest_is_above test s (m + 1) (omega arith) (le-leb _ _ fits) in
            absurd (omega arith)
      ];
    }

-- a longer one is too long
not_longer : (unit s n m : ℕ) → IsMeasure unit s n → IsMeasure unit s m → n < m → ⊥
not_longer unit s n m first second lt =
    let one : (n + 1) * (n + 1) ≤ m * m = mul-le (n + 1) (n + 1) m m (omega arith) (omega arith) in
    let two : (n + 1) * (n + 1) * unit ≤ m * m * unit = mul-le ((n + 1) * (n + 1)) unit (m * m) unit one (omega arith) in
    omega (arith, first.greatest, second.within)

measure_once : (unit s n m : ℕ) → IsMeasure unit s n → IsMeasure unit s m → n ≡ m
measure_once unit s n m first second = elim (cases_order n m) [
  | inl same ↦ same
  | inr other ↦ elim other [
    | inl lt ↦ absurd (not_longer unit s n m first second lt)
    | inr gt ↦ absurd (not_longer unit s m n second first gt)
  ]
]

-- a whole root of a whole quotient
root_measures : (unit s n : ℕ) → 0 < unit → IsRoot (s / unit) n → IsMeasure unit s n
root_measures unit s n some root =
    let q = s / unit in
    let split : q * unit + s % unit ≡ s = div-add-mod' s unit in
    let rest : s % unit < unit = mod_below s unit some in
    let low : n * n * unit ≤ q * unit = mul-le (n * n) unit q unit root.within (omega arith) in
    let next : q + 1 ≤ (n + 1) * (n + 1) = omega (arith, root.greatest) in
    let high : (q + 1) * unit ≤ (n + 1) * (n + 1) * unit = mul-le (q + 1) unit ((n + 1) * (n + 1)) unit next (omega arith) in
    record { within = omega arith; greatest = omega arith }

pub measure_is_root : (unit s n : ℕ) → 0 < unit → IsRoot (s / unit) n → n ≡ measure_of unit s
measure_is_root unit s n some root = measure_once unit s n (measure_of unit s) (root_measures unit s n some root) (is_measure unit s some)

pub measures_are_greatest : (k s : ℕ) → IsMeasure (unit_square k) s (measure_of (unit_square k) s)
measures_are_greatest k s = is_measure (unit_square k) s (some_unit k)

pub measures_are_one : (k s n : ℕ) → IsMeasure (unit_square k) s n → n ≡ measure_of (unit_square k) s
measures_are_one k s n is = measure_once (unit_square k) s n (measure_of (unit_square k) s) is (measures_are_greatest k s)
