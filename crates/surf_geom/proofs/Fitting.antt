-- Lengths that are measured are positive.
use Rattle.surf_surfaces.proofs.Common.{◌≡◌, ◌≢◌, ℕ, List, Ok, eqb, ◌∙◌, inl, inr, nat_lt, cases_Bool, eqb-false}
use Rattle.std.specs.List.{All}
use Rattle.surf_lengths.specs.Lengths.{longest}
use Rattle.surf_geom.specs.declared.points.Point.{Point}
use Rattle.surf_geom.specs.Lists.{each}
use Rattle.surf_geom.specs.Measures.{measure_of, fitting, length_of}
use Rattle.surf_geom.specs.Points.{point_at, square_distance}
use Rattle.surf_geom.proofs.EachLaws.{each_all}

fitting_positive : (edge : ℕ × ℕ) (n m : ℕ) → fitting edge n ≡ Ok m → m ≢ 0
fitting_positive edge n m is = elim (cases_Bool (eqb n 0)) [
  | inl none ↦ let bad = rw none at is in cc
  | inr some ↦
      let fits = rw some at is in
      elim (cases_Bool (nat_lt longest n)) [
        | inl great ↦ let bad = rw great at fits in cc
        | inr small ↦
            let whole = rw small at fits in
            let same : n ≡ m = cc in
            λ zero. eqb-false n 0 some (same ∙ zero)
      ]
]

pub lengths_positive : (points : List Point) (unit : ℕ) (pairs : List (ℕ × ℕ)) (lengths : List ℕ) → each (length_of points unit) pairs ≡ Ok lengths → All (λ n. n ≢ 0) lengths
lengths_positive points unit pairs lengths is =
    (each_all (length_of points unit) (λ n. n ≢ 0) (λ edge n here. fitting_positive edge (measure_of unit (square_distance (point_at points edge.0) (point_at points edge.1))) n here) pairs lengths is).0
