-- Coordinates that are read are in range, and so are the squares of distances.
use Rattle.surf_surfaces.proofs.Common.{◌≡◌, ℕ, zero, suc, ◌*◌, ◌^◌, ◌<◌, ◌≤◌, Bool, true, false, List, length, Option, Some, None, Result, Ok, Err, refl, sym, ap, ◌∙◌, subst, arith, inl, inr, cases_Bool, cases_lt, le-ltb, mul-le}
use Rattle.std.specs.Prelude.{ℤ, ◌-ℤ◌, unsigned_abs, not, slice_get, slice_index_or, []}
use Rattle.std.specs.List.{All, range_with_len}
use Rattle.std.proofs.lemmas.Int.{ints}
use Rattle.surf_text.specs.Text.{tokens_of}
use Rattle.surf_geom.specs.declared.fault.FixedFault.{FixedFault}
use Rattle.surf_geom.specs.declared.fault.GeomFault.{GeomFault}
use Rattle.surf_geom.specs.declared.points.Point.{Point}
use Rattle.surf_geom.specs.declared.fault.FixedFault.TheVariants.{Form, Range}
use Rattle.surf_geom.specs.Fixed.{Decimal, is_great, fixed_amount, signed, fixed_if, fixed_of, decimal_in}
use Rattle.surf_base.specs.Gives.{◌>>=◌}
use Rattle.surf_geom.specs.Points.{placed, coordinate, point_of, point_in, points_in, square, IsNear}
use Rattle.surf_geom.proofs.Quotients.{great_is}
use Rattle.surf_geom.proofs.EachLaws.{each_all}

amount_of_signed : (negative : Bool) (n : ℕ) → unsigned_abs (signed negative n) ≡ n
amount_of_signed false n = refl
amount_of_signed true zero = refl
amount_of_signed true (suc n) = refl

fixed_if_near : (d : Option Decimal) (z : ℤ) → fixed_if d ≡ Ok z → unsigned_abs z < 10 ^ 18
fixed_if_near None z is = cc
fixed_if_near (Some d) z is = elim (cases_lt (fixed_amount d) (10 ^ 18)) [
  | inl lt ↦ elim (cases_Bool (is_great d)) [
    | inl great ↦ let bad = rw great at is in cc
    | inr small ↦
        let same = rw small at is in
        let value : signed d.negative (fixed_amount d) ≡ z = cc in
        let amount : unsigned_abs z ≡ fixed_amount d = ap unsigned_abs (sym value) ∙ amount_of_signed d.negative (fixed_amount d) in
        omega arith
  ]
  | inr ge ↦
      let great : is_great d ≡ true = great_is d ∙ ap not (le-ltb (fixed_amount d) (10 ^ 18) ge) in
      let bad = rw great at is in cc
]

placed_near : (v place : ℕ) (r : Result ℤ FixedFault) (z : ℤ) → ((z : ℤ) → r ≡ Ok z → unsigned_abs z < 10 ^ 18) → placed v place r ≡ Ok z → unsigned_abs z < 10 ^ 18
placed_near v place (Ok x) z near is = near z (let same : x ≡ z = cc in ap (λ (y : ℤ). Ok y) same)
placed_near v place (Err Form) z near is = cc
placed_near v place (Err Range) z near is = cc

coordinate_near : (v place : ℕ) (token : Option (List ℕ)) (z : ℤ) → coordinate v place token ≡ Ok z → unsigned_abs z < 10 ^ 18
coordinate_near v place None z is = cc
coordinate_near v place (Some token) z is = placed_near v place (fixed_of token) z (λ y h. fixed_if_near (decimal_in token) y h) is

three_near : (p : Point) (x y z : Result ℤ GeomFault) →
    ((n : ℤ) → x ≡ Ok n → unsigned_abs n < 10 ^ 18) → ((n : ℤ) → y ≡ Ok n → unsigned_abs n < 10 ^ 18) → ((n : ℤ) → z ≡ Ok n → unsigned_abs n < 10 ^ 18) →
    (x >>= λ a. y >>= λ b. z >>= λ c. Ok (record { x = a; y = b; z = c })) ≡ Ok p → IsNear p
three_near p (Ok a) (Ok b) (Ok c) hx hy hz is =
    let same : ◌≡◌ {A = Point} (record { x = a; y = b; z = c }) p = cc in
    subst IsNear same (record { x = hx a refl; y = hy b refl; z = hz c refl })
three_near p (Ok a) (Ok b) (Err e) hx hy hz is = cc
three_near p (Ok a) (Err e) z hx hy hz is = cc
three_near p (Err e) y z hx hy hz is = cc

point_near : (v : ℕ) (tokens : List (List ℕ)) (p : Point) → point_of v tokens ≡ Ok p → IsNear p
point_near v tokens p is =
    three_near p (coordinate v 0 (slice_get tokens 0)) (coordinate v 1 (slice_get tokens 1)) (coordinate v 2 (slice_get tokens 2))
    (coordinate_near v 0 (slice_get tokens 0)) (coordinate_near v 1 (slice_get tokens 1)) (coordinate_near v 2 (slice_get tokens 2)) is

-- all points that are read
pub points_near : (lines : List (List ℕ)) (points : List Point) → points_in lines ≡ Ok points → All IsNear points
points_near lines points is =
    (each_all (point_in lines) IsNear (λ v p here. point_near v (tokens_of (slice_index_or lines v [])) p here) (range_with_len 0 (length lines)) points is).0

apart : (a b : ℤ) → unsigned_abs a < 10 ^ 18 → unsigned_abs b < 10 ^ 18 → unsigned_abs (a -ℤ b) < 2 * 10 ^ 18
apart a b near other = grind (arith, ints)

pub square_small : (a b : ℤ) → unsigned_abs a < 10 ^ 18 → unsigned_abs b < 10 ^ 18 → square (a -ℤ b) ≤ 4 * 10 ^ 36
square_small a b near other =
    let n = unsigned_abs (a -ℤ b) in
    let le : n < 2 * 10 ^ 18 = apart a b near other in
    mul-le n n (2 * 10 ^ 18) (2 * 10 ^ 18) (omega arith) (omega arith)
