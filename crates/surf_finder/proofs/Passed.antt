-- Edges that the listing of loops passes over.
use Rattle.surf_finder.proofs.Common.{◌≡◌, ◌≢◌, ℕ, Bool, true, false, refl, not, ◌&&◌, slice_index, bit_xor, sym, ap, ◌∙◌, arith, ◌==◌, and_parts, and_from, false≢true, nat_tests, ends, xor_self, xor_zero_r, is_near, class_at, Search, is_between, told_loop}
use Rattle.surf_finder.specs.Found.{IsUnwanted}
use Rattle.surf_finder.specs.Rises.{IsRise}
use Rattle.surf_finder.specs.declared.rises.Rise.{Rise}

pub not_off : (b : Bool) → not b ≡ false → b ≡ true
not_off true off = refl
not_off false off = sym off

module _ (x : Search) (rise : Rise) (is : IsRise x.mesh rise) where
  -- both ends were reached
  pub both_reached : is_near x.near rise.low ≡ true → is_near x.near rise.high ≡ true → is_between x rise.edge ≡ true
  both_reached low high =
      ap (λ (p : ℕ × ℕ). is_near x.near p.0 && is_near x.near p.1) is.ends_are
      ∙ and_from (is_near x.near rise.low) (is_near x.near rise.high) low high

  -- the greater end wasn't reached
  pub not_reached : is_near x.near rise.high ≡ false → IsUnwanted x rise.edge
  not_reached off limit on =
      let between = (and_parts (is_between x rise.edge) _ on).0 in
      let near = (and_parts (is_near x.near (ends x.mesh rise.edge).0) (is_near x.near (ends x.mesh rise.edge).1) between).1 in
      false≢true (sym off ∙ ap (λ (p : ℕ × ℕ). is_near x.near p.1) (sym is.ends_are) ∙ near)

  -- the ways to both ends are alike, and the edge has no signature
  pub null_loop : class_at x.ways rise.low ≡ class_at x.ways rise.high → slice_index x.signs.signatures rise.edge ≡ 0 →
      IsUnwanted x rise.edge
  null_loop alike none limit on =
      let s = slice_index x.signs.signatures rise.edge in
      let w = class_at x.ways rise.high in
      let zero : (told_loop x rise.edge).signature ≡ 0 =
      ap (λ (p : ℕ × ℕ). bit_xor (bit_xor (class_at x.ways p.0) s) (class_at x.ways p.1)) is.ends_are
      ∙ ap (λ n. bit_xor (bit_xor n s) w) alike ∙ ap (λ n. bit_xor (bit_xor w n) w) none
      ∙ ap (λ n. bit_xor n w) (xor_zero_r w) ∙ xor_self w in
      let some = (and_parts _ (not ((told_loop x rise.edge).signature == 0)) (and_parts (is_between x rise.edge) _ on).1).1 in
      not_zero (told_loop x rise.edge).signature some zero
    where
      not_zero : (n : ℕ) → not (n == 0) ≡ true → n ≢ 0
      not_zero n h e = grind (arith, nat_tests)
