use Rattle.surf_surfaces.proofs.Common.{ℕ, ◌≡◌, ◌*◌, ◌<◌, ◌≤◌, ◌^◌, ◌∙◌, ap, bit_xor, arith, pow-le-pow_right, number}
use Rattle.surf_signatures.specs.Tables.{words_for}
use Rattle.surf_certcheck.proofs.Climbing.{loop_summed}
use Rattle.surf_certcheck.proofs.cover.loop_words.Goals as goal

-- a set of a table fits sixteen words
fits : (x width n : ℕ) → x < 2 ^ (64 * words_for width) → width ≤ 1024 → n ≡ 16 → x < 2 ^ (64 * n)
fits x width n small few is =
    let wider : 2 ^ (64 * words_for width) ≤ 2 ^ (64 * n) = pow-le-pow_right {n = 2} (omega arith) (omega (arith, few, is)) in
    omega (arith, small, wider)

pub add_to-requires : goal.add_to-requires
add_to-requires c = record { fits = fits c.of.result c.args.sums.now.width 16 c.of.ensures.within c.requires.widths (omega arith) }

pub add_to-requires-2 : goal.add_to-requires-2
add_to-requires-2 c = record {
  fits = fits c.signature.result c.args.signs.now.width _ c.signature.ensures.within c.requires.width
      (omega (arith, c.add_to.auto.words));
}

pub add_to-requires-3 : goal.add_to-requires-3
add_to-requires-3 c = record {
  fits = fits c.of-2.result c.args.sums.now.width _ c.of-2.ensures.within c.requires.widths
      (omega (arith, c.add_to.auto.words, c.add_to-2.auto.words));
}

pub returns : goal.returns
returns c = record {
  sum = λ rows climbed are d to taken.
      let near = c.of.result in
      let own = c.signature.result in
      let far = c.of-2.result in
      loop_summed c.args.mesh.now d to c.args.signs.now.sets taken rows climbed c.law_of_surface.ensures.surface c.args.e
      c.ends_inside-u.result.0 c.ends_inside-u.result.1 near far own (number c.add_to-3.new.words) c.requires.edge
      (ap (λ (p : ℕ × ℕ). p.0) c.ends_inside-u.ensures.ends) (ap (λ (p : ℕ × ℕ). p.1) c.ends_inside-u.ensures.ends)
      (c.of.ensures.set ∙ are d to taken c.ends_inside-u.result.0 c.ends_inside-u.ensures.inside.0)
      (c.of-2.ensures.set ∙ are d to taken c.ends_inside-u.result.1 c.ends_inside-u.ensures.inside.1) c.signature.ensures.set
      (c.add_to-3.ensures.sum ∙ ap (λ s. bit_xor s far) (c.add_to-2.ensures.sum ∙ ap (λ s. bit_xor s own) c.add_to.ensures.sum));
}
