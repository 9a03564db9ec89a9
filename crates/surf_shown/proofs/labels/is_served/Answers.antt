use Rattle.surf_surfaces.proofs.Common.{◌<◌, ◌^◌, ◌∙◌, subst, sym, ap, arith, inl, inr, leb-true, take, numbers, Spanned}
use Rattle.surf_surfaces.proofs.meshes.CellLaws.{surfaces_are_cells}
use Rattle.surf_base.specs.Tables.{at}
use Rattle.surf_choice.specs.Candidates.{signatures}
use Rattle.surf_shown.proofs.Judged.{labelled_small, served_edge}
use Rattle.surf_shown.proofs.labels.is_served.Goals as goal

pub sum_count-requires : goal.sum_count-requires
sum_count-requires c = record {
  claim = c.requires.claim;
  small = subst (λ s. s < 2 ^ c.args.claim.now.ranks.now.width) (sym (c.bits.ensures ∙ c.class_of-class.ensures.class))
      (labelled_small c.args.claim.now c.args.labels.now c.args.e c.requires.claim c.requires.labels
      c.law_of_surface.ensures.surface c.requires.edge);
}

pub bounds-ends-index : goal.bounds-ends-index
bounds-ends-index c =
    let inside = (surfaces_are_cells c.args.claim.now.mesh.now c.law_of_surface.ensures.surface).complex.primal_ends c.args.e c.requires.edge in
    let one = inside.0 in
    let same = ap (λ p. p.0) c.ends-u.ensures in
    let index = c.index.ensures in
    let count = c.requires.count in
    omega (arith, one, same, index, count)

pub bounds-ends-index-else-need-from : goal.bounds-ends-index-else-need-from
bounds-ends-index-else-need-from c =
    let inside = (surfaces_are_cells c.args.claim.now.mesh.now c.law_of_surface.ensures.surface).complex.primal_ends c.args.e c.requires.edge in
    let two = inside.1 in
    let same = ap (λ p. p.1) c.ends-u.ensures in
    let index = c.index-else-need-from.ensures in
    let count = c.requires.count in
    omega (arith, two, same, index, count)

pub returns-then-need-from : goal.returns-then-need-from
returns-then-need-from c = record {
  served = λ short.
      (let le = leb-true c.min-need.result c.args.from short in
      served_edge c.args.claim.now c.args.labels.now c.args.from c.args.to c.in-Some.count c.args.ends.now c.args.e
      (subst (λ s. Spanned numbers (signatures (take c.in-Some.count c.args.claim.now.loops.now)) s)
      (c.bits.ensures ∙ c.class_of-class.ensures.class) c.in-Some.ensures.sum.1)
      (inl (omega (arith, le, c.min-need.ensures))));
}

pub returns-else-need-from : goal.returns-else-need-from
returns-else-need-from c = record {
  served = λ far.
      (let le = leb-true c.min-need.result c.max.result far in
      let one = c.index.ensures ∙ ap (λ p. p.0) c.ends-u.ensures in
      let two = c.index-else-need-from.ensures ∙ ap (λ p. p.1) c.ends-u.ensures in
      let a = ap (at c.args.ends.now) one in
      let b = ap (at c.args.ends.now) two in
      served_edge c.args.claim.now c.args.labels.now c.args.from c.args.to c.in-Some.count c.args.ends.now c.args.e
      (subst (λ s. Spanned numbers (signatures (take c.in-Some.count c.args.claim.now.loops.now)) s)
      (c.bits.ensures ∙ c.class_of-class.ensures.class) c.in-Some.ensures.sum.1)
      (inr (omega (arith, le, a, b, c.min-need.ensures, c.max.ensures))));
}
