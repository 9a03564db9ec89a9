use Rattle.surf_sew.proofs.Common.{ℕ, sym, ◌∙◌, ap, subst, arith, nat_lt, list_all, HaveCopies}
use Rattle.surf_sew.proofs.Gaps.{gap_few, gap_have, all_sewn, not_sewn, no_gap}
use Rattle.surf_sew.proofs.sewing.count_origins.Goals as goal

pub overflow_cast-result : goal.overflow_cast-result
overflow_cast-result c = let few = gap_few c.args.origins.now c.args.first.now c.requires.first in omega (arith, few, c.first_gap-gap.ensures.gap)

pub overflow_cast-gap : goal.overflow_cast-gap
overflow_cast-gap c = let few = gap_few c.args.origins.now c.args.first.now c.requires.first in omega (arith, few, c.first_gap-gap.ensures.gap)

pub returns-then-are_below-clause-few : goal.returns-then-are_below-clause-few
returns-then-are_below-clause-few c = let few = gap_few c.args.origins.now c.args.first.now c.requires.first in omega (arith, few, c.first_gap-gap.ensures.gap)

pub returns-then-are_below-clause-copies : goal.returns-then-are_below-clause-copies
returns-then-are_below-clause-copies c = subst (HaveCopies c.args.origins.now) (sym c.first_gap-gap.ensures.gap) (gap_have c.args.origins.now c.args.first.now c.requires.first)

pub returns-then-are_below-clause-count : goal.returns-then-are_below-clause-count
returns-then-are_below-clause-count c =
    let vs = c.args.origins.now in
    let first = c.args.first.now in
    let g = c.first_gap-gap.ensures.gap in
    let passes = ap (λ (n : ℕ). list_all (λ v. nat_lt v n) vs) (sym g) ∙ sym c.are_below.ensures.below ∙ c.if-are_below.true in
    let whole = all_sewn vs first c.requires.first passes in
    (no_gap vs _ (gap_have vs first c.requires.first) whole, g ∙ whole)

pub returns-else-are_below-clause-count : goal.returns-else-are_below-clause-count
returns-else-are_below-clause-count c =
    let vs = c.args.origins.now in
    let first = c.args.first.now in
    let g = c.first_gap-gap.ensures.gap in
    let fails = ap (λ (n : ℕ). list_all (λ v. nat_lt v n) vs) (sym g) ∙ sym c.are_below.ensures.below ∙ c.if-are_below.false in
    rw (c.new.ensures, g) (not_sewn vs first c.requires.first fails)
