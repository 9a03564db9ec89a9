use Rattle.surf_surfaces.proofs.Common.{◌≡◌, ◌≢◌, ◌<◌, inr, ◌∷◌, ◌++◌, [], ℕ, length, sym, ap, ◌∙◌, subst, arith, rules, length_push}
use Rattle.surf_cutter.specs.Boundary.{corners_of, HasCopy, IsBorderSide}
use Rattle.surf_cutter.proofs.BorderTables.{copy_in}
use Rattle.surf_cutter.proofs.BorderRounds.{IsGone, gone_first, gone_border, gone_leaves, gone_few, gone_on, gone_round}
use Rattle.surf_cutter.proofs.Rims.{sides_size, other_reaches}
use Rattle.surf_cutter.proofs.border.go_round.Goals as goal

pub corners-head-requires : goal.corners-head-requires
corners-head-requires c =
    let b : IsBorderSide c.args.border.now c.least-first.result = c.least-first.ensures.0 in
    b.0

pub other_at-side-requires : goal.other_at-side-requires
other_at-side-requires c =
    let mesh = c.args.border.now in
    let head : c.corners-head.result.1 ≡ (corners_of mesh c.least-first.result).1 = ap (λ (p : ℕ × ℕ). p.1) c.corners-head.ensures in
    let lt = copy_in mesh c.law_of_border.ensures.disc.is_mesh c.least-first.result c.corners-head.result.1 c.least-first.ensures.0.0 (inr head) in
    omega (arith, lt, c.requires.rims.size, sides_size c.args.rims.now)

pub loop-first-init : goal.loop-first-init
loop-first-init c =
    let mesh = c.args.border.now in
    let first = c.least-first.result in
    let head : c.corners-head.result.1 ≡ (corners_of mesh first).1 = ap (λ (p : ℕ × ℕ). p.1) c.corners-head.ensures in
    let few = c.law_of_border.ensures.few in
    let copy_is = copy_in mesh c.law_of_border.ensures.disc.is_mesh first c.corners-head.result.1 c.least-first.ensures.0.0 (inr head) in
    let lt : c.corners-head.result.1 < length c.args.rims.now = omega (arith, copy_is, c.requires.rims.size, sides_size c.args.rims.now) in
    let next = other_reaches mesh c.args.rims.now c.law_of_border.ensures.paired c.requires.rims c.requires.reaches few first c.corners-head.result.1 c.least-first.ensures.0 (inr head) lt c.other_at-side.result c.other_at-side.ensures in
    let side = c.other_at-side.result.0 in
    let copy = c.other_at-side.result.1 in
    let items : c.push.new.self.items ≡ first ∷ [] = search rules in
    record {
      gone = subst (λ xs. IsGone mesh first side copy xs) (sym items)
          (gone_first mesh c.law_of_border.ensures.paired first c.least-first.ensures.0 side copy next.border
          (subst (HasCopy mesh side) head next.at) next.differs next.far (λ e. next.turns (e ∙ sym head)));
      some = let n = ap length items in omega (arith, n);
    }

pub other_at-next-requires : goal.other_at-next-requires
other_at-next-requires c =
    let l = c.loop-first in
    let mesh = c.args.border.now in
    let border = gone_border mesh c.least-first.result l.side l.copy l.round.items l.invariant.gone in
    let lt = copy_in mesh c.law_of_border.ensures.disc.is_mesh l.side l.copy border.0 (gone_leaves mesh c.least-first.result l.side l.copy l.round.items l.invariant.gone) in
    omega (arith, lt, c.requires.rims.size, sides_size c.args.rims.now)

pub loop-first-smaller : goal.loop-first-smaller
loop-first-smaller c =
    let l = c.loop-first in
    let mesh = c.args.border.now in
    let ne : l.side ≢ c.least-first.result = search rules in
    let few = gone_few mesh c.least-first.result l.side l.copy l.round.items l.invariant.gone c.law_of_border.ensures.paired ne in
    let items : c.push-in-loop-first.new.self.items ≡ l.round.items ++ l.side ∷ [] = search rules in
    omega (arith, few, ap length items, length_push l.round.items l.side)

pub loop-first-preserved : goal.loop-first-preserved
loop-first-preserved c =
    let l = c.loop-first in
    let mesh = c.args.border.now in
    let ne : l.side ≢ c.least-first.result = search rules in
    let few = c.law_of_border.ensures.few in
    let border = gone_border mesh c.least-first.result l.side l.copy l.round.items l.invariant.gone in
    let has = gone_leaves mesh c.least-first.result l.side l.copy l.round.items l.invariant.gone in
    let copy_is = copy_in mesh c.law_of_border.ensures.disc.is_mesh l.side l.copy border.0 has in
    let lt : l.copy < length c.args.rims.now = omega (arith, copy_is, c.requires.rims.size, sides_size c.args.rims.now) in
    let next = other_reaches mesh c.args.rims.now c.law_of_border.ensures.paired c.requires.rims c.requires.reaches few l.side l.copy border has lt c.other_at-next.result c.other_at-next.ensures in
    let items : c.push-in-loop-first.new.self.items ≡ l.round.items ++ l.side ∷ [] = search rules in
    record {
      gone = subst (λ xs. IsGone mesh c.least-first.result c.other_at-next.result.0 c.other_at-next.result.1 xs) (sym items)
          (gone_on mesh c.least-first.result l.side l.copy l.round.items l.invariant.gone c.law_of_border.ensures.paired ne
          c.other_at-next.result.0 c.other_at-next.result.1 next.border next.at next.differs next.far next.turns);
      some = omega (arith, ap length items, length_push l.round.items l.side);
    }

pub returns : goal.returns
returns c =
    let l = c.loop-first in
    let mesh = c.args.border.now in
    let is : l.side ≡ c.least-first.result = search rules in
    gone_round mesh c.least-first.result l.side l.copy l.round.items l.invariant.gone c.law_of_border.ensures.paired c.law_of_border.ensures.disc
    c.least-first.ensures.1 l.invariant.some is
