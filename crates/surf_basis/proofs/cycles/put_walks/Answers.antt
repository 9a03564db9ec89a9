use Rattle.surf_basis.proofs.Common.{◌≡◌, ◌-◌, get_or, refl, arith, nat_tests, Candidate}
use Rattle.surf_basis.proofs.Cycled.{last_off, put_more, put_none}
use Rattle.surf_basis.proofs.cycles.put_walks.Goals as goal

pub loop-cycle-init : goal.loop-cycle-init
loop-cycle-init c = record {
  put = put_none c.args.cycles.items c.args.kept.now c.args.walks.now c.requires.none;
  within = omega arith;
  still = λ x has. has;
}

pub loop-cycle-preserved-then-eq : goal.loop-cycle-preserved-then-eq
loop-cycle-preserved-then-eq c =
    let cycle = c.in-Some.cycle in
    let k = c.without_later-left.result - 1 in
    let off = last_off c.loop-cycle.cycles.items c.pop.new.self.items cycle c.in-Some.ensures.items in
    let own : Candidate = (get_or c.args.kept.now k c.index-kept-left.result).candidate in
    let same = c.if-eq.ensures in
    let size : own.length ≡ cycle.length = grind (arith, nat_tests, same) in
    let base : own.base ≡ cycle.base = grind (arith, nat_tests, same) in
    let edge : own.edge ≡ cycle.edge = grind (arith, nat_tests, same) in
    record {
      put = put_more c.args.cycles.items c.args.kept.now k c.index-kept-left.result cycle c.loop-cycle.walks _ c.loop-cycle.invariant.put
          (c.loop-cycle.invariant.still cycle off.1) (omega (arith, c.if-left-gt0.true, c.without_later-left.ensures.within, c.loop-cycle.invariant.within))
          (λ i. record { length = size i; base = base i; edge = edge i }) refl;
      within = omega (arith, c.without_later-left.ensures.within, c.loop-cycle.invariant.within);
      still = λ x has. c.loop-cycle.invariant.still x (off.0 x has);
    }
