use Rattle.std.proofs.Common.{◌≡◌, ◌≤◌, sym, ap, ◌∙◌, length, arith, subst}
use Rattle.surf_bits.proofs.Rows.{rows_few, originals-length}
use Rattle.surf_bits.proofs.sieve.Sieve.rank.Goals as goal

few : (c : goal.After-len) → length c.self.inside.pivots.items ≤ c.self.inside.width
few c = rows_few c.self.inside.width c.self.inside.stride c.self.inside.pivots.items c.self.inside.reduced.items c.self.inside.originals.items c.self.invariant.0

pub overflow_cast-result : goal.overflow_cast-result
overflow_cast-result c = omega (arith, few c, c.len.ensures, c.self.invariant.0.width_most)

pub returns-clause-rank : goal.returns-clause-rank
returns-clause-rank c =
    let e : c.len.result ≡ length c.self.inside.pivots.items = omega (arith, c.len.ensures) in
    e ∙ sym (originals-length c.self.inside.stride c.self.inside.pivots.items c.self.inside.reduced.items c.self.inside.originals.items)
    ∙ ap (λ s. length s.admitted) c.self.view_is

pub returns-clause-most : goal.returns-clause-most
returns-clause-most c =
    let e : c.len.result ≤ c.self.inside.width = omega (arith, few c, c.len.ensures) in
    subst (λ s. c.len.result ≤ s.width) c.self.view_is e
