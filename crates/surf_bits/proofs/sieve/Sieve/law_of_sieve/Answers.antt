use Rattle.std.proofs.Common.{◌≡◌, ◌≤◌, sym, ap, ◌∙◌, length, arith, subst}
use Rattle.surf_bits.proofs.Rows.{rows_few, originals-length}
use Rattle.surf_bits.proofs.sieve.Sieve.law_of_sieve.Goals as goal

pub returns : goal.returns
returns c =
    let kept = c.self.inside in
    let few = rows_few kept.width kept.stride kept.pivots.items kept.reduced.items kept.originals.items c.self.invariant.0 in
    let count : length kept.pivots.items ≡ length c.args.self.now.admitted =
    sym (originals-length kept.stride kept.pivots.items kept.reduced.items kept.originals.items) ∙ ap (λ s. length s.admitted) c.self.view_is in
    let most : length c.args.self.now.admitted ≤ kept.width = omega (arith, few, count) in
    record { few = subst (λ s. length c.args.self.now.admitted ≤ s.width) c.self.view_is most }
