use Rattle.std.proofs.Common.{ℕ, subst, arith}
use Rattle.surf_soup.specs.Pairing.{ArePaired}
use Rattle.surf_soup.proofs.ListSteps.{rows_end}
use Rattle.surf_soup.proofs.pairing.pair_rows.Goals as goal

pub returns : goal.returns
returns c =
    let P : ℕ → Type 0 = λ k. ArePaired c.args.entries.now.mesh k c.loop-v.pairs in
    subst P (rows_end c.law_of_entries.ensures.entries (omega (arith, c.loop-v-test.false, c.vertices-v-end.ensures)))
    c.loop-v.invariant
