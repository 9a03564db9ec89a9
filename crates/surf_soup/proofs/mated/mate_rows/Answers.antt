use Rattle.std.proofs.Common.{ℕ, subst, arith}
use Rattle.surf_soup.specs.Pairing.{AreMated}
use Rattle.surf_soup.proofs.ListSteps.{rows_end}
use Rattle.surf_soup.proofs.mated.mate_rows.Goals as goal

pub returns : goal.returns
returns c =
    let P : ℕ → Type 0 = λ k. AreMated c.args.entries.now.mesh k c.loop-v.mates in
    subst P (rows_end c.law_of_entries.ensures.entries (omega (arith, c.loop-v-test.false, c.vertices-v-end.ensures)))
    c.loop-v.invariant
