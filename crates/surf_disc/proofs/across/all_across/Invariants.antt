use Rattle.surf_disc.specs.Across.{AreAcrossUpTo}
use Rattle.surf_disc.proofs.across.all_across.Given as goal

abbrev pub invariant-loop-s : goal.invariant-loop-s
invariant-loop-s l = AreAcrossUpTo l.tabled.soup.now l.s l.across.items
