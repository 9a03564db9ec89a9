use Rattle.std.proofs.Common.{◌≡◌}
use Rattle.surf_text.specs.Pages.{grown}
use Rattle.surf_texts.specs.TreeTexts.{tables_text}
use Rattle.surf_texts.proofs.distances.put_distances.Given as goal

abbrev pub invariant-loop-v : goal.invariant-loop-v
invariant-loop-v l = l.page ≡ grown l.initial.page (tables_text l.tree l.v)
