use Rattle.std.proofs.Common.{◌≡◌, take}
use Rattle.surf_text.specs.Pages.{grown}
use Rattle.surf_text.specs.Numbers.{numbers_text}
use Rattle.surf_texts.proofs.numbers.put_walk.Given as goal

abbrev pub invariant-loop-v : goal.invariant-loop-v
invariant-loop-v l = l.page ≡ grown l.initial.page (numbers_text (take l.v-index l.walk))
