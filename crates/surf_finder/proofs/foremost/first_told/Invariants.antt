use Rattle.surf_finder.specs.Found.{reached_at, IsFirstTold}
use Rattle.surf_finder.proofs.foremost.first_told.Given as goal

abbrev pub invariant-loop-v : goal.invariant-loop-v
invariant-loop-v l = IsFirstTold (reached_at l.reached) l.limit l.v-index l.first
