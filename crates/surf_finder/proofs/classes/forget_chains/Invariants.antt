use Rattle.surf_finder.proofs.Common.{◌≡◌, length}
use Rattle.surf_finder.proofs.classes.forget_chains.Given as goal

abbrev pub invariant-loop-member : goal.invariant-loop-member
invariant-loop-member l = record { count : length l.firsts ≡ length l.fn.firsts }
