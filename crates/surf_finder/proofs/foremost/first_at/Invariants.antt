use Rattle.surf_finder.proofs.Common.{◌≡◌, ◌≤◌, All, List, Signed, slice_index, reached_at, IsTold, first_from}
use Rattle.surf_finder.proofs.Firsts.{IsFirstListedTo}
use Rattle.surf_finder.proofs.foremost.first_at.Given as goal

abbrev pub invariant-loop-e : goal.invariant-loop-e
invariant-loop-e l = record {
  from : slice_index l.reached.rises.now l.fn.v ≤ l.e;
  to : (old : List Signed) → All (IsTold (reached_at l.reached) l.limit) old → l.fn.before ≡ first_from l.limit old →
      IsFirstListedTo (reached_at l.reached) l.limit (slice_index l.reached.rises.now l.fn.v) old l.e l.first;
}
