use Rattle.surf_cert.proofs.Common.{◌≡◌, ◌-◌, None, pairs_of}
use Rattle.surf_cert.proofs.RowLines.{with_rows, push_one}
use Rattle.surf_cert.proofs.sections.read_pairs.Given as goal

abbrev pub invariant-loop : goal.invariant-loop
invariant-loop l = with_rows push_one l.pairs.items (pairs_of l.before (l.count - l.counter) l.lines) ≡ pairs_of None l.count l.fn.lines
