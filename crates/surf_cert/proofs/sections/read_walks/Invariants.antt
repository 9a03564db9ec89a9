use Rattle.surf_cert.proofs.Common.{◌≡◌, ◌-◌, cycle_of, rows_of}
use Rattle.surf_cert.proofs.RowLines.{with_rows, push_one}
use Rattle.surf_cert.proofs.sections.read_walks.Given as goal

abbrev pub invariant-loop : goal.invariant-loop
invariant-loop l = with_rows push_one l.walks.items (rows_of cycle_of (l.count - l.counter) l.lines) ≡ rows_of cycle_of l.count l.fn.lines
