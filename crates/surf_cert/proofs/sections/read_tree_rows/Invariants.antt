use Rattle.surf_cert.proofs.Common.{◌≡◌, ◌-◌, tree_row, rows_of, tree_of}
use Rattle.surf_cert.proofs.RowLines.{with_rows, push_vertex}
use Rattle.surf_cert.proofs.sections.read_tree_rows.Given as goal

abbrev pub invariant-loop : goal.invariant-loop
invariant-loop l = with_rows push_vertex (record { base = l.base; distance = l.distance.items; parent = l.parent.items }) (rows_of tree_row (l.vertices - l.counter) l.lines) ≡ tree_of l.base l.vertices l.fn.lines
