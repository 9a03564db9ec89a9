use Rattle.surf_cert.proofs.Common.{◌≡◌, ◌-◌, dual_row, rows_of, more_faces}
use Rattle.surf_cert.proofs.RowLines.{with_rows, push_face}
use Rattle.surf_cert.proofs.sections.read_more_faces.Given as goal

abbrev pub invariant-loop : goal.invariant-loop
invariant-loop l = with_rows push_face (record { depth = l.depth.items; side = l.side.items }) (rows_of dual_row (l.faces - l.counter) l.lines) ≡ more_faces (record { depth = l.fn.depth.items; side = l.fn.side.items }) l.faces l.fn.lines
