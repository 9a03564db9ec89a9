use Rattle.surf_cert.proofs.Common.{◌≡◌, ◌-◌, length}
use Rattle.surf_cert.proofs.RowLines.{with_rows}
use Rattle.surf_sheetcert.specs.Grammar.{edges_of, tables_of}
use Rattle.surf_sheetcert.proofs.EdgeLines.{push_edge}
use Rattle.surf_sheetcert.proofs.cocycles.read_edges.Given as goal

abbrev pub invariant-loop : goal.invariant-loop
invariant-loop l =
    (with_rows push_edge (l.edges.items, l.table) (edges_of l.k l.before (l.count - l.counter) l.lines) ≡ tables_of l.k l.count l.fn.lines)
    × (length l.table ≡ length l.edges.items)
