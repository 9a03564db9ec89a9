use Rattle.surf_cert.proofs.Common.{◌≡◌, ◌-◌, ◌∷◌, ◌++◌, [], ℕ, List, refl, arith, drop, length, length-append, err_from_is_err_and}
use Rattle.surf_sheetcert.proofs.EdgeLines.{tables_start, edge_more, edge_bad, edges_done}
use Rattle.surf_sheetcert.proofs.cocycles.read_edges.Goals as goal

pub loop-init : goal.loop-init
loop-init c =
    let all : c.args.count - 0 ≡ c.args.count = omega arith in
    rw (c.new-edges.ensures.items, c.new-table.ensures, all) (tables_start c.args.k c.args.count c.args.lines.now, refl)

pub returns-in_err-u-clause-tables : goal.returns-in_err-u-clause-tables
returns-in_err-u-clause-tables c =
    let p = err_from_is_err_and c.from_residual.result c.from_residual.ensures.1 in
    rw (p.1, p.2) (λ other. edge_bad c.args.k c.args.count c.loop.counter c.loop.before (c.loop.edges.items, c.loop.table) c.loop.lines _ c.loop.invariant.0
    c.in_err-u.field-0.0 c.loop-test.true (c.in_err-u.ensures.edge other))

pub loop-preserved : goal.loop-preserved
loop-preserved c =
    let edge : ℕ × ℕ = (c.in_ok-u.u, c.in_ok-u.v) in
    let row : List ℕ = drop 2 c.in_ok-u.numbers.items in
    let more = edge_more c.args.k c.args.count c.loop.counter c.loop.before (c.loop.edges.items, c.loop.table) c.loop.lines _ c.loop.invariant.0
    (edge, row) c.next_edge.new.lines c.loop-test.true c.in_ok-u.ensures.edge in
    let a = length-append c.loop.table (row ∷ []) in
    let b = length-append c.loop.edges.items (edge ∷ []) in
    let same : length (c.loop.table ++ row ∷ []) ≡ length (c.loop.edges.items ++ edge ∷ []) = omega (arith, a, b, c.loop.invariant.1) in
    rw (c.in_ok-push.ensures.items, c.in_ok-push_row.ensures.ok, c.deref.ensures.value, c.new.ensures, c.new-in-loop.ensures) (more, same)

pub returns-clause-tables : goal.returns-clause-tables
returns-clause-tables c = edges_done c.args.k c.args.count c.loop.counter c.loop.before (c.loop.edges.items, c.loop.table) c.loop.lines _ c.loop.invariant.0 c.loop-test.false
