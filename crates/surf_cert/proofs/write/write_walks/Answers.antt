use Rattle.surf_cert.proofs.Common.{◌<◌, ◌≤◌, ℕ, List, length, get_or, refl, subst, flat_map, err_from_is_err_and, Puts, loop_more, loop_stop, loop_done, cycle_line}
use Rattle.surf_cert.proofs.write.write_walks.Goals as goal

pub returns-in_err-write_cycle : goal.returns-in_err-write_cycle
returns-in_err-write_cycle c =
    let xs = c.args.cycles.now in
    let i = c.loop-cycle.cycle-index in
    let lt : i < length xs = c.loop-cycle-test.true in
    let one : Puts c.loop-cycle.page c.write_cycle.new.page (cycle_line (get_or xs i c.cycle-item.result)) c.write_cycle.result = subst (λ (x : List ℕ). Puts c.loop-cycle.page c.write_cycle.new.page (cycle_line x) c.write_cycle.result) c.cycle-item.is (rw (← c.vertices.ensures) c.write_cycle.ensures.puts) in
    let p = err_from_is_err_and c.from_residual.result c.from_residual.ensures.1 in
    record { puts = loop_stop (flat_map cycle_line) cycle_line refl (λ x xs. refl) xs i c.cycle-item.result lt c.args.page.now c.loop-cycle.page c.write_cycle.new.page (tt {0}) c.loop-cycle.invariant c.write_cycle.result c.in_err-write_cycle.field-0.0 c.from_residual.result c.in_err-write_cycle.was (rw (p.1, p.2) refl) one }

pub loop-cycle-preserved : goal.loop-cycle-preserved
loop-cycle-preserved c =
    let xs = c.args.cycles.now in
    let i = c.loop-cycle.cycle-index in
    let lt : i < length xs = c.loop-cycle-test.true in
    let one : Puts c.loop-cycle.page c.write_cycle.new.page (cycle_line (get_or xs i c.cycle-item.result)) c.write_cycle.result = subst (λ (x : List ℕ). Puts c.loop-cycle.page c.write_cycle.new.page (cycle_line x) c.write_cycle.result) c.cycle-item.is (rw (← c.vertices.ensures) c.write_cycle.ensures.puts) in
    loop_more (flat_map cycle_line) cycle_line refl (λ x xs. refl) xs i c.cycle-item.result lt c.args.page.now c.loop-cycle.page c.write_cycle.new.page (tt {0}) c.loop-cycle.invariant c.write_cycle.result c.in_ok-write_cycle.field-0 c.in_ok-write_cycle.was one

pub returns : goal.returns
returns c =
    let xs = c.args.cycles.now in
    let le : length xs ≤ c.loop-cycle.cycle-index = c.loop-cycle-test.false in
    record { puts = loop_done (flat_map cycle_line) cycle_line refl (λ x xs. refl) xs c.loop-cycle.cycle-index c.args.page.now c.loop-cycle.page (tt {0}) le c.loop-cycle.invariant }
