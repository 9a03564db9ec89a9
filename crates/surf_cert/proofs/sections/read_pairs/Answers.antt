use Rattle.surf_cert.proofs.Common.{arith, ◌-◌, ◌≡◌, None, err_from_is_err_and, pairs_of}
use Rattle.surf_cert.proofs.RowLines.{list_start, pair_more, pair_bad, pairs_done}
use Rattle.surf_cert.proofs.sections.read_pairs.Goals as goal

pub loop-init : goal.loop-init
loop-init c =
    let all : c.args.count - 0 ≡ c.args.count = omega arith in
    rw (c.new-pairs.ensures.items, all) (list_start (pairs_of None c.args.count c.args.lines.now))

pub returns-in_err-u : goal.returns-in_err-u
returns-in_err-u c =
    let p = err_from_is_err_and c.from_residual.result c.from_residual.ensures.1 in
    rw (p.1, p.2) (record { pairs = λ other. pair_bad c.args.count c.loop.counter c.loop.before c.loop.pairs.items c.loop.lines _ c.loop.invariant c.in_err-u.field-0.0 c.loop-test.true (c.in_err-u.ensures.pair other) })

pub loop-preserved : goal.loop-preserved
loop-preserved c = rw (c.in_ok-push.ensures.items, c.new.ensures, c.new-in-loop.ensures) (pair_more c.args.count c.loop.counter c.loop.before c.loop.pairs.items c.loop.lines _ c.loop.invariant (c.in_ok-u.u, c.in_ok-u.v) c.next_pair.new.lines c.loop-test.true c.in_ok-u.ensures.pair)

pub returns : goal.returns
returns c = record { pairs = pairs_done c.args.count c.loop.counter c.loop.before c.loop.pairs.items c.loop.lines _ c.loop.invariant c.loop-test.false }
