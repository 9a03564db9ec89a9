use Rattle.surf_cert.proofs.Common.{arith, ◌-◌, ◌≡◌, err_from_is_err_and, trees_of}
use Rattle.surf_cert.proofs.RowLines.{list_start, tree_more, tree_bad, trees_done}
use Rattle.surf_cert.proofs.sections.read_trees.Goals as goal

pub loop-base-init : goal.loop-base-init
loop-base-init c =
    let all : c.args.vertices - 0 ≡ c.args.vertices = omega arith in
    rw (c.new-trees.ensures.items, all) (list_start (trees_of 0 c.args.vertices c.args.vertices c.args.lines.now))

pub returns-in_err-read_tree_at : goal.returns-in_err-read_tree_at
returns-in_err-read_tree_at c =
    let p = err_from_is_err_and c.from_residual.result c.from_residual.ensures.1 in
    rw (p.1, p.2) (record { trees = λ other. tree_bad c.args.vertices c.args.vertices c.loop-base.base c.loop-base.trees.items c.loop-base.lines _ c.loop-base.invariant c.in_err-read_tree_at.field-0.0 c.loop-base-test.true (c.in_err-read_tree_at.ensures.tree other) })

pub loop-base-preserved : goal.loop-base-preserved
loop-base-preserved c = rw c.in_ok-push.ensures.items (tree_more c.args.vertices c.args.vertices c.loop-base.base c.loop-base.trees.items c.loop-base.lines _ c.loop-base.invariant c.in_ok-read_tree_at.field-0 c.read_tree_at.new.lines c.loop-base-test.true c.in_ok-read_tree_at.ensures.tree)

pub returns : goal.returns
returns c = record { trees = trees_done c.args.vertices c.args.vertices c.loop-base.base c.loop-base.trees.items c.loop-base.lines _ c.loop-base.invariant c.loop-base-test.false }
