use Rattle.std.proofs.Common.{rules, ◌≡◌, ◌+◌, length, arith}
use Rattle.surf_certcheck.specs.BasisFaults.{IsAlong}
use Rattle.surf_certcheck.proofs.Bases.{holds_more}
use Rattle.surf_treecheck.proofs.Steps.{all_along, one_along}
use Rattle.surf_certcheck.proofs.cycles.is_along_edges.Goals as goal

pub returns-then-not-is_along : goal.returns-then-not-is_along
returns-then-not-is_along c = record {
  along = λ all. c.if-not-is_along.ensures.along
      (one_along c.args.mesh.now c.args.list.now c.loop-i.i (omega (arith, c.loop-i-test.true, c.requires.some)) all);
}

pub returns : goal.returns
returns c =
    let end : c.loop-i.i + 1 ≡ length c.args.list.now = search rules in
    record { along = all_along c.args.mesh.now c.args.list.now c.loop-i.i end c.loop-i.invariant }

pub loop-i-preserved : goal.loop-i-preserved
loop-i-preserved c =
    holds_more c.loop-i.i (IsAlong c.args.mesh.now c.args.list.now) c.loop-i.invariant c.if-not-is_along.ensures.along
