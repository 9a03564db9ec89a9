use Rattle.surf_surfaces.proofs.Common.{◌≡◌, ◌<◌, length, get_or, false, map, ap, sym, ◌∙◌, arith, eqb, xor, odd, steps, pair_of, pair_eq, ends}
use Rattle.surf_treecheck.proofs.Steps.{count_steps, take_whole}
use Rattle.surf_class.proofs.StepEdges.{test_edge, odd_next, xor_chain}
use Rattle.surf_class.proofs.parity.turn_steps.Goals as goal

pub loop-i-preserved : goal.loop-i-preserved
loop-i-preserved c =
    let mesh = c.args.mesh.now in
    let ss = steps c.args.walk.now in
    let i = c.loop-i.i in
    let size = count_steps c.args.walk.now c.requires.closed.is_walk.begins in
    let here : i < length ss = omega (arith, size, c.loop-i-test.true) in
    record {
      count = omega (arith, c.loop-i.invariant.count);
      turned = λ e l.
          c.turn.ensures.turned e ∙ ap (λ n. xor (get_or c.loop-i.flags e false) (eqb e n)) c.index.ensures
          ∙ ap (xor (get_or c.loop-i.flags e false)) (test_edge mesh _ c.step_edge.result c.step_edge.ensures.inside c.step_edge.ensures.ends e l)
          ∙ xor_chain _ _ _ _ (c.loop-i.invariant.turned e l)
          ∙ ap (xor (get_or c.args.flags.now e false)) (sym (odd_next (λ s. pair_eq (ends mesh e) (pair_of s)) ss i (0, 0) here));
    }

pub returns : goal.returns
returns c =
    let mesh = c.args.mesh.now in
    let ss = steps c.args.walk.now in
    let size = count_steps c.args.walk.now c.requires.closed.is_walk.begins in
    let end : c.loop-i.i ≡ length ss = omega (arith, size, c.loop-i-test.false, c.loop-i.auto.i-end) in
    record {
      turned = λ e l. c.loop-i.invariant.turned e l
          ∙ ap (λ xs. xor (get_or c.args.flags.now e false) (odd (map (λ s. pair_eq (ends mesh e) (pair_of s)) xs)))
          (take_whole ss c.loop-i.i end);
    }
