use Rattle.surf_answers.proofs.Common.{◌<◌, ◌∙◌, List, map, ap, subst, sym, sum, some_vertex}
use Rattle.surf_loops.specs.Loops.{with_cotree, IsGreedy, trees_of}
use Rattle.surf_loops.specs.declared.head.LoopHead.{LoopHead}
use Rattle.surf_finding.proofs.HeadLaws.{heads_total}
use Rattle.surf_finding.proofs.summary.loops_total.Goals as goal

pub find-requires-clause-base : goal.find-requires-clause-base
find-requires-clause-base c = subst (λ n. n < c.args.mesh.now.vertices) (sym c.new.ensures) (some_vertex c.args.mesh.now c.law_of_surface.ensures.surface)

pub returns : goal.returns
returns c =
    let mesh = c.args.mesh.now in
    let lengths = c.args.lengths.now in
    let g = c.in_ok-found.ensures.greedy in
    let t = with_cotree c.in_ok-found.found g.cotree in
    let greedy : IsGreedy mesh lengths 0 t = subst (λ x. IsGreedy mesh lengths x t) c.new.ensures g.greedy in
    record {
      found = record { trees = trees_of t; chosen = greedy.chosen; least = greedy.least };
      is = c.total_of.ensures ∙ ap (λ (heads : List LoopHead). sum (map (λ h. h.length) heads)) c.heads.ensures.heads ∙ heads_total mesh lengths 0 t greedy;
    }
