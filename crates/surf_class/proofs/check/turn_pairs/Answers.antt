use Rattle.surf_surfaces.proofs.Common.{◌≡◌, ◌<◌, ℕ, List, All, length, get_or, false, map, ap, sym, ◌∙◌, arith, subst, Contains, get_or_default, xor, odd, edges, borders, edge_number}
use Rattle.surf_treecheck.proofs.Steps.{take_whole}
use Rattle.surf_class.proofs.StepEdges.{odd_next, xor_chain}
use Rattle.surf_class.proofs.check.turn_pairs.Goals as goal

pub pair_edge-requires-clause-edge : goal.pair_edge-requires-clause-edge
pair_edge-requires-clause-edge c =
    subst (λ (p : ℕ × ℕ). Contains (edges c.args.mesh.now) p) (sym c.index-pairs-i.is)
    (subst (λ (xs : List (ℕ × ℕ)). All (Contains (edges c.args.mesh.now)) xs) (sym c.pairs-pairs.ensures.list) c.requires.edges
    c.loop-i.i c.index-pairs-i.result c.loop-i-test.true)

pub pair_edge-requires-clause-ordered : goal.pair_edge-requires-clause-ordered
pair_edge-requires-clause-ordered c =
    subst (λ (p : ℕ × ℕ). p.0 < p.1) (sym c.index-pairs-i.is)
    (subst (λ (xs : List (ℕ × ℕ)). All (λ a. a.0 < a.1) xs) (sym c.pairs-pairs.ensures.list) c.pairs-pairs.ensures.ordered
    c.loop-i.i c.index-pairs-i.result c.loop-i-test.true)

pub loop-i-preserved : goal.loop-i-preserved
loop-i-preserved c =
    let mesh = c.args.mesh.now in
    let ps = c.pairs-pairs.result.now in
    let i = c.loop-i.i in
    let edge : c.pair_edge.result ≡ edge_number mesh (get_or ps i (0, 0)) =
    c.pair_edge.ensures.edge ∙ ap (edge_number mesh) (c.index-pairs-i.is ∙ get_or_default ps i c.index-pairs-i.result (0, 0) c.loop-i-test.true) in
    record {
      count = omega (arith, c.loop-i.invariant.count);
      turned = λ f l.
          c.turn_faces.ensures.turned f l
          ∙ ap (λ e. xor (get_or c.loop-i.flags f false) (borders mesh f e)) edge
          ∙ xor_chain _ _ _ _ (c.loop-i.invariant.turned f l)
          ∙ ap (xor (get_or c.args.flags.now f false)) (sym (odd_next (λ p. borders mesh f (edge_number mesh p)) ps i (0, 0) c.loop-i-test.true));
    }

pub returns : goal.returns
returns c =
    let mesh = c.args.mesh.now in
    let ps = c.pairs-pairs.result.now in
    let end : c.loop-i.i ≡ length ps = omega (arith, c.loop-i-test.false, c.loop-i.auto.i-end) in
    record {
      turned = λ f l. c.loop-i.invariant.turned f l
          ∙ ap (λ (xs : List (ℕ × ℕ)). xor (get_or c.args.flags.now f false) (odd (map (λ p. borders mesh f (edge_number mesh p)) xs)))
          (take_whole ps c.loop-i.i end ∙ c.pairs-pairs.ensures.list);
    }
