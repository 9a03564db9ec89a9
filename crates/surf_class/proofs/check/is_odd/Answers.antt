use Rattle.surf_cert.proofs.Common.{◌≡◌, ◌<◌, ℕ, List, All, get_or, false, subst, sym, ap, ◌∙◌, Contains, take, get_or_default, xor, edges, edge_number}
use Rattle.surf_class.proofs.Common.{is_flagged, is_odd_in}
use Rattle.surf_class.proofs.StepEdges.{odd_next, differ_is}
use Rattle.surf_class.proofs.check.is_odd.Goals as goal

pub pair_edge-requires-clause-edge : goal.pair_edge-requires-clause-edge
pair_edge-requires-clause-edge c =
    let mesh = c.args.flagged.now.mesh.now in
    subst (λ (p : ℕ × ℕ). Contains (edges mesh) p) (sym c.index-pairs-i.is)
    (subst (λ (xs : List (ℕ × ℕ)). All (Contains (edges mesh)) xs) (sym c.pairs-pairs.ensures.list) c.requires.edges
    c.loop-i.i c.index-pairs-i.result c.loop-i-test.true)

pub pair_edge-requires-clause-ordered : goal.pair_edge-requires-clause-ordered
pair_edge-requires-clause-ordered c =
    subst (λ (p : ℕ × ℕ). p.0 < p.1) (sym c.index-pairs-i.is)
    (subst (λ (xs : List (ℕ × ℕ)). All (λ a. a.0 < a.1) xs) (sym c.pairs-pairs.ensures.list) c.pairs-pairs.ensures.ordered
    c.loop-i.i c.index-pairs-i.result c.loop-i-test.true)

pub loop-i-preserved : goal.loop-i-preserved
loop-i-preserved c =
    let mesh = c.args.flagged.now.mesh.now in
    let ps = c.pairs-pairs.result.now in
    let i = c.loop-i.i in
    let flags = c.args.flagged.now.flags.now in
    let edge : c.index.result ≡ edge_number mesh (get_or ps i (0, 0)) =
    c.index.ensures ∙ c.pair_edge.ensures.edge
    ∙ ap (edge_number mesh) (c.index-pairs-i.is ∙ get_or_default ps i c.index-pairs-i.result (0, 0) c.loop-i-test.true) in
    differ_is c.loop-i.odd (get_or flags c.index.result false)
    ∙ ap (λ b. xor b (get_or flags c.index.result false)) c.loop-i.invariant
    ∙ ap (λ e. xor (is_odd_in mesh (is_flagged flags) (take i ps)) (get_or flags e false)) edge
    ∙ sym (odd_next (λ p. is_flagged flags (edge_number mesh p)) ps i (0, 0) c.loop-i-test.true)
