use Rattle.surf_surfaces.proofs.Common.{◌≡◌, ◌+◌, ◌-◌, ◌<◌, ◌≤◌, ℕ, length, get_or, take, bit_xor, ap, sym, subst, ◌∙◌, arith, sides, face_at, edge_number, first_side}
use Rattle.surf_surfaces.specs.SideNumber.{IsEdgeOf}
use Rattle.surf_surfaces.proofs.meshes.CountLaws.{length-sides}
use Rattle.surf_treecheck.proofs.Steps.{sets_more, take_whole}
use Rattle.surf_sheetcheck.specs.Cocycles.{edge_set, steps_set}
use Rattle.surf_sheetcheck.proofs.Sides.{side_edge}
use Rattle.surf_sheetcheck.proofs.cocycles.face_sum.Goals as goal

pub loop-s-preserved : goal.loop-s-preserved
loop-s-preserved c =
    let mesh = c.args.case.now.mesh.now in
    let cert = c.args.case.now.cert.now in
    let f = c.args.f in
    let ss = sides (face_at mesh f) in
    let s = c.loop-s.s in
    let start = c.side_span-start.result.0 in
    let k : ℕ = s - start in
    let e = c.edge_of.result in
    let low : start ≤ s = c.loop-s.auto.s in
    let size = length-sides (face_at mesh f) in
    let inside : k < length (face_at mesh f) =
    omega (arith, low, c.loop-s-test.true, c.side_span-start.ensures.start, c.side_span-start.ensures.end) in
    let here : k < length ss = omega (arith, inside, size) in
    let number : c.new.result ≡ first_side mesh f + k = c.new.ensures ∙ omega (arith, low, c.side_span-start.ensures.start) in
    let edge : e ≡ edge_number mesh (get_or ss k (0, 0)) =
    side_edge mesh f k e c.requires.face inside (subst (λ n. IsEdgeOf mesh n e) number c.edge_of.ensures) in
    let next : k + 1 ≡ s + 1 - start = omega (arith, low) in
    c.add_set.ensures.added ∙ ap (λ x. bit_xor x (edge_set mesh cert e)) c.loop-s.invariant
    ∙ ap (λ g. bit_xor (steps_set mesh cert (take k ss)) (edge_set mesh cert g)) edge
    ∙ sym (sets_more (λ p. edge_set mesh cert (edge_number mesh p)) ss k (0, 0) here)
    ∙ ap (λ n. steps_set mesh cert (take n ss)) next

pub returns : goal.returns
returns c =
    let mesh = c.args.case.now.mesh.now in
    let cert = c.args.case.now.cert.now in
    let ss = sides (face_at mesh c.args.f) in
    let size = length-sides (face_at mesh c.args.f) in
    let start = c.side_span-start.result.0 in
    let span : start ≤ c.side_span-start.result.1 = omega (arith, c.side_span-start.ensures.start, c.side_span-start.ensures.end) in
    let most = c.loop-s.auto.s-end span in
    let whole : c.loop-s.s - start ≡ length ss =
    omega (arith, c.loop-s-test.false, most, size, c.side_span-start.ensures.start, c.side_span-start.ensures.end) in
    record { sum = c.loop-s.invariant ∙ ap (steps_set mesh cert) (take_whole ss (c.loop-s.s - start) whole) }
