use Rattle.surf_cotree.proofs.Common.{◌≡◌, ◌<◌, ◌≤◌, ◌-◌, true, arith, dual, face_count, edge_count, cells_of, length-set, nobody, outside}
use Rattle.surf_cotree.proofs.Faces.{graph_is}
use Rattle.surf_cotree.proofs.Leaves.{one_flag_less}
use Rattle.surf_cotree.proofs.Marking.{face_in, edge_in, not_there, marking_begins, marking_goes_on}
use Rattle.surf_cotree.proofs.edges.mark_span.Given.{Over}
use Rattle.surf_cotree.proofs.edges.mark_span.Goals as goal
use Rattle.surf_cotree.proofs.edges.mark_span.Goals.{In-Some}

pub loop-face-init : goal.loop-face-init
loop-face-init gen c =
    let mesh = c.args.mesh.now in
    let few : edge_count mesh ≤ nobody = omega (arith, c.law_of_surface.ensures.edges) in
    marking_begins (dual (cells_of mesh)) (gen.W.Weights.weight c.args.weight.now) (graph_is mesh c.law_of_surface.ensures.surface) few (gen.met.W.Weights.light c.args.weight.now) c.args.marks.now c.args.there.now c.args.heap.now c.offer_neighbours.new.heap
    c.law_of_surface.ensures.surface.some_face c.requires.faces c.requires.none c.requires.empty c.requires.places c.offer_neighbours.ensures.offered

-- what was taken out is a face with an edge
its_face : (gen : Over) (c : In-Some gen) → (c.in-Some.face < face_count c.args.mesh.now) × (nobody - c.in-Some.tie < edge_count c.args.mesh.now) × (outside c.loop-face.there c.in-Some.face ≡ true)
its_face gen c =
    let mesh = c.args.mesh.now in
    let g = dual (cells_of mesh) in
    let weight = gen.W.Weights.weight c.args.weight.now in
    let graph = graph_is mesh c.law_of_surface.ensures.surface in
    let few : edge_count mesh ≤ nobody = omega (arith, c.law_of_surface.ensures.edges) in
    let small : face_count mesh ≤ nobody = omega (arith, c.law_of_surface.ensures.faces) in
    let least = c.in-Some.ensures.taken.0 in (
      face_in g (outside c.args.marks.now) weight graph few (gen.met.W.Weights.light c.args.weight.now) small c.loop-face.marks c.loop-face.there c.loop-face.heap c.loop-face.invariant c.in-Some.face c.in-Some.field-0-1 c.in-Some.tie least,
      edge_in g (outside c.args.marks.now) weight graph few (gen.met.W.Weights.light c.args.weight.now) small c.loop-face.marks c.loop-face.there c.loop-face.heap c.loop-face.invariant c.in-Some.face c.in-Some.field-0-1 c.in-Some.tie least,
      not_there g (outside c.args.marks.now) weight graph few (gen.met.W.Weights.light c.args.weight.now) small c.loop-face.marks c.loop-face.there c.loop-face.heap c.loop-face.invariant c.in-Some.face c.in-Some.field-0-1 c.in-Some.tie least,
    )

pub bounds-marks-tie : goal.bounds-marks-tie
bounds-marks-tie gen c =
    let both = its_face gen (goal.at.bounds-marks-tie gen c).In-Some in
    let l = both.1 in
    omega (arith, l, c.requires.marks, c.loop-face.auto.marks)

pub loop-face-smaller : goal.loop-face-smaller
loop-face-smaller gen c =
    let n = length-set c.args.there.now 0 true in
    let (lf, le, out) = its_face gen (goal.at.loop-face-smaller gen c).In-Some in
    one_flag_less (face_count c.args.mesh.now) c.in-Some.face c.loop-face.there lf (omega (arith, n, lf, c.requires.faces, c.loop-face.auto.there)) out

pub loop-face-preserved : goal.loop-face-preserved
loop-face-preserved gen c =
    let n = length-set c.args.there.now 0 true in
    let mesh = c.args.mesh.now in
    let few : edge_count mesh ≤ nobody = omega (arith, c.law_of_surface.ensures.edges) in
    let small : face_count mesh ≤ nobody = omega (arith, c.law_of_surface.ensures.faces) in
    marking_goes_on (dual (cells_of mesh)) (outside c.args.marks.now) (gen.W.Weights.weight c.args.weight.now) (graph_is mesh c.law_of_surface.ensures.surface) few (gen.met.W.Weights.light c.args.weight.now) small c.loop-face.marks c.loop-face.there c.loop-face.heap c.loop-face.invariant
    c.in-Some.face c.in-Some.field-0-1 c.in-Some.tie c.in-Some.ensures.taken.0 c.take_least.new.self c.offer_neighbours-in-Some.new.heap
    (omega (arith, c.requires.marks, c.loop-face.auto.marks)) (omega (arith, n, c.requires.faces, c.loop-face.auto.there)) c.in-Some.ensures.taken.1 c.offer_neighbours-in-Some.ensures.offered
