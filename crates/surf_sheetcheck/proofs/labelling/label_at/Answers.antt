use Rattle.surf_surfaces.proofs.Common.{◌≡◌, ◌≤◌, ◌+◌, arith, subst, sym, Some, set, bit_xor}
use Rattle.surf_lengths.proofs.Positive.{lengths_positive}
use Rattle.surf_base.specs.Tables.{at, nobody}
use Rattle.surf_sheetcheck.specs.Cocycles.{edge_set}
use Rattle.surf_sheetcheck.specs.Tables.{label_in, AreLabelsUpTo}
use Rattle.surf_sheetcheck.proofs.LabelLaws.{next_label, if_ok}
use Rattle.surf_sheetcheck.proofs.labelling.label_at.Goals as goal

pub label_from-requires-clause-edge : goal.label_from-requires-clause-edge
label_from-requires-clause-edge c =
    let mesh = c.args.case.now.mesh.now in
    let lengths = c.args.case.now.lengths.now in
    let positive = lengths_positive mesh lengths c.law_of_lengths.ensures.lengths c.requires.ready.measured in
    let few : mesh.vertices ≤ nobody = omega (arith, c.law_of_surface.ensures.vertices) in
    (next_label mesh lengths c.args.case.now.cert.now c.args.task.now.part.items c.args.task.now.limit c.args.distance.now c.args.order.now
    c.args.place c.args.labels.now c.parent_of-u.result.0 c.parent_of-u.result.1 c.law_of_surface.ensures.surface positive few c.requires.settled
    c.requires.labels c.requires.place (omega (arith, c.type_inv.distance (at c.args.order.now c.args.place))) c.if-has.ensures.has c.parent_of-u.ensures.least).edge_in

pub label_from-requires-clause-vertex : goal.label_from-requires-clause-vertex
label_from-requires-clause-vertex c =
    let inside = c.requires.settled.inside c.args.place c.requires.place in
    omega (arith, inside, c.requires.labels.room)

pub label_from-requires-clause-other : goal.label_from-requires-clause-other
label_from-requires-clause-other c =
    let mesh = c.args.case.now.mesh.now in
    let lengths = c.args.case.now.lengths.now in
    let positive = lengths_positive mesh lengths c.law_of_lengths.ensures.lengths c.requires.ready.measured in
    let few : mesh.vertices ≤ nobody = omega (arith, c.law_of_surface.ensures.vertices) in
    let next = next_label mesh lengths c.args.case.now.cert.now c.args.task.now.part.items c.args.task.now.limit c.args.distance.now c.args.order.now
    c.args.place c.args.labels.now c.parent_of-u.result.0 c.parent_of-u.result.1 c.law_of_surface.ensures.surface positive few c.requires.settled
    c.requires.labels c.requires.place (omega (arith, c.type_inv.distance (at c.args.order.now c.args.place))) c.if-has.ensures.has c.parent_of-u.ensures.least in
    let inside = next.other_in in
    omega (arith, inside, c.requires.labels.room)

pub label_from-requires-clause-some : goal.label_from-requires-clause-some
label_from-requires-clause-some c =
    let mesh = c.args.case.now.mesh.now in
    let lengths = c.args.case.now.lengths.now in
    let positive = lengths_positive mesh lengths c.law_of_lengths.ensures.lengths c.requires.ready.measured in
    let few : mesh.vertices ≤ nobody = omega (arith, c.law_of_surface.ensures.vertices) in
    (next_label mesh lengths c.args.case.now.cert.now c.args.task.now.part.items c.args.task.now.limit c.args.distance.now c.args.order.now
    c.args.place c.args.labels.now c.parent_of-u.result.0 c.parent_of-u.result.1 c.law_of_surface.ensures.surface positive few c.requires.settled
    c.requires.labels c.requires.place (omega (arith, c.type_inv.distance (at c.args.order.now c.args.place))) c.if-has.ensures.has c.parent_of-u.ensures.least).some

pub returns : goal.returns
returns c =
    let mesh = c.args.case.now.mesh.now in
    let lengths = c.args.case.now.lengths.now in
    let cert = c.args.case.now.cert.now in
    let part = c.args.task.now.part.items in
    let limit = c.args.task.now.limit in
    let dist = c.args.distance.now in
    let order = c.args.order.now in
    let labels = c.args.labels.now in
    let u = c.parent_of-u.result.0 in
    let e = c.parent_of-u.result.1 in
    let positive = lengths_positive mesh lengths c.law_of_lengths.ensures.lengths c.requires.ready.measured in
    let few : mesh.vertices ≤ nobody = omega (arith, c.law_of_surface.ensures.vertices) in
    let next = next_label mesh lengths cert part limit dist order c.args.place labels u e c.law_of_surface.ensures.surface positive few
    c.requires.settled c.requires.labels c.requires.place (omega (arith, c.type_inv.distance (at order c.args.place))) c.if-has.ensures.has
    c.parent_of-u.ensures.least in
    record {
      labels = if_ok c.label_from.result
          (c.label_from.new.labels ≡ set labels (at order c.args.place) (Some (bit_xor (label_in labels u) (edge_set mesh cert e))))
          (AreLabelsUpTo mesh lengths cert part limit dist order (c.args.place + 1) c.label_from.new.labels)
          (λ is. subst (AreLabelsUpTo mesh lengths cert part limit dist order (c.args.place + 1)) (sym is) next.more)
          c.label_from.ensures.label;
    }
