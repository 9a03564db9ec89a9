use Rattle.surf_surfaces.proofs.Common.{◌≡◌, length, arith, subst}
use Rattle.surf_sheetcheck.specs.Tables.{AreLabelsUpTo}
use Rattle.surf_sheetcheck.proofs.LabelLaws.{labels_begin}
use Rattle.surf_sheetcheck.proofs.Listing.{in_all}
use Rattle.surf_sheetcheck.proofs.labelling.label_others.Goals as goal

pub loop-place-init : goal.loop-place-init
loop-place-init c =
    let mesh = c.args.case.now.mesh.now in
    labels_begin mesh c.args.case.now.lengths.now c.args.case.now.cert.now c.args.task.now.part.items c.args.task.now.limit c.args.distance.now
    c.args.order.now c.requires.settled c.args.labels.now (in_all mesh.vertices c.args.task.now.part.items c.requires.task.inside) c.requires.labels

pub returns : goal.returns
returns c =
    let end : c.loop-place.place ≡ length c.args.order.now = omega (arith, c.loop-place-test.false, c.loop-place.auto.place-end) in
    record {
      labels = subst (λ n. AreLabelsUpTo c.args.case.now.mesh.now c.args.case.now.lengths.now c.args.case.now.cert.now
          c.args.task.now.part.items c.args.task.now.limit c.args.distance.now c.args.order.now n c.loop-place.labels) end c.loop-place.invariant;
    }
