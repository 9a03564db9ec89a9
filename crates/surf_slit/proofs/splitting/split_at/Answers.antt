use Rattle.std.proofs.Common.{arith}
use Rattle.surf_slit.proofs.Steps.{labels_few}
use Rattle.surf_slit.proofs.VertexLabels.{ring_few, none_more, agree_now, numbers_now}
use Rattle.surf_slit.proofs.splitting.split_at.Goals as goal

pub next_cut-requires-clause-few : goal.next_cut-requires-clause-few
next_cut-requires-clause-few c = omega (arith, ring_few c.round.ensures.ring, c.round.ensures.between.size, c.law_of_surface.ensures.few)

pub relabel-requires-clause-few : goal.relabel-requires-clause-few
relabel-requires-clause-few c = omega (arith, ring_few c.round.ensures.ring, c.law_of_surface.ensures.few)

pub overflow_add-result : goal.overflow_add-result
overflow_add-result c = omega (arith, labels_few c.args.mesh.now c.args.labels.now c.args.count c.requires.numbers.used, c.law_of_surface.ensures.few)

pub returns-in-None-clause-agree : goal.returns-in-None-clause-agree
returns-in-None-clause-agree c =
    let r = c.round.ensures in
    none_more c.law_of_surface.ensures.surface r.ring r.edges r.between c.args.cut.now c.args.e c.place_of-from.result c.requires.flags c.requires.edge c.requires.is_cut c.place_of-from.ensures.within c.place_of-from.ensures.found
    c.args.labels.now c.args.count c.requires.numbers c.requires.agree c.in-None.ensures

pub returns-in-Some-clause-numbers : goal.returns-in-Some-clause-numbers
returns-in-Some-clause-numbers c =
    let r = c.round.ensures in
    numbers_now c.law_of_surface.ensures.surface r.ring r.edges r.between c.args.cut.now c.args.e c.place_of-from.result c.requires.flags c.requires.edge c.requires.is_cut c.place_of-from.ensures.within c.place_of-from.ensures.found
    c.args.labels.now c.args.count c.requires.numbers c.requires.agree c.in-Some.steps c.in-Some.ensures c.relabel.new.labels c.relabel.ensures.split c.relabel.ensures.kept c.relabel.auto.labels

pub returns-in-Some-clause-agree : goal.returns-in-Some-clause-agree
returns-in-Some-clause-agree c =
    let r = c.round.ensures in
    agree_now c.law_of_surface.ensures.surface r.ring r.edges r.between c.args.cut.now c.args.e c.place_of-from.result c.requires.flags c.requires.edge c.requires.is_cut c.place_of-from.ensures.within c.place_of-from.ensures.found
    c.args.labels.now c.args.count c.requires.numbers c.requires.agree c.in-Some.steps c.in-Some.ensures c.relabel.new.labels c.relabel.ensures.split c.relabel.ensures.kept c.relabel.auto.labels
