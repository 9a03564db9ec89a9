use Rattle.surf_slit.proofs.Common.{◌≡◌, max, length, arith, count_below, count_few, cut_behind}
use Rattle.surf_slit.proofs.VertexLabels.{ring_few, labelled}
use Rattle.surf_slit.proofs.labelling.label_vertex.Goals as goal

pub count_cut-cuts-requires-clause-few : goal.count_cut-cuts-requires-clause-few
count_cut-cuts-requires-clause-few c = omega (arith, ring_few c.round.ensures.ring, c.round.ensures.between.size, c.law_of_surface.ensures.few)

pub label_runs-requires-clause-few : goal.label_runs-requires-clause-few
label_runs-requires-clause-few c = omega (arith, ring_few c.round.ensures.ring, c.law_of_surface.ensures.few)

pub returns-then-cuts-eq0-clause-labelled : goal.returns-then-cuts-eq0-clause-labelled
returns-then-cuts-eq0-clause-labelled c =
    let r = c.round.ensures in
    let edges = c.round.result.1.now in
    let n = count_below (length edges) (cut_behind edges c.args.cut.now) in
    let one : 1 ≡ max 1 n = omega (arith, c.count_cut-cuts.ensures, c.if-cuts-eq0.true) in
    labelled c.law_of_surface.ensures.surface r.ring r.edges r.between c.args.cut.now c.label_runs.new.labels c.args.first 1 one c.label_runs.ensures.runs

pub returns-else-cuts-eq0-clause-few : goal.returns-else-cuts-eq0-clause-few
returns-else-cuts-eq0-clause-few c =
    let edges = c.round.result.1.now in
    omega (arith, c.count_cut-cuts.ensures, count_few (cut_behind edges c.args.cut.now) (length edges), ring_few c.round.ensures.ring, c.round.ensures.between.size, c.law_of_surface.ensures.few)

pub returns-else-cuts-eq0-clause-labelled : goal.returns-else-cuts-eq0-clause-labelled
returns-else-cuts-eq0-clause-labelled c =
    let r = c.round.ensures in
    let edges = c.round.result.1.now in
    let n = count_below (length edges) (cut_behind edges c.args.cut.now) in
    let cuts = c.count_cut-cuts.result in
    let many : cuts ≡ max 1 n = omega (arith, c.count_cut-cuts.ensures, c.if-cuts-eq0.false) in
    labelled c.law_of_surface.ensures.surface r.ring r.edges r.between c.args.cut.now c.label_runs.new.labels c.args.first cuts many c.label_runs.ensures.runs
