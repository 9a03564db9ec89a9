use Rattle.surf_slit.proofs.Common.{◌≡◌, ◌∙◌, arith, IsLabelledAt}
use Rattle.surf_slit.proofs.VertexLabels.{below_few, labelled_more, labelled_all}
use Rattle.surf_slit.proofs.slit.label_all.Goals as goal

pub label_vertex-count-requires-clause-first : goal.label_vertex-count-requires-clause-first
label_vertex-count-requires-clause-first c = below_few c.loop-v.invariant

pub overflow_add-count : goal.overflow_add-count
overflow_add-count c = omega (arith, below_few c.loop-v.invariant, c.label_vertex-count.ensures.few, c.law_of_surface.ensures.few)

pub loop-v-preserved : goal.loop-v-preserved
loop-v-preserved c =
    let own : c.new.result ≡ c.loop-v.v = c.new.ensures in
    let at : IsLabelledAt c.args.mesh.now c.args.cut.now c.label_vertex-count.new.labels c.loop-v.v c.loop-v.count c.label_vertex-count.result = rw own at c.label_vertex-count.ensures.labelled in
    labelled_more c.loop-v.invariant (c.label_vertex-count.auto.labels ∙ c.loop-v.invariant.size) at (λ s h ne. c.label_vertex-count.ensures.others s h (λ e. ne (e ∙ own)))

pub returns : goal.returns
returns c =
    let all : c.loop-v.v ≡ c.args.mesh.now.vertices = omega (arith, c.vertices-v-end.ensures.count) in
    labelled_all c.law_of_surface.ensures.surface all c.loop-v.invariant
