use Rattle.surf_slit.proofs.Common.{◌∙◌, sym, refl, inl, inr, arith, eqb-true, eqb-false}
use Rattle.surf_cutter.proofs.Trims.{leaf_edge, end_counts, IsCutAt, cut_at, taken_back_at}
use Rattle.surf_cutter.proofs.trimming.take_back.Goals as goal
use Rattle.surf_cutter.proofs.trimming.take_back.Goals.{After-ends-u}

its_cut : (c : After-ends-u) → IsCutAt c.args.mesh.now c.args.cut.now c.args.leaf c.index-edges-first_cut.result c.ends-u.result
its_cut c = cut_at c.law_of_surface.ensures.surface c.ring_edges-edges.ensures.edges c.first_cut.result c.index-edges-first_cut.result c.first_cut.ensures.within c.first_cut.ensures.found c.index-edges-first_cut.is c.ends-u.ensures

pub first_cut-requires-clause-some : goal.first_cut-requires-clause-some
first_cut-requires-clause-some c = leaf_edge c.args.mesh.now c.args.cut.now c.args.leaf c.ring_edges-edges.result.now c.ring_edges-edges.ensures.edges (sym (c.requires.degrees.counted c.args.leaf c.requires.vertex) ∙ c.requires.one)

pub uncount_at-requires-clause-first : goal.uncount_at-requires-clause-first
uncount_at-requires-clause-first c =
    let is = its_cut (goal.at.uncount_at-requires-clause-first c).After-ends-u in
    omega (arith, is.first_in, c.requires.degrees.size)

pub uncount_at-requires-clause-second : goal.uncount_at-requires-clause-second
uncount_at-requires-clause-second c =
    let is = its_cut (goal.at.uncount_at-requires-clause-second c).After-ends-u in
    omega (arith, is.second_in, c.requires.degrees.size)

pub uncount_at-requires-clause-differ : goal.uncount_at-requires-clause-differ
uncount_at-requires-clause-differ c = (its_cut (goal.at.uncount_at-requires-clause-differ c).After-ends-u).differ

pub uncount_at-requires-clause-some_first : goal.uncount_at-requires-clause-some_first
uncount_at-requires-clause-some_first c =
    let is = its_cut (goal.at.uncount_at-requires-clause-some_first c).After-ends-u in
    end_counts c.args.mesh.now c.args.cut.now c.args.degree.now c.index-edges-first_cut.result c.ends-u.result.0 c.requires.degrees is.first_in is.is_edge is.is_cut (inl (sym is.first)) c.requires.degrees.flags

pub uncount_at-requires-clause-some_second : goal.uncount_at-requires-clause-some_second
uncount_at-requires-clause-some_second c =
    let is = its_cut (goal.at.uncount_at-requires-clause-some_second c).After-ends-u in
    end_counts c.args.mesh.now c.args.cut.now c.args.degree.now c.index-edges-first_cut.result c.ends-u.result.1 c.requires.degrees is.second_in is.is_edge is.is_cut (inr (sym is.second)) c.requires.degrees.flags

pub returns-then-eq : goal.returns-then-eq
returns-then-eq c =
    let is = its_cut (goal.at.returns-then-eq c).After-ends-u in
    taken_back_at c.law_of_surface.ensures.surface c.requires.degrees c.requires.degrees.flags is c.index.ensures c.uncount_at.new.degree c.ends-u.result.1 c.requires.one c.uncount_at.auto.degree c.uncount_at.ensures.first c.uncount_at.ensures.second c.uncount_at.ensures.others (inl (eqb-true c.ends-u.result.0 c.args.leaf (sym c.eq.ensures ∙ c.if-eq.true), refl))

pub returns-else-eq : goal.returns-else-eq
returns-else-eq c =
    let is = its_cut (goal.at.returns-else-eq c).After-ends-u in
    taken_back_at c.law_of_surface.ensures.surface c.requires.degrees c.requires.degrees.flags is c.index.ensures c.uncount_at.new.degree c.ends-u.result.0 c.requires.one c.uncount_at.auto.degree c.uncount_at.ensures.first c.uncount_at.ensures.second c.uncount_at.ensures.others (inr (is.other (eqb-false c.ends-u.result.0 c.args.leaf (sym c.eq.ensures ∙ c.if-eq.false)), refl))
