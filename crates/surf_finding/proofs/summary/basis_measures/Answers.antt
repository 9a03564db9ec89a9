use Rattle.surf_answers.proofs.Common.{◌≡◌, ◌∙◌, List, [], ◌∷◌, map, ap, refl, sym, Option, Some, subst, sum, IfSome}
use Rattle.surf_basis.specs.Cycles.{first_of, as_loops, IsFirstCandidate, IsShortestCycle}
use Rattle.surf_basis.specs.declared.cycle.Cycle.{Cycle}
use Rattle.std.specs.Prelude.{slice_get}
use Rattle.surf_finding.proofs.CycleLaws.{as_long}
use Rattle.surf_finding.proofs.SummaryLaws.{totals_so, measures_so}
use Rattle.surf_finding.proofs.summary.basis_measures.Goals as goal

pub returns-clause-total : goal.returns-clause-total
returns-clause-total c =
    let cycles = c.in_ok-basis.basis.items in
    totals_so c.args.mesh.now c.args.lengths.now c.law_of_surface.ensures.surface c.law_of_lengths.ensures.lengths c.requires.lengths
    (as_loops cycles) c.total_of-total.result c.in_ok-basis.ensures.chosen c.in_ok-basis.ensures.least
    (c.total_of-total.ensures ∙ ap (λ (cs : List Cycle). sum (map (λ x. x.length) cs)) c.deref.ensures.value ∙ sym (ap sum (as_long cycles)))

first_got : (cycles : List Cycle) → first_of cycles ≡ slice_get cycles 0
first_got [] = refl
first_got (c ∷ cs) = refl

pub returns-clause-cycle : goal.returns-clause-cycle
returns-clause-cycle c =
    let mesh = c.args.mesh.now in
    let lengths = c.args.lengths.now in
    let cycle = c.in-Some.cycle.now in
    let found : first_of c.in_ok-basis.basis.items ≡ Some cycle =
    first_got c.in_ok-basis.basis.items ∙ ap (λ (cs : List Cycle). slice_get cs 0) (sym c.deref-2.ensures.value) ∙ sym c.in-Some.ensures.value in
    measures_so mesh lengths c.law_of_surface.ensures.surface c.law_of_lengths.ensures.lengths c.requires.lengths cycle
    (subst (λ (first : Option Cycle). IsFirstCandidate mesh lengths first) found c.in_ok-basis.ensures.first)
    (subst (λ (first : Option Cycle). IfSome first (λ x. IsShortestCycle mesh lengths x)) found c.in_ok-basis.ensures.shortest)
