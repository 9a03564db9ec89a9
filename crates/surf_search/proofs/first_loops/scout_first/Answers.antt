use Rattle.surf_search.proofs.Common.{◌<◌, ◌+◌, ◌*◌, ◌-◌, ◌/◌, ℕ, Option, Some, sym, subst, arith, Candidate, SurfaceTables, IsFirstAt, AreMarkedNear, StaysFirst}
use Rattle.surf_search.proofs.NearFirst.{first_scouted}
use Rattle.surf_finder.proofs.PassedOver.{base_marked}
use Rattle.surf_search.proofs.first_loops.scout_first.Goals as goal

pub returns-clause-first : goal.returns-clause-first
returns-clause-first c =
    let f = c.args.finder.now in
    let z = c.args.base in
    let least = c.in-Some.least in
    let next = c.in-Some-2.next in
    let far : ℕ = (next.length - least.length - 1) / 2 in
    let new = c.mark_near.new.marks in
    let at : IsFirstAt f c.args.wide.now z (Some next) =
    subst (λ (o : Option Candidate). IsFirstAt f c.args.wide.now z o) c.in-Some-2.is c.in_ok-next.ensures.first in
    let marked : AreMarkedNear f.mesh f.lengths z far c.args.marks.now new =
    subst (λ (g : SurfaceTables). AreMarkedNear g.mesh g.lengths z far c.args.marks.now new) c.first_loop.ensures.same c.mark_near.ensures.near in
    let less : least.length + 2 * far < next.length = omega (arith, c.if-next-least.false) in
    subst (λ (o : Option Candidate). StaysFirst f c.args.marks.now new o) (sym c.in-Some.is)
    (first_scouted f c.args.wide.now least next c.args.marks.now new z far c.law_of_finder.ensures.surface c.law_of_finder.ensures.positive
    c.requires.base at less marked)

pub returns-clause-marked : goal.returns-clause-marked
returns-clause-marked c = λ told.
    let f = c.args.finder.now in
    let z = c.args.base in
    let far : ℕ = (c.in-Some-2.next.length - c.in-Some.least.length - 1) / 2 in
    let marked : AreMarkedNear f.mesh f.lengths z far c.args.marks.now c.mark_near.new.marks =
    subst (λ (g : SurfaceTables). AreMarkedNear g.mesh g.lengths z far c.args.marks.now c.mark_near.new.marks) c.first_loop.ensures.same
    c.mark_near.ensures.near in
    base_marked f c.args.marks.now c.mark_near.new.marks z far c.law_of_finder.ensures.surface c.law_of_finder.ensures.positive
    c.requires.base marked
