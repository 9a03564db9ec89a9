use Rattle.surf_finder.proofs.Common.{◌≡◌, ◌<◌, ◌+◌, ◌/◌, [], length, get_or, get_or_default, eq-eqb, false≢true, List, ℕ, refl, sym, ap, ◌∙◌, subst, arith, on_ok_weaker, IsNear, SurfaceTables, AreWritten, AreWrittenTo, IsMeasured}
use Rattle.surf_finder.proofs.Told.{links_positive}
use Rattle.surf_finder.proofs.Walked.{ends_reached, reached_there, written_from, written_there}
use Rattle.surf_finder.proofs.finder.Finder.write_from.Goals as goal

pub write_walks-requires-clause-base : goal.write_walks-requires-clause-base
write_walks-requires-clause-base c =
    let mesh = c.self.inside.surface.mesh.now in
    let lengths = c.self.inside.links.lengths in
    let s = get_or c.args.kept.now c.args.k c.index-kept-k.result in
    let base = (get_or c.args.kept.now c.args.k c.index-kept-k.result).candidate.base in
    let r = reached_there mesh c.self.inside.links.mesh lengths base (c.greatest_at-far.result / 2) c.grow.new.self.desk c.self.invariant.0 c.grow.ensures.reached in
    let measured : IsMeasured mesh lengths s.candidate =
    subst (λ (v : SurfaceTables). IsMeasured v.mesh v.lengths s.candidate) (sym c.self.view_is)
    (c.requires.measured c.args.k c.index-kept-k.result c.requires.place) in
    subst (λ n. n < mesh.vertices) (sym r.near.base_is) measured.base_in

pub write_walks-requires-clause-reached : goal.write_walks-requires-clause-reached
write_walks-requires-clause-reached c =
    let mesh = c.self.inside.surface.mesh.now in
    let lengths = c.self.inside.links.lengths in
    let t = c.grow.new.self.desk in
    let base = (get_or c.args.kept.now c.args.k c.index-kept-k.result).candidate.base in
    let r = reached_there mesh c.self.inside.links.mesh lengths base (c.greatest_at-far.result / 2) c.grow.new.self.desk c.self.invariant.0 c.grow.ensures.reached in
    record { far = r.went; near = subst (λ b. IsNear mesh lengths b r.went t) (sym r.near.base_is) r.near }

pub write_walks-requires-clause-ends : goal.write_walks-requires-clause-ends
write_walks-requires-clause-ends c = λ j x j_in at.
    let inside = c.self.inside in
    let mesh = inside.surface.mesh.now in
    let lengths = inside.links.lengths in
    let t = c.grow.new.self.desk in
    let base = (get_or c.args.kept.now c.args.k c.index-kept-k.result).candidate.base in
    let r = reached_there mesh c.self.inside.links.mesh lengths base (c.greatest_at-far.result / 2) c.grow.new.self.desk c.self.invariant.0 c.grow.ensures.reached in
    let candidate = (get_or c.args.kept.now j x).candidate in
    let here = at ∙ r.near.base_is in
    let measured : IsMeasured mesh lengths candidate =
    subst (λ (v : SurfaceTables). IsMeasured v.mesh v.lengths candidate) (sym c.self.view_is) (c.requires.measured j x j_in) in
    let positive = links_positive mesh inside.links.mesh lengths inside.links.rows c.self.invariant.0 c.law_of_links.ensures.links in
    ends_reached mesh lengths c.law_of_surface.ensures.surface positive candidate c.greatest_at-far.result r.went t measured
    (c.greatest_at-far.ensures.greatest j x j_in here) r.enough (subst (λ b. IsNear mesh lengths b r.went t) (sym here) r.near)

pub returns-clause-written : goal.returns-clause-written
returns-clause-written c =
    let mesh = c.self.inside.surface.mesh.now in
    let lengths = c.self.inside.links.lengths in
    let kept = c.args.kept.now in
    let k = c.args.k in
    let s = get_or c.args.kept.now c.args.k c.index-kept-k.result in
    let old = c.args.walks.now in
    let new = c.write_walks.new.walks in
    let base = (get_or c.args.kept.now c.args.k c.index-kept-k.result).candidate.base in
    let r = reached_there mesh c.self.inside.links.mesh lengths base (c.greatest_at-far.result / 2) c.grow.new.self.desk c.self.invariant.0 c.grow.ensures.reached in
    let before : AreWrittenTo mesh lengths kept k old =
    subst (λ (v : SurfaceTables). AreWrittenTo v.mesh v.lengths kept k old) (sym c.self.view_is) c.requires.before in
    on_ok_weaker c.write_walks.result
    (λ w. subst (λ (v : SurfaceTables). AreWrittenTo v.mesh v.lengths kept (k + 1) new) c.self.view_is
    (written_from mesh lengths kept s.candidate.base old k s new before
    (subst (λ b. AreWritten mesh lengths kept b (length kept) old new) r.near.base_is w) c.requires.place (get_or_default kept k c.index-kept-k.result s c.requires.place) refl))
    c.write_walks.ensures.written

pub returns-then-not-is_empty-clause-written : goal.returns-then-not-is_empty-clause-written
returns-then-not-is_empty-clause-written c =
    let f = c.args.self.now in
    let walks = c.args.walks.now in
    let k = c.args.k in
    let inside : k < length walks = omega (arith, c.requires.place, c.requires.before.count) in
    written_there f.mesh f.lengths c.args.kept.now k walks c.requires.before
    (λ none.
    let a = c.vertices.ensures in
    let b = c.index-walks-k.is in
    let d = get_or_default walks k c.index-walks-k.result [] inside in
    let empty : c.vertices.result.now ≡ [] = cc in
    false≢true (sym c.if-not-is_empty.true ∙ c.is_empty.ensures ∙ eq-eqb (length c.vertices.result.now) 0 (ap (λ (xs : List ℕ). length xs) empty)))
