use Rattle.surf_search.proofs.Common.{◌≡◌, ◌≢◌, ◌++◌, ◌<◌, ◌≤◌, ◌/◌, ◌^◌, ℕ, All, Bool, List, Option, length, sym, ap, ◌∙◌, subst, arith, ArePositive, IsTrue, Candidate, Signed, limit_of, SurfaceTables, AreFirstFound, surface_of, AreMarkedNear, is_marked, spare_of, AreLongerOr, IsBarring, IsCapped, IsKeptAt, KeepsInRound, AreSigned}
use Rattle.surf_search.proofs.Barred.{barring_on}
use Rattle.surf_finder.specs.declared.told_loops.Ties.TheVariants.{LesserBase}
use Rattle.surf_search.proofs.LeftOut.{first_small, longer_left}
use Rattle.surf_finder.proofs.Marked.{written_back}
use Rattle.surf_finder.proofs.PassedOver.{base_marked}
use Rattle.surf_search.proofs.Rounded.{barring_is, searched_marked, searched_near}
use Rattle.surf_search.proofs.round.search.Goals as goal

pub margin_above-margin-requires : goal.margin_above-margin-requires
margin_above-margin-requires c =
    let r = c.args.round.now in
    let g = c.args.finder.now in
    let at = barring_is (surface_of r.surface.now) g r.marks.items c.requires.barring in
    let width = c.args.choice.now.width in
    let signed = subst (λ (t : SurfaceTables). AreSigned t.mesh t.signs width) (sym at) c.requires.signed in
    let small : All (λ (s : Signed). s.signature < 2 ^ width) c.keep_at.new.found.items =
    first_small LesserBase g.mesh g.lengths c.law_of_finder.ensures.surface c.law_of_finder.ensures.positive g.signs width signed
    c.limit-wide.result c.args.base c.keep_at.new.found.items c.in_ok-keep_at.ensures.found in
    record {
      small = subst (λ (xs : List Signed). All (λ s. s.signature < 2 ^ c.keep_at.new.choice.width) xs) (sym c.deref.ensures.value)
          (subst (λ n. All (λ (s : Signed). s.signature < 2 ^ n) c.keep_at.new.found.items) (sym c.keep_at.ensures.width) small);
    }

pub returns-then-far-eq0-clause-kept : goal.returns-then-far-eq0-clause-kept
returns-then-far-eq0-clause-kept c =
    let r = c.args.round.now in
    let f = surface_of r.surface.now in
    let g = c.args.finder.now in
    let b = c.requires.barring in
    let at = barring_is f g r.marks.items b in
    let old = c.args.choice.now in
    let new = c.keep_at.new.choice in
    let limit = c.capped-limit.result in
    let positive = subst (λ (t : SurfaceTables). ArePositive t.mesh t.lengths) at c.law_of_finder.ensures.positive in
    let capped : IsCapped (limit_of old) c.args.cap limit =
    subst (λ (o : Option Candidate). IsCapped o c.args.cap limit) c.limit.ensures.limit c.capped-limit.ensures.capped in
    let next = subst (λ (t : SurfaceTables). IsKeptAt t c.args.base limit old new) at c.in_ok-keep_at.ensures.kept in
    searched_marked f g.lengths r.marks.items _ r.least c.args.base c.args.cap old new limit c.law_of_surface.ensures.surface
    b.positive positive (omega (arith, c.law_of_surface.ensures.vertices)) (omega (arith, c.law_of_surface.ensures.edges)) b.no_shorter
    b.ahead.off c.requires.base capped next c.bar.ensures.marks

pub returns-else-far-eq0-clause-kept : goal.returns-else-far-eq0-clause-kept
returns-else-far-eq0-clause-kept c =
    let r = c.args.round.now in
    let f = surface_of r.surface.now in
    let g = c.args.finder.now in
    let b = c.requires.barring in
    let at = barring_is f g r.marks.items b in
    let z = c.args.base in
    let old = c.args.choice.now in
    let new = c.keep_at.new.choice in
    let limit = c.capped-limit.result in
    let now = c.capped.result in
    let wide = c.limit-wide.result in
    let found = c.keep_at.new.found.items in
    let margin = c.margin_above-margin.result in
    let less = c.saturating_sub-far.ensures in
    let far = c.saturating_sub-far.result / 2 in
    let some : margin ≢ 0 = λ none. c.if-far-eq0.false (omega (arith, none, less)) in
    let positive = subst (λ (t : SurfaceTables). ArePositive t.mesh t.lengths) at c.law_of_finder.ensures.positive in
    let capped : IsCapped (limit_of old) c.args.cap limit =
    subst (λ (o : Option Candidate). IsCapped o c.args.cap limit) c.limit.ensures.limit c.capped-limit.ensures.capped in
    let capped_now : IsCapped (limit_of new) c.args.cap now =
    subst (λ (o : Option Candidate). IsCapped o c.args.cap now) c.limit-2.ensures.limit c.capped.ensures.capped in
    let next = subst (λ (t : SurfaceTables). IsKeptAt t z limit old new) at c.in_ok-keep_at.ensures.kept in
    let there : AreFirstFound LesserBase f.mesh g.lengths f.signs wide z found =
    subst (λ (t : SurfaceTables). AreFirstFound LesserBase t.mesh t.lengths t.signs wide z found) at c.in_ok-keep_at.ensures.found in
    let within : margin ≤ spare_of now wide = subst (λ n. margin ≤ n) c.spare-spare.ensures.spare c.margin_above-margin.ensures.most in
    let long : AreLongerOr new.kept r.least margin found =
    subst (AreLongerOr new.kept r.least margin) c.deref.ensures.value (c.margin_above-margin.ensures.longer some) in
    let marks = c.mark_near.new.marks in
    let whole = written_back marks _ _ (omega (arith, c.mark_near.ensures.count, c.deref_mut.ensures.len)) in
    let many : length marks ≡ f.mesh.vertices =
    c.mark_near.ensures.count ∙ ap (λ (ms : List Bool). length ms) c.deref_mut.ensures.value ∙ b.count in
    let near : AreMarkedNear f.mesh g.lengths z far r.marks.items marks =
    subst (λ (t : SurfaceTables). AreMarkedNear t.mesh t.lengths z far r.marks.items marks) (c.keep_at.ensures.same ∙ at)
    (subst (λ (ms : List Bool). AreMarkedNear c.keep_at.new.finder.mesh c.keep_at.new.finder.lengths z far ms marks) c.deref_mut.ensures.value
    c.mark_near.ensures.near) in
    subst (λ (ms : List Bool). KeepsInRound f r.least c.args.cap r.marks.items ms old new) (sym whole)
    (searched_near f g.lengths r.marks.items marks r.least z c.args.cap far margin old new limit now wide (there.left ++ found)
    c.law_of_surface.ensures.surface b.positive positive (omega (arith, c.law_of_surface.ensures.vertices))
    (omega (arith, c.law_of_surface.ensures.edges)) b.no_shorter b.ahead.off c.requires.base capped next capped_now there.are
    (omega (arith, some, less)) within (longer_left LesserBase new.kept r.least margin there.left found there.no_later long) many near)

pub returns-else-far-eq0-clause-barring : goal.returns-else-far-eq0-clause-barring
returns-else-far-eq0-clause-barring c =
    let r = c.args.round.now in
    let f = surface_of r.surface.now in
    let b = c.requires.barring in
    let marks = c.mark_near.new.marks in
    let whole = written_back marks _ _ (omega (arith, c.mark_near.ensures.count, c.deref_mut.ensures.len)) in
    subst (λ (ms : List Bool). IsBarring f c.mark_near.new.self ms) (sym whole)
    (barring_on f c.args.finder.now c.keep_at.new.finder c.mark_near.new.self r.marks.items marks b c.keep_at.ensures.same
    c.mark_near.ensures.mesh c.mark_near.ensures.signs c.mark_near.ensures.given
    (c.mark_near.ensures.count ∙ ap (λ (ms : List Bool). length ms) c.deref_mut.ensures.value)
    (subst (λ (ms : List Bool). (v : ℕ) → IsTrue (is_marked ms v) → IsTrue (is_marked marks v)) c.deref_mut.ensures.value
    c.mark_near.ensures.stay) c.mark_near.ensures.off c.mark_near.ensures.no_shorter)

pub returns-else-far-eq0-clause-marked : goal.returns-else-far-eq0-clause-marked
returns-else-far-eq0-clause-marked c =
    let r = c.args.round.now in
    let g = c.args.finder.now in
    let z = c.args.base in
    let far = c.saturating_sub-far.result / 2 in
    let marks = c.mark_near.new.marks in
    let whole = written_back marks _ _ (omega (arith, c.mark_near.ensures.count, c.deref_mut.ensures.len)) in
    let near : AreMarkedNear g.mesh g.lengths z far c.deref_mut.result.now marks =
    subst (λ (t : SurfaceTables). AreMarkedNear t.mesh t.lengths z far c.deref_mut.result.now marks) c.keep_at.ensures.same c.mark_near.ensures.near in
    let z_in : z < g.mesh.vertices = (let same = ap (λ m. m.vertices) c.requires.barring.ahead.mesh in omega (arith, same, c.requires.base)) in
    subst (λ (ms : List Bool). IsTrue (is_marked ms z)) (sym whole)
    (base_marked g c.deref_mut.result.now marks z far c.law_of_finder.ensures.surface c.law_of_finder.ensures.positive z_in near)
