use Rattle.surf_search.proofs.Common.{ℕ, Bool, List, refl, sym, ap, ◌∙◌, subst, IsTrue, Tree, Mesh, with_vertex, shortest_trees, surface_of, SurfaceTables, IsBarring, IsFirstAt, IsFirstOf, is_marked}
use Rattle.surf_search.proofs.Barred.{barring_on}
use Rattle.surf_search.proofs.BarredFirst.{first_behind}
use Rattle.surf_search.proofs.NearFirst.{ahead_first_in}
use Rattle.surf_finder.proofs.PassedOver.{marked_vertex}
use Rattle.surf_search.proofs.FirstFound.{first_fewer}
use Rattle.surf_search.proofs.Rounded.{barring_is}
use Rattle.surf_search.proofs.first_loops.visit_first.Goals as goal

pub returns-then-told-clause-first : goal.returns-then-told-clause-first
returns-then-told-clause-first c =
    let b = c.requires.barring in
    ahead_first_in (surface_of c.args.surface.now) c.args.finder.now c.args.marks.now c.scout_first.new.marks c.args.first.now b.ahead
    b.positive c.scout_first.ensures.first c.requires.first

pub returns-clause-first : goal.returns-clause-first
returns-clause-first c = λ trees chosen d split are.
    let f = surface_of c.args.surface.now in
    let z = c.args.base in
    let marks = c.scout_first.new.marks in
    let scout = c.scout_first.new.finder in
    let next = c.in_ok-next.next in
    let surface = c.law_of_surface.ensures.surface in
    let b = c.requires.barring in
    let searched : ℕ → Tree = λ x. (trees x).tree in
    let shortest = shortest_trees f.mesh f.lengths surface b.positive trees chosen in
    let was = ahead_first_in f c.args.finder.now c.args.marks.now marks c.args.first.now b.ahead b.positive
    c.scout_first.ensures.first c.requires.first in
    let bars : IsBarring f scout marks =
    barring_on f c.args.finder.now c.args.finder.now scout c.args.marks.now marks b refl c.scout_first.ensures.mesh
    c.scout_first.ensures.signs c.scout_first.ensures.given c.scout_first.ensures.count c.scout_first.ensures.stay
    c.scout_first.ensures.off c.scout_first.ensures.no_shorter in
    let at : IsFirstAt (record f { lengths = scout.lengths }) c.args.first.now z next =
    subst (λ (t : SurfaceTables). IsFirstAt t c.args.first.now z next) (barring_is f scout marks bars) c.in_ok-next.ensures.first in
    first_fewer f.mesh f.lengths searched surface b.positive shortest d split (with_vertex z (is_marked marks)) (is_marked c.mark.new.marks)
    next (λ v on. marked_vertex marks z z v refl (subst (λ (ms : List Bool). IsTrue (is_marked ms v)) c.mark.ensures.marks on))
    (first_behind f scout marks z c.args.first.now next surface bars c.requires.base was at trees chosen d split are)
