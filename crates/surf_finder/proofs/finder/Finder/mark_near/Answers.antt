use Rattle.surf_finder.proofs.Common.{ℕ, ◌<◌, ◌⊎◌, Contains, All, List, refl, sym, ap, ◌∙◌, subst, IsTrue, get_or_default, Mesh, SurfaceTables, is_marked, AreMarkedNear}
use Rattle.surf_finder.proofs.Numbered.{settled_in}
use Rattle.surf_finder.proofs.Told.{links_positive, near_there}
use Rattle.surf_finder.proofs.PassedOver.{marked_near}
use Rattle.surf_finder.proofs.finder.Finder.mark_near.Goals as goal

pub mark_all-requires-clause-inside : goal.mark_all-requires-clause-inside
mark_all-requires-clause-inside c =
    let inside = c.self.inside in
    let mesh = inside.surface.mesh.now in
    let lengths = inside.links.lengths in
    let z = c.args.base in
    let t = c.grow.new.self in
    let surface = c.law_of_surface.ensures.surface in
    let positive = links_positive mesh inside.links.mesh lengths inside.links.rows c.self.invariant.0 c.law_of_links.ensures.links in
    let z_in : z < mesh.vertices = subst (λ (v : SurfaceTables). z < v.mesh.vertices) (sym c.self.view_is) c.requires.base in
    let near = near_there mesh inside.links.mesh lengths inside.links.lengths z c.args.far c.args.far t c.self.invariant.0 refl
    refl c.grow.ensures.near in
    let all : All (λ v. v < mesh.vertices) t.settled = λ k d l.
    subst (λ n. n < mesh.vertices) (get_or_default t.settled k 0 d l)
    (settled_in mesh lengths surface positive z c.args.far z_in inside.surface.signatures.now t near k l) in
    subst (λ (m : Mesh). All (λ v. v < m.vertices) c.settled.result.now) (sym c.self.invariant.0)
    (subst (All (λ v. v < mesh.vertices)) (sym c.settled.ensures.settled) all)

pub mark_all-requires-clause-marks : goal.mark_all-requires-clause-marks
mark_all-requires-clause-marks c =
    c.requires.marks ∙ ap (λ (v : SurfaceTables). v.mesh.vertices) (sym c.self.view_is)
    ∙ ap (λ (m : Mesh). m.vertices) (sym c.self.invariant.0)

pub returns-clause-near : goal.returns-clause-near
returns-clause-near c =
    let inside = c.self.inside in
    let mesh = inside.surface.mesh.now in
    let lengths = inside.links.lengths in
    let z = c.args.base in
    let t = c.grow.new.self in
    let near = near_there mesh inside.links.mesh lengths inside.links.lengths z c.args.far c.args.far t c.self.invariant.0 refl
    refl c.grow.ensures.near in
    subst (λ (v : SurfaceTables). AreMarkedNear v.mesh v.lengths z c.args.far c.args.marks.now c.mark_all.new.marks) c.self.view_is
    (marked_near mesh lengths z c.args.far t near c.args.marks.now c.mark_all.new.marks
    (subst (λ (xs : List ℕ). (v : ℕ) → IsTrue (is_marked c.mark_all.new.marks v) → IsTrue (is_marked c.args.marks.now v) ⊎ Contains xs v)
    c.settled.ensures.settled c.mark_all.ensures.only)
    (subst (All (λ v. IsTrue (is_marked c.mark_all.new.marks v))) c.settled.ensures.settled c.mark_all.ensures.all))
