use Rattle.surf_finder.proofs.Common.{ℕ, ◌≡◌, ◌<◌, true, sym, ap, subst, ends_in, is_near, IsLoopWalk}
use Rattle.surf_finder.proofs.Walked.{near_listed}
use Rattle.surf_finder.proofs.Told.{links_positive}
use Rattle.surf_finder.proofs.walks.loop_walk.Goals as goal

pub push_way-requires-clause-vertex : goal.push_way-requires-clause-vertex
push_way-requires-clause-vertex c =
    let mesh = c.args.mesh.now in
    let both = ends_in mesh c.law_of_surface.ensures.surface c.args.edge c.requires.edge in
    subst (λ (p : ℕ × ℕ). p.0 < mesh.vertices) (sym c.ends-u.ensures) both.0

pub push_way-requires-clause-near : goal.push_way-requires-clause-near
push_way-requires-clause-near c = subst (λ (p : ℕ × ℕ). is_near c.args.desk.now p.0 ≡ true) (sym c.ends-u.ensures) c.requires.between.0

pub push_way-requires-2-clause-vertex : goal.push_way-requires-2-clause-vertex
push_way-requires-2-clause-vertex c =
    let mesh = c.args.mesh.now in
    let both = ends_in mesh c.law_of_surface.ensures.surface c.args.edge c.requires.edge in
    subst (λ (p : ℕ × ℕ). p.1 < mesh.vertices) (sym c.ends-u.ensures) both.1

pub push_way-requires-2-clause-near : goal.push_way-requires-2-clause-near
push_way-requires-2-clause-near c = subst (λ (p : ℕ × ℕ). is_near c.args.desk.now p.1 ≡ true) (sym c.ends-u.ensures) c.requires.between.1

pub returns : goal.returns
returns c =
    let mesh = c.args.mesh.now in
    let lengths = c.args.links.now.lengths in
    let surface = c.law_of_surface.ensures.surface in
    let positive = links_positive mesh c.args.links.now.mesh lengths c.args.links.now.rows c.requires.links c.law_of_links.ensures.links in
    let base = c.args.desk.now.base in
    let both = ends_in mesh surface c.args.edge c.requires.edge in
    let is_u : c.ends-u.result.0 ≡ _ = ap (λ (p : ℕ × ℕ). p.0) c.ends-u.ensures in
    let is_v : c.ends-u.result.1 ≡ _ = ap (λ (p : ℕ × ℕ). p.1) c.ends-u.ensures in
    let listed = near_listed mesh lengths surface positive base c.requires.base c.args.edge c.ends-u.result.0 c.ends-u.result.1 c.new-list.result.items
    c.push_way.new.list.items c.reverse.new.self.items c.push_way-2.new.list.items (subst (λ (p : ℕ × ℕ). p.0 < mesh.vertices) (sym c.ends-u.ensures) both.0)
    is_u is_v c.new-list.ensures.items c.in_ok-push_way.ensures.way c.reverse.ensures.items c.in_ok-push_way-2.ensures.way in
    record { walk = subst (IsLoopWalk mesh lengths base c.args.edge) (sym c.from_vertices.ensures) listed }
