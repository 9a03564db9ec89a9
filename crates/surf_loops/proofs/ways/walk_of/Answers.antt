use Rattle.surf_surfaces.proofs.Common.{ℕ, ◌≡◌, ◌<◌, ◌∙◌, sym, ap, subst, IsClosedAt}
use Rattle.surf_tree.specs.Tables.{tree_of}
use Rattle.surf_surfaces.proofs.meshes.CellLaws.{ends_in}
use Rattle.surf_loops.proofs.Turned.{loop_listed}
use Rattle.surf_loops.proofs.ways.walk_of.Goals as goal

pub push_way-requires-clause-vertex : goal.push_way-requires-clause-vertex
push_way-requires-clause-vertex c =
    let mesh = c.args.mesh.now in
    let both = ends_in mesh c.law_of_surface.ensures.surface c.args.edge c.requires.edge in
    subst (λ (p : ℕ × ℕ). p.0 < mesh.vertices) (sym c.ends-u.ensures) both.0

pub push_way-requires-2-clause-vertex : goal.push_way-requires-2-clause-vertex
push_way-requires-2-clause-vertex c =
    let mesh = c.args.mesh.now in
    let both = ends_in mesh c.law_of_surface.ensures.surface c.args.edge c.requires.edge in
    subst (λ (p : ℕ × ℕ). p.1 < mesh.vertices) (sym c.ends-u.ensures) both.1

pub returns : goal.returns
returns c =
    let mesh = c.args.mesh.now in
    let tree = c.args.tree.now in
    let both = ends_in mesh c.law_of_surface.ensures.surface c.args.edge c.requires.edge in
    let is_u : c.ends-u.result.0 ≡ _ = ap (λ (p : ℕ × ℕ). p.0) c.ends-u.ensures in
    let is_v : c.ends-u.result.1 ≡ _ = ap (λ (p : ℕ × ℕ). p.1) c.ends-u.ensures in
    let listed = loop_listed mesh tree c.args.edge c.ends-u.result.0 c.ends-u.result.1 c.new-list.result.items c.push_way.new.list.items c.reverse.new.self.items c.push_way-2.new.list.items
    c.requires.rooted (subst (λ (p : ℕ × ℕ). p.0 < mesh.vertices) (sym c.ends-u.ensures) both.0) is_u is_v c.new-list.ensures.items c.in_ok-push_way.ensures.way c.reverse.ensures.items c.in_ok-push_way-2.ensures.way in
    let whole = c.from_vertices.ensures ∙ listed in
    record {
      walk = whole;
      closed = subst (IsClosedAt mesh tree.base) (sym whole)
          (c.law_of_loop_walks.ensures mesh (tree_of tree) c.law_of_surface.ensures.surface
          c.requires.rooted.spans c.args.edge c.requires.edge);
    }
