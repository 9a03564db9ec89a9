use Rattle.surf_surfaces.proofs.Common.{◌≡◌, ◌<◌, ◌≤◌, ◌+◌, ◌*◌, ◌&&◌, ℕ, not, eqb, false, get_or, length, arith, subst, ap, any_below, primal, cells_of, edge_count, edge_length, with_items_is, with_items}
use Rattle.surf_surfaces.proofs.meshes.CellLaws.{surfaces_are_cells}
use Rattle.surf_mesh.proofs.LinkLaws.{cells_few}
use Rattle.surf_lengths.specs.Lengths.{longest}
use Rattle.surf_base.specs.Tables.{nobody, at}
use Rattle.surf_tree.specs.Tables.{TreeTables, AreTreeTables}
use Rattle.surf_tree.specs.Searches.{IsSettled, IsLeastTight}
use Rattle.surf_tree.proofs.Growing.{grown_tree}
use Rattle.surf_tree.proofs.LengthLaws.{short_lengths}
use Rattle.surf_tree.proofs.MeshTrees.{grown_here}
use Rattle.surf_tree.proofs.desk.TreeDesk.grow.Goals as goal

pub settle_vertices-requires-clause-searchable : goal.settle_vertices-requires-clause-searchable
settle_vertices-requires-clause-searchable c =
    let mesh = c.args.mesh.now in
    let complex = (surfaces_are_cells mesh c.law_of_surface.ensures.surface).complex in
    let few = (cells_few mesh c.law_of_surface.ensures.surface c.law_of_surface.ensures.few).0 in
    record {
      is_graph = complex.primal_ends;
      connected = complex.primal_connected;
      few = omega (arith, few);
      short = short_lengths c.args.lengths.now c.law_of_lengths.ensures.lengths;
    }

pub set_parents-requires-clause-fits : goal.set_parents-requires-clause-fits
set_parents-requires-clause-fits c =
    let mesh = c.args.mesh.now in
    let few = (cells_few mesh c.law_of_surface.ensures.surface c.law_of_surface.ensures.few).0 in
    let distance = c.settle_vertices.new.distance in
    let t = c.self.inside in
    let made : AreTreeTables mesh c.args.self.now = c.requires.made in
    let distance_is : (with_items t.distance distance).items ≡ distance = with_items_is t.distance distance (omega arith) in
    rw (c.deref.ensures.value, distance_is) (λ u l. let f : at distance u + longest ≤ mesh.vertices * longest = c.settle_vertices.ensures.settled.fits u l in omega (arith, f, few))

pub mark_edges-requires-clause-ups : goal.mark_edges-requires-clause-ups
mark_edges-requires-clause-ups c =
    let mesh = c.args.mesh.now in
    let t = c.self.inside in
    let made : AreTreeTables mesh c.args.self.now = c.requires.made in
    let parent = c.set_parents.new.parent in
    let up = c.set_parents.new.up in
    let parent_is : (with_items (with_items t.parent c.settle_vertices.new.order) parent).items ≡ parent = with_items_is (with_items t.parent c.settle_vertices.new.order) parent (omega arith) in
    let up_is : (with_items t.up up).items ≡ up = with_items_is t.up up (omega arith) in
    let parents_kept = ap (λ (x : TreeTables). length x.parents) c.self.view_is in
    let flags_kept = ap (λ (x : TreeTables). length x.flags) c.self.view_is in
    let long : length parent ≡ mesh.vertices = omega arith in
    let wide : length c.deref_mut-5.result.now ≡ edge_count mesh = omega arith in
    rw (c.deref-2.ensures.value, parent_is, c.deref-3.ensures.value, up_is) (λ v l some. let e = ((c.set_parents.ensures.parents v (omega (arith, l, long))).tight some).1.edge_in in omega (arith, e, wide))

pub returns : goal.returns
returns c =
    let mesh = c.args.mesh.now in
    let g = primal (cells_of mesh) in
    let len = edge_length c.args.lengths.now in
    let surface = c.law_of_surface.ensures.surface in
    let few = (cells_few mesh surface c.law_of_surface.ensures.few).0 in
    let t = c.self.inside in
    let made : AreTreeTables mesh c.args.self.now = c.requires.made in
    let distances_kept = ap (λ (x : TreeTables). length x.distances) c.self.view_is in
    let parents_kept = ap (λ (x : TreeTables). length x.parents) c.self.view_is in
    let ups_kept = ap (λ (x : TreeTables). length x.ups) c.self.view_is in
    let flags_kept = ap (λ (x : TreeTables). length x.flags) c.self.view_is in
    let distance = c.settle_vertices.new.distance in
    let parent = c.set_parents.new.parent in
    let up = c.set_parents.new.up in
    let flags = c.mark_edges.new.flags in
    let small : g.nodes ≤ longest = omega (arith, few) in
    let distance_is : (with_items t.distance distance).items ≡ distance = with_items_is t.distance distance (omega arith) in
    let parent_is : (with_items (with_items t.parent c.settle_vertices.new.order) parent).items ≡ parent = with_items_is (with_items t.parent c.settle_vertices.new.order) parent (omega arith) in
    let up_is : (with_items t.up up).items ≡ up = with_items_is t.up up (omega arith) in
    let flags_is : (with_items t.flags flags).items ≡ flags = with_items_is t.flags flags (omega arith) in
    let settled : IsSettled g len c.args.base (at distance) = subst (λ b. IsSettled g len b (at distance)) c.number.ensures c.settle_vertices.ensures.settled in
    let chosen : (v : ℕ) → v < g.nodes → IsLeastTight g len (at distance) v (at parent v) (at up v) = rw (c.deref.ensures.value, distance_is) at c.set_parents.ensures.parents in
    let long : length parent ≡ g.nodes = omega arith in
    let wide : length c.deref_mut-5.result.now ≡ g.edges = omega arith in
    let marked : (e : ℕ) → e < g.edges → get_or flags e false ≡ any_below g.nodes (λ v. not (eqb (at parent v) nobody) && eqb (at up v) e) = λ e l.
    subst (λ n. get_or flags e false ≡ any_below n (λ v. not (eqb (at parent v) nobody) && eqb (at up v) e)) long
    (rw (c.deref-2.ensures.value, parent_is, c.deref-3.ensures.value, up_is) at (c.mark_edges.ensures.flags e (omega arith)))
    in
    let positive : (e : ℕ) → e < g.edges → 1 ≤ len e = λ e l. (c.law_of_lengths.ensures.lengths e 0 (omega (arith, c.requires.lengths))).positive in
    let grown = grown_tree g len c.args.base distance parent up flags (surfaces_are_cells mesh surface).complex.primal_ends small positive c.requires.base settled chosen marked in
    let tables : AreTreeTables mesh (record { base = c.args.base; distances = distance; parents = parent; ups = up; flags = flags }) = record { distances = omega arith; parents = long; ups = omega arith; flags = omega arith } in
    record { grown = rw (distance_is, parent_is, up_is, flags_is) (grown_here mesh c.args.lengths.now (record { base = c.args.base; distances = distance; parents = parent; ups = up; flags = flags }) surface grown tables few) }
