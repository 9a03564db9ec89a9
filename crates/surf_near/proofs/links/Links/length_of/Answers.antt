use Rattle.surf_near.proofs.Common.{◌≡◌, ◌<◌, ◌||◌, true, false, sym, ap, ◌∙◌, arith, length, slice_index_or, edge_count, ends, LinkTables}
use Rattle.surf_surfaces.proofs.meshes.CellLaws.{ends_below}
use Rattle.surf_near.proofs.Barring.{open_at, shut_at}
use Rattle.surf_near.proofs.links.Links.length_of.Goals as goal

pub is_either_barred-requires : goal.is_either_barred-requires
is_either_barred-requires c =
    let inside = c.self.inside in
    let kept = c.self.invariant in
    let mesh = inside.mesh.now in
    let e_in : c.args.e < edge_count mesh = omega (arith, c.requires.edge, ap (λ (t : LinkTables). edge_count t.mesh) c.self.view_is) in
    let below = ends_below mesh kept.links.surface.is_mesh c.args.e e_in in
    rw (c.deref.ensures.value, c.ends-low.ensures) (record {
      low = omega (arith, below.0, below.1, kept.flags);
      high = omega (arith, below.1, kept.flags);
    })

pub returns-then-is_either_barred : goal.returns-then-is_either_barred
returns-then-is_either_barred c =
    let inside = c.self.inside in
    let mesh = inside.mesh.now in
    let given = inside.lengths.now in
    let barred = inside.barred.items in
    let e = c.args.e in
    let e_in : e < length given = omega (arith, c.requires.edge, ap (λ (t : LinkTables). edge_count t.mesh) c.self.view_is, c.self.invariant.links.as_many) in
    let is : (slice_index_or barred (ends mesh e).0 false || slice_index_or barred (ends mesh e).1 false) ≡ true =
    rw (← c.ends-low.ensures, ← c.deref.ensures.value, ← c.is_either_barred.ensures.either) c.if-is_either_barred.true in
    record { length = rw (← c.self.view_is) (sym (shut_at mesh given barred e e_in is)) }

pub returns-else-is_either_barred : goal.returns-else-is_either_barred
returns-else-is_either_barred c =
    let inside = c.self.inside in
    let mesh = inside.mesh.now in
    let given = inside.lengths.now in
    let barred = inside.barred.items in
    let e = c.args.e in
    let e_in : e < length given = omega (arith, c.requires.edge, ap (λ (t : LinkTables). edge_count t.mesh) c.self.view_is, c.self.invariant.links.as_many) in
    let is : (slice_index_or barred (ends mesh e).0 false || slice_index_or barred (ends mesh e).1 false) ≡ false =
    rw (← c.ends-low.ensures, ← c.deref.ensures.value, ← c.is_either_barred.ensures.either) c.if-is_either_barred.false in
    record { length = c.of.ensures.value ∙ rw (← c.self.view_is) (sym (open_at mesh given barred e e_in is)) }
