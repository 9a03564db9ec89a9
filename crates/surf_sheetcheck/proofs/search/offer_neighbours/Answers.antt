use Rattle.surf_surfaces.proofs.Common.{◌≡◌, ◌<◌, ◌+◌, length, arith, set, Some, map, length-map, primal, cells_of, subst, sym, ◌∙◌, ap, ends}
use Rattle.surf_surfaces.specs.Walk.{edge_length}
use Rattle.surf_mesh.specs.Links.{IsRow, edge_link, other_of}
use Rattle.surf_heap.specs.Entries.{entry_of, lesser}
use Rattle.surf_base.specs.Tables.{at}
use Rattle.surf_sheetcheck.specs.Searches.{far}
use Rattle.surf_sheetcheck.proofs.Offering.{link_of, item_in, link_more, link_skip, offered_all}
use Rattle.surf_sheetcheck.proofs.search.offer_neighbours.Goals as goal
use Rattle.surf_sheetcheck.proofs.search.offer_neighbours.Goals.{then-distance-index+then-from-field, else-distance-index, else-distance-index-via-then-distance-index+else-from-field, else-distance-index-via-else-distance-index}

pub bounds-distance-index : goal.bounds-distance-index
bounds-distance-index c =
    let mesh = c.args.field.now.mesh.now in
    let items = c.edges_at-e-items.result.now in
    let row = subst (λ v. IsRow (primal (cells_of mesh)) v (map (edge_link mesh v) items)) c.new.ensures c.edges_at-e-items.ensures.row in
    let end : c.other_end-w.result ≡ other_of (ends mesh c.e-item.result) c.args.node =
    c.other_end-w.ensures.end ∙ ap (other_of (ends mesh c.e-item.result)) c.new-in-loop-e.ensures in
    let inside = item_in (edge_link mesh c.args.node) items row c.loop-e-test.true c.e-item.is end in
    omega (arith, inside.0, c.requires.distances, c.index.ensures)

pub loop-e-preserved : goal.loop-e-preserved
loop-e-preserved c =
    let mesh = c.args.field.now.mesh.now in
    let g = primal (cells_of mesh) in
    let len = edge_length c.args.field.now.lengths.now in
    let limit = c.args.field.now.limit in
    let v = c.args.node in
    let link = edge_link mesh v in
    let dist = at c.args.distance.now in
    let w = c.other_end-w.result in
    let e = c.e-item.result in
    let heap = c.loop-e.heap in
    let items = c.edges_at-e-items.result.now in
    let links = map link items in
    let n = c.loop-e.e-index in
    let long = length-map items link in
    let ln : n < length links = omega (arith, long, c.loop-e-test.true) in
    let row = subst (λ x. IsRow g x (map (edge_link mesh x) items)) c.new.ensures c.edges_at-e-items.ensures.row in
    let some = c.loop-e.invariant in
    let end : w ≡ other_of (ends mesh e) v = c.other_end-w.ensures.end ∙ ap (other_of (ends mesh e)) c.new-in-loop-e.ensures in
    let is = link_of link items n e w c.loop-e-test.true c.e-item.is end in
    let w_in : w < mesh.vertices = (item_in link items row c.loop-e-test.true c.e-item.is end).0 in
    let in_heap : w < length heap = omega (arith, some.same_length, c.requires.places, w_in) in
    let key : c.from.result ≡ len e = c.from.ensures ∙ c.of.ensures.value in
    elim c.if-distance-index.branch [
      | then-distance-index+then-from-field b ↦
          let new : b.offer.new.self ≡ set heap w (Some (lesser (entry_of heap w) (c.args.d + len e) 0)) =
          b.offer.ensures.entry
          ∙ ap (λ x. set heap x (Some (lesser (entry_of heap x) (c.args.d + c.from.result) 0))) b.number.ensures
          ∙ ap (λ k. set heap w (Some (lesser (entry_of heap w) (c.args.d + k) 0))) key in
          let free : dist w ≡ far = ap dist (sym c.index.ensures) ∙ b.if-distance-index.true in
          let less : c.args.d + len e < limit = omega (arith, key, b.from-then-distance-index.ensures, b.if-from-field.true) in
          rw b.heap-is (link_more g len limit dist v c.args.d links row c.args.heap.now heap n some ln w e is b.offer.new.self free less in_heap new)
      | else-distance-index b ↦ elim b.else-distance-index.branch [
        | else-distance-index-via-then-distance-index+else-from-field d ↦
            rw b.heap-is (link_skip g len limit dist v c.args.d links row c.args.heap.now heap n some ln w e is
            (λ free less. absurd (omega (arith, less, key, d.from-then-distance-index.ensures, d.if-from-field.false))))
        | else-distance-index-via-else-distance-index d ↦
            rw b.heap-is (link_skip g len limit dist v c.args.d links row c.args.heap.now heap n some ln w e is
            (λ free less. d.if-distance-index.false (ap dist c.index.ensures ∙ free)))
      ]
    ]

pub returns : goal.returns
returns c =
    let mesh = c.args.field.now.mesh.now in
    let items = c.edges_at-e-items.result.now in
    let row = subst (λ x. IsRow (primal (cells_of mesh)) x (map (edge_link mesh x) items)) c.new.ensures c.edges_at-e-items.ensures.row in
    let long = length-map items (edge_link mesh c.args.node) in
    record {
      offered = offered_all (primal (cells_of mesh)) (edge_length c.args.field.now.lengths.now) c.args.field.now.limit (at c.args.distance.now) c.args.node c.args.d
          (map (edge_link mesh c.args.node) items) row c.args.heap.now c.loop-e.heap c.loop-e.e-index (omega (arith, long, c.loop-e-test.false)) c.loop-e.invariant;
    }
