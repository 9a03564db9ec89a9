use Rattle.surf_surfaces.proofs.Common.{◌≡◌, ◌<◌, ◌≤◌, ◌+◌, length, arith, map, length-map, primal, cells_of, subst, sym, ◌∙◌, ap, ends}
use Rattle.surf_surfaces.specs.Walk.{edge_length}
use Rattle.surf_mesh.specs.Links.{IsRow, edge_link, other_of}
use Rattle.surf_base.specs.Tables.{at}
use Rattle.surf_sheetcheck.proofs.Offering.{link_of, item_in}
use Rattle.surf_sheetcheck.proofs.Choosing.{chosen_tight, chosen_least, chosen_all}
use Rattle.surf_sheetcheck.proofs.labelling.parent_of.Goals as goal
use Rattle.surf_sheetcheck.proofs.labelling.parent_of.Goals.{then-tight+then-number-best, else-tight, else-tight-via-then-tight+else-number-best, else-tight-via-else-tight}

pub bounds-distance-index : goal.bounds-distance-index
bounds-distance-index c =
    let mesh = c.args.case.now.mesh.now in
    let items = c.edges_at-e-items.result.now in
    let row = subst (λ x. IsRow (primal (cells_of mesh)) x (map (edge_link mesh x) items)) c.new.ensures c.edges_at-e-items.ensures.row in
    let end : c.other_end-u.result ≡ other_of (ends mesh c.e-item.result) c.args.v =
    c.other_end-u.ensures.end ∙ ap (other_of (ends mesh c.e-item.result)) c.new-in-loop-e.ensures in
    let inside = item_in (edge_link mesh c.args.v) items row c.loop-e-test.true c.e-item.is end in
    omega (arith, inside.0, c.requires.distances, c.index.ensures)

pub loop-e-preserved : goal.loop-e-preserved
loop-e-preserved c =
    let mesh = c.args.case.now.mesh.now in
    let g = primal (cells_of mesh) in
    let len = edge_length c.args.case.now.lengths.now in
    let v = c.args.v in
    let link = edge_link mesh v in
    let dist = at c.args.distance.now in
    let u = c.other_end-u.result in
    let e = c.e-item.result in
    let n = c.loop-e.e-index in
    let items = c.edges_at-e-items.result.now in
    let links = map link items in
    let row = subst (λ x. IsRow g x (map (edge_link mesh x) items)) c.new.ensures c.edges_at-e-items.ensures.row in
    let long = length-map items link in
    let ln : n < length links = omega (arith, long, c.loop-e-test.true) in
    let end : u ≡ other_of (ends mesh e) v = c.other_end-u.ensures.end ∙ ap (other_of (ends mesh e)) c.new-in-loop-e.ensures in
    let is = link_of link items n e u c.loop-e-test.true c.e-item.is end in
    let old = c.loop-e.invariant in
    let there : dist c.index.result + c.of.result ≡ dist u + len e =
    ap (λ j. dist j + c.of.result) c.index.ensures ∙ ap (λ k. dist u + k) c.of.ensures.value in
    elim c.if-tight.branch [
      | then-tight+then-number-best b ↦
          let tight : dist u + len e ≡ dist v = sym there ∙ b.if-tight.ensures.sum in
          let best : c.if-tight.best ≡ u = b.best-is ∙ b.number-best.ensures in
          let less : u < c.loop-e.best = omega (arith, b.number.ensures, b.if-number-best.true) in
          rw (best, b.up-is) (record {
            least = chosen_least g len dist v links row n u e ln is c.loop-e.best u old.least (omega (arith, less)) (λ h. omega arith);
            tight = λ ne. chosen_tight g len dist v links row n u e ln is tight;
          })
      | else-tight b ↦ elim b.else-tight.branch [
        | else-tight-via-then-tight+else-number-best d ↦
            let more : c.loop-e.best ≤ u = omega (arith, d.number.ensures, d.if-number-best.false) in
            rw (b.best-is, b.up-is) (record {
              least = chosen_least g len dist v links row n u e ln is c.loop-e.best c.loop-e.best old.least (omega arith) (λ h. more);
              tight = old.tight;
            })
        | else-tight-via-else-tight d ↦
            rw (b.best-is, b.up-is) (record {
              least = chosen_least g len dist v links row n u e ln is c.loop-e.best c.loop-e.best old.least (omega arith)
                  (λ h. absurd (d.if-tight.ensures.sum (there ∙ h)));
              tight = old.tight;
            })
      ]
    ]

pub returns : goal.returns
returns c =
    let mesh = c.args.case.now.mesh.now in
    let items = c.edges_at-e-items.result.now in
    let row = subst (λ x. IsRow (primal (cells_of mesh)) x (map (edge_link mesh x) items)) c.new.ensures c.edges_at-e-items.ensures.row in
    let long = length-map items (edge_link mesh c.args.v) in
    record {
      least = record {
        least = chosen_all (primal (cells_of mesh)) (edge_length c.args.case.now.lengths.now) (at c.args.distance.now) c.args.v
            (map (edge_link mesh c.args.v) items) row c.loop-e.best c.loop-e.e-index (omega (arith, long, c.loop-e-test.false)) c.loop-e.invariant.least;
        tight = c.loop-e.invariant.tight;
      };
    }
