use Rattle.surf_surfaces.proofs.Common.{◌≡◌, ◌<◌, ◌+◌, length, ap, ◌∙◌, arith, face_at, face_count}
use Rattle.surf_soup.proofs.HalfLaws.{spans}
use Rattle.surf_soup.proofs.TurnedSides.{turned_more}
use Rattle.surf_soup.specs.Ring.{place_by}
use Rattle.surf_soup.proofs.turned.turned_sides.Goals as goal

pub list_turned-requires : goal.list_turned-requires
list_turned-requires c =
    let mesh = c.args.soup.now in
    let f = c.loop-f.f in
    let own : length c.face.result.now ≡ length (face_at mesh f) =
    ap length (c.face.ensures.corners ∙ ap (face_at mesh) c.new.ensures) in
    let sp = spans mesh.faces f (omega (arith, c.loop-f-test.true, c.faces-f-end.ensures.count)) in
    omega (arith, own, sp.0, sp.1, c.loop-f.invariant.first, c.law_of_soup.ensures.few)

pub loop-f-preserved : goal.loop-f-preserved
loop-f-preserved c =
    let mesh = c.args.soup.now in
    let f = c.loop-f.f in
    let lt : f < face_count mesh = omega (arith, c.loop-f-test.true, c.faces-f-end.ensures.count) in
    let count = length c.face.result.now in
    let own : count ≡ length (face_at mesh f) = ap length (c.face.ensures.corners ∙ ap (face_at mesh) c.new.ensures) in
    let e = c.in_ok-list_turned.ensures in
    record {
      turned = turned_more (place_by c.args.turn) mesh f count c.loop-f.table.items c.list_turned.new.table.items
          c.loop-f.invariant.turned lt own e.size e.kept (λ k in'. e.here k in'
          ∙ ap (λ m. m + place_by c.args.turn count k) c.loop-f.invariant.first);
      first = omega (arith, c.loop-f.invariant.first, own, (spans mesh.faces f lt).0);
    }
