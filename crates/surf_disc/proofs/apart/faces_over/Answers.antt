use Rattle.surf_surfaces.proofs.Common.{◌≡◌, ◌<◌, ◌+◌, ◌++◌, ◌∷◌, [], ℕ, List, get_or, length, ap, ◌∙◌, arith, get_or_default, face_at, owners, first_side}
use Rattle.surf_soup.proofs.Owners.{length-owners}
use Rattle.surf_soup.proofs.HalfLaws.{spans}
use Rattle.surf_soup.proofs.ApartLaws.{across_more}
use Rattle.surf_disc.proofs.apart.faces_over.Goals as goal

pub list_over-requires-clause-across : goal.list_over-requires-clause-across
list_over-requires-clause-across c = λ s d lt.
    let is = c.args.corners.now.tables.acrosses.all s (omega (arith, c.args.corners.now.tables.acrosses.size)) in
    omega (
      arith,
      is.is_side,
      get_or_default c.args.corners.now.across.now s d 0 lt,
      ap length c.args.corners.now.faces,
      length-owners 0 c.args.corners.now.soup.now.faces,
    )

pub loop-f-preserved : goal.loop-f-preserved
loop-f-preserved c =
    let mesh = c.args.corners.now.soup.now in
    let f = c.loop-f.f in
    let lt : f < length mesh.faces = omega (arith, c.loop-f-test.true, c.faces-f-end.ensures.count) in
    let row = c.deref.result.now in
    let own : c.face-count.result.now ≡ face_at mesh f = c.face-count.ensures.corners
    ∙ ap (face_at mesh) c.new.ensures in
    let items : row ≡ c.list_over.new.row.items = c.deref.ensures.value in
    let size : length row ≡ length (face_at mesh f) = ap length items ∙ c.in_ok-list_over.ensures.size
    ∙ ap length own in
    let pushed : c.push.new.self ≡ c.loop-f.rows ++ row ∷ [] = c.in_ok-push.ensures.ok in
    let at : (m : ℕ) → m < length (face_at mesh f) →
    get_or row m 0 ≡ get_or (owners 0 mesh.faces) (get_or c.args.corners.now.across.now (first_side mesh f + m) 0) 0 = λ m in'.
    ap (λ (xs : List ℕ). get_or xs m 0) items ∙ c.in_ok-list_over.ensures.faces m (omega (arith, ap length own))
    ∙ ap (λ (xs : List ℕ). get_or xs (get_or c.args.corners.now.across.now (c.loop-f.first + m) 0) 0) c.args.corners.now.faces
    ∙ ap (λ n. get_or (owners 0 mesh.faces) (get_or c.args.corners.now.across.now (n + m) 0) 0) c.loop-f.invariant.first in
    record {
      rows = rw pushed (across_more mesh c.args.corners.now.across.now f c.loop-f.rows row c.loop-f.invariant.rows lt size at);
      first = omega (arith, c.loop-f.invariant.first, ap length own, (spans mesh.faces f lt).0);
    }
