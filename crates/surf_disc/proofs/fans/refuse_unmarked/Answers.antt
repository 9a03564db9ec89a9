use Rattle.std.proofs.Common.{◌≡◌, ◌<◌, ℕ, List, length, get_or, sym, ap, subst, ◌∙◌, arith}
use Rattle.surf_soup.specs.Ring.{IsLeastPinch}
use Rattle.surf_soup.proofs.Owners.{length-owners}
use Rattle.surf_soup.proofs.VertexLaws.{at_len, at_is}
use Rattle.surf_disc.proofs.CornerLaws.{face_of}
use Rattle.surf_disc.proofs.FanLaws.{least_pinch, fans_more, row_inside}
use Rattle.surf_disc.proofs.fans.refuse_unmarked.Goals as goal

pub row-row-requires : goal.row-row-requires
row-row-requires c = omega (
  arith,
  at_len c.args.corners.now.soup.now c.args.corners.now.at_vertex.now c.args.corners.now.rows,
  c.loop-v-test.true,
  c.vertices-v-end.ensures.count,
)

pub first_left-requires : goal.first_left-requires
first_left-requires c = λ k in'.
    let mesh = c.args.corners.now.soup.now in
    let v = c.loop-v.v in
    let lt : v < mesh.vertices = omega (arith, c.loop-v-test.true, c.vertices-v-end.ensures.count) in
    let is = c.row-row.ensures ∙ at_is mesh c.args.corners.now.at_vertex.now c.args.corners.now.rows v lt in
    let size = c.requires.fans.size in
    row_inside mesh v k (length c.args.seen.now) c.row-row.result.now is in' (omega arith)

pub face_in-first-requires-clause-side : goal.face_in-first-requires-clause-side
face_in-first-requires-clause-side c =
    let mesh = c.args.corners.now.soup.now in
    let v = c.loop-v.v in
    let lt : v < mesh.vertices = omega (arith, c.loop-v-test.true, c.vertices-v-end.ensures.count) in
    let is = c.row-row.ensures ∙ at_is mesh c.args.corners.now.at_vertex.now c.args.corners.now.rows v lt in
    let found = c.in-Some.ensures in
    let in' = found.0 in
    row_inside mesh v 0 (length c.args.corners.now.face_of.now) c.row-row.result.now is (omega arith)
    (omega (arith, ap length c.args.corners.now.faces, length-owners 0 mesh.faces))

pub face_in-second-requires-clause-side : goal.face_in-second-requires-clause-side
face_in-second-requires-clause-side c =
    let mesh = c.args.corners.now.soup.now in
    let v = c.loop-v.v in
    let lt : v < mesh.vertices = omega (arith, c.loop-v-test.true, c.vertices-v-end.ensures.count) in
    let is = c.row-row.ensures ∙ at_is mesh c.args.corners.now.at_vertex.now c.args.corners.now.rows v lt in
    let found = c.in-Some.ensures in
    row_inside mesh v c.in-Some.k (length c.args.corners.now.face_of.now) c.row-row.result.now is found.0
    (omega (arith, ap length c.args.corners.now.faces, length-owners 0 mesh.faces))

pub returns-in-Some-clause-fault : goal.returns-in-Some-clause-fault
returns-in-Some-clause-fault c =
    let mesh = c.args.corners.now.soup.now in
    let v = c.loop-v.v in
    let ring = c.row-row.result.now in
    let k = c.in-Some.k in
    let lt : v < mesh.vertices = omega (arith, c.loop-v-test.true, c.vertices-v-end.ensures.count) in
    let is = c.row-row.ensures ∙ at_is mesh c.args.corners.now.at_vertex.now c.args.corners.now.rows v lt in
    let found = c.in-Some.ensures in
    let least = least_pinch mesh c.requires.met c.args.seen.now c.requires.fans v lt c.loop-v.invariant k ring is
    found.0 found.1 found.2 in
    let first : c.face_in-first.result ≡ face_of mesh (get_or ring 0 0) = c.face_in-first.ensures
    ∙ ap (λ (xs : List ℕ). get_or xs (get_or ring 0 0) 0) c.args.corners.now.faces in
    let second : c.face_in-second.result ≡ face_of mesh (get_or ring k 0) = c.face_in-second.ensures
    ∙ ap (λ (xs : List ℕ). get_or xs (get_or ring k 0) 0) c.args.corners.now.faces in
    let F : ℕ → Type 0 = λ f. IsLeastPinch mesh v f (face_of mesh (get_or ring k 0)) in
    let G : ℕ → Type 0 = λ g. IsLeastPinch mesh v c.face_in-first.result g in
    let V : ℕ → Type 0 = λ w. IsLeastPinch mesh w c.face_in-first.result c.face_in-second.result in (
      c.requires.none_crowded,
      c.requires.met,
      subst V (sym c.new.ensures) (subst G (sym second) (subst F (sym first) least)),
    )

pub loop-v-preserved : goal.loop-v-preserved
loop-v-preserved c =
    let mesh = c.args.corners.now.soup.now in
    let v = c.loop-v.v in
    let lt : v < mesh.vertices = omega (arith, c.loop-v-test.true, c.vertices-v-end.ensures.count) in
    let is = c.row-row.ensures ∙ at_is mesh c.args.corners.now.at_vertex.now c.args.corners.now.rows v lt in
    fans_more mesh c.requires.met c.args.seen.now c.requires.fans v lt c.loop-v.invariant c.row-row.result.now is
    c.in_default.ensures
