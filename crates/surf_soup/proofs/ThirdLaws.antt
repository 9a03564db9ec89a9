-- The faces of sides where each face has three.
use Rattle.surf_surfaces.proofs.Common.{◌≡◌, ℕ, zero, suc, ◌+◌, ◌-◌, ◌*◌, ◌/◌, ◌<◌, ◌≤◌, List, [], ◌∷◌, length, get_or, take, refl, sym, ap, ◌∙◌, arith, same_lists, length-map-range_with_len, get_or-map-range_with_len, sum_by-cons, div-mul-add, Mesh, IsMesh, IsFace, face_count, side_count, owners, All-head, All-tail}
use Rattle.std.specs.List.{All, sum_by}
use Rattle.surf_soup.specs.FaceTables.{thirds}
use Rattle.surf_soup.proofs.HalfLaws.{face_of_side, spans}
use Rattle.surf_soup.proofs.Owners.{length-owners}
use Rattle.surf_soup.proofs.SideTables.{three_each}

-- where all faces have three sides each on the whole, so have the first ones
pub three_first : (n : ℕ) (faces : List (List ℕ)) → All (IsFace n) faces → sum_by length faces ≡ 3 * length faces →
    (f : ℕ) → f ≤ length faces → sum_by length (take f faces) ≡ 3 * f
three_first n [] h total zero le = refl
three_first n [] h total (suc f) le = absurd (omega arith)
three_first n (face ∷ rest) h total zero le = refl
three_first n (face ∷ rest) h total (suc f) le =
    let is = All-head (IsFace n) face rest h in
    let all = sum_by-cons {X = List ℕ} length face rest in
    let least = three_each n rest (All-tail (IsFace n) face rest h) in
    let large = is.large in
    omega (
      arith,
      sum_by-cons {X = List ℕ} length face (take f rest),
      three_first n rest (All-tail (IsFace n) face rest h) (omega arith) f (omega arith),
    )

pub third_at : (count s d : ℕ) → s < 3 * count → get_or (thirds count) s d ≡ s / 3
third_at count s d lt = get_or-map-range_with_len (λ s. s / 3) 0 (3 * count) s s d lt (omega arith)

pub thirds_len : (count : ℕ) → length (thirds count) ≡ 3 * count
thirds_len count = length-map-range_with_len (λ s. s / 3) 0 (3 * count)

pub thirds_are : (mesh : Mesh) → IsMesh mesh → side_count mesh ≡ 3 * face_count mesh →
    thirds (face_count mesh) ≡ owners 0 mesh.faces
thirds_are mesh is_mesh total =
    let n = face_count mesh in
    let os = owners 0 mesh.faces in
    same_lists (thirds n) os (thirds_len n ∙ sym total ∙ sym (length-owners 0 mesh.faces)) (λ s d lt.
    let in' : s < 3 * n = omega (arith, thirds_len n) in
    let f = get_or os s d in
    let h = face_of_side mesh os s d refl (omega arith) in
    let is = h.is_face in
    let from = h.from in
    let upto = h.upto in
    let first = three_first mesh.vertices mesh.faces is_mesh total f (omega arith) in
    let next = three_first mesh.vertices mesh.faces is_mesh total (f + 1) (omega arith) in
    let b = s - 3 * f in
    let small : b < 3 = omega (arith, (spans mesh.faces f is).0) in
    let whole : s ≡ f * 3 + b = omega arith in
    third_at n s d in' ∙ ap (λ x. x / 3) whole ∙ div-mul-add f 3 b small)
