-- How much is read as the text of a mesh: a line for each vertex, a colour for each face, and no more than the limits.
use Rattle.surf_surfaces.proofs.Common.{◌≡◌, ◌≤◌, ◌+◌, ◌∷◌, ℕ, zero, suc, true, List, [], length, take, drop, Result, Ok, Err, refl, sym, ap, ◌∙◌, arith, nat_lt, nat_le, ltb-false, sum_by, sum_by-cons, Mesh, face_count, side_count}
use Rattle.std.specs.Prelude.{ok_or}
use Rattle.surf_base.specs.declared.limits.LimitKind.TheVariants.{Vertices, Faces, Sides}
use Rattle.surf_text.specs.Text.{TextLine, tokens_of, lines_of}
use Rattle.surf_off.specs.Clean.{IsOffParts}
use Rattle.surf_off.specs.Off.{head_of, counts_of, number_at, vertices_at, size_of, few_sides, corners_at, first_repeat, distinct, Face, face_of, FaceLines, faces_at, OffParts, off_in, off_of}
use Rattle.surf_off.specs.declared.fault.OffFault.{OffFault}
use Rattle.surf_off.specs.declared.fault.OffFault.TheVariants.{Counts, Limit, VertexLine}
use Rattle.surf_off.proofs.CleanParts.{parts_clean}
use Rattle.surf_outcomes.proofs.Holding.{Holds, then_holds, anything, itself, of_read, of_choice}
use Rattle.surf_outcomes.proofs.MeshTexts.{corners_in, differing, sized, taken, ends_so}

-- ---- counts

abbrev AreFew : ℕ × ℕ → Type 0
AreFew counts = (counts.0 ≤ 1000000) × (counts.1 ≤ 2000000)

counts_few : (n : ℕ) (words : List (List ℕ)) → Holds AreFew (counts_of true n words)
unfolding counts_of
counts_few n words =
    let first : Result ℕ OffFault = ok_or (number_at words 0) (Counts n) in
    let second : Result ℕ OffFault = ok_or (number_at words 1) (Counts n) in
    then_holds (λ _. Unit {0}) AreFew first _ (anything first)
    (λ v _. then_holds (λ _. Unit {0}) AreFew second _ (anything second)
    (λ f _. of_choice AreFew (nat_lt 1000000 v) (Err (Limit n Vertices)) _ (λ _. tt)
    (λ few. of_choice AreFew (nat_lt 2000000 f) (Err (Limit n Faces)) (Ok (v, f)) (λ _. tt)
    (λ less. (ltb-false 1000000 v few, ltb-false 2000000 f less)))))

-- ---- vertices

abbrev AsMany : ℕ → List (List ℕ) × List TextLine → Type 0
AsMany v read = length read.0 ≡ v

vertices_read : (v f : ℕ) (lines : List TextLine) → Holds (AsMany v) (vertices_at v f lines)
unfolding vertices_at
vertices_read zero f lines = refl
vertices_read (suc v) f [] = tt
vertices_read (suc v) f (line ∷ lines) =
    of_choice (AsMany (suc v)) (nat_le 3 (length (tokens_of line.bytes))) _ (Err (VertexLine line.number))
    (λ _. then_holds (AsMany v) (AsMany (suc v)) (vertices_at v f lines) _ (vertices_read v f lines)
    (λ rest many. ap suc many)) (λ _. tt)

-- ---- faces

few_together : (n sides k : ℕ) → Holds (λ x. (x ≡ k) × (sides + x ≤ 6000000)) (few_sides true n sides k)
few_together n sides k =
    of_choice (λ x. (x ≡ k) × (sides + x ≤ 6000000)) (nat_lt 6000000 (sides + k)) (Err (Limit n Sides)) (Ok k) (λ _. tt)
    (λ few. (refl, ltb-false 6000000 (sides + k) few))

face_few : (v sides : ℕ) (line : TextLine) →
    Holds (λ (face : Face). sides + length face.corners ≤ 6000000) (face_of true v sides line)
unfolding face_of
face_few v sides line =
    let words : List (List ℕ) = tokens_of line.bytes in
    let Good : Face → Type 0 = λ face. sides + length face.corners ≤ 6000000 in
    then_holds (λ k. (3 ≤ k) × (k ≤ length (drop 1 words))) Good (size_of line.number words) _ (sized line.number words)
    (λ size fits. then_holds (λ x. (x ≡ size) × (sides + x ≤ 6000000)) Good (few_sides true line.number sides size) _
    (few_together line.number sides size)
    (λ k few. then_holds _ Good (corners_at line.number v 0 (take k (drop 1 words))) _
    (corners_in line.number v 0 (take k (drop 1 words)))
    (λ us are. then_holds _ Good (distinct line.number us (first_repeat [] us)) _
    (differing line.number us (first_repeat [] us) refl)
    (λ xs apart.
    let many = taken k (drop 1 words) (let le = fits.1 in let same = few.0 in omega (arith, same, le)) in
    let count = are.0 in
    let same = ap length apart.0 in
    let most = few.1 in
    omega (arith, many, count, same, most)))))

pub record AreFaces (f sides : ℕ) (read : FaceLines) : Type 0 where
  pub faces : length read.faces ≡ f
  pub colours : length read.colours ≡ f
  pub few : sides + sum_by length read.faces ≤ 6000000

faces_read : (v f sides : ℕ) (lines : List TextLine) → sides ≤ 6000000 →
    Holds (AreFaces f sides) (faces_at true v f sides lines)
unfolding faces_at
faces_read v zero sides lines few = record { faces = refl; colours = refl; few = omega (arith, few) }
faces_read v (suc f) sides [] few = tt
faces_read v (suc f) sides (line ∷ lines) few =
    then_holds (λ (face : Face). sides + length face.corners ≤ 6000000) (AreFaces (suc f) sides)
    (face_of true v sides line) _ (face_few v sides line)
    (λ face less. then_holds (AreFaces f (sides + length face.corners)) (AreFaces (suc f) sides)
    (faces_at true v f (sides + length face.corners) lines) _
    (faces_read v f (sides + length face.corners) lines less)
    (λ rest are.
    let more = sum_by-cons length face.corners rest.faces in
    let all = are.few in
    record {
      faces = ap suc are.faces;
      colours = ap suc are.colours;
      few = omega (arith, more, all);
    }))

-- ---- the text

pub record IsCounted (read : OffParts × Mesh) : Type 0 where
  pub clean : IsOffParts read.0
  pub lines : length read.0.vertex_lines ≡ read.1.vertices
  pub colours : length read.0.colours ≡ face_count read.1
  pub few_sides : side_count read.1 ≤ 6000000
  pub few_vertices : read.1.vertices ≤ 1000000
  pub few_faces : face_count read.1 ≤ 2000000

texts_hold : (text : List ℕ) → Holds IsCounted (off_of text)
unfolding off_in
texts_hold text =
    let lines : List TextLine = lines_of text in
    then_holds (λ head. head_of lines ≡ Ok head) IsCounted (head_of lines) _ (itself (head_of lines))
    (λ head head_is. then_holds AreFew IsCounted (counts_of true head.number head.counts) _
    (counts_few head.number head.counts)
    (λ counts few. then_holds (λ x. (vertices_at counts.0 counts.1 head.lines ≡ Ok x) × AsMany counts.0 x) IsCounted
    (vertices_at counts.0 counts.1 head.lines) _
    (with_itself (AsMany counts.0) (vertices_at counts.0 counts.1 head.lines) (vertices_read counts.0 counts.1 head.lines))
    (λ vertices vs. then_holds (λ x. (faces_at true counts.0 counts.1 0 vertices.1 ≡ Ok x) × AreFaces counts.1 0 x)
    IsCounted (faces_at true counts.0 counts.1 0 vertices.1) _
    (with_itself (AreFaces counts.1 0) (faces_at true counts.0 counts.1 0 vertices.1)
    (faces_read counts.0 counts.1 0 vertices.1 (omega arith)))
    (λ faces fs.
    let are = fs.1 in
    let sides = are.few in
    let count = are.faces in
    let most = few.1 in
    ends_so IsCounted _ faces.lines (record {
      clean = parts_clean text head counts.0 counts.1 vertices.0 vertices.1 faces head_is vs.0 fs.0;
      lines = vs.1;
      colours = are.colours ∙ sym are.faces;
      few_sides = omega (arith, sides);
      few_vertices = few.0;
      few_faces = omega (arith, count, most);
    })))))
  where
    with_itself : {A : Type 0} (P : A → Type 0) (r : Result A OffFault) → Holds P r → Holds (λ x. (r ≡ Ok x) × P x) r
    with_itself P (Ok x) is = (refl, is)
    with_itself P (Err fault) is = tt

pub texts_are_counted : (text : List ℕ) (read : OffParts × Mesh) → off_of text ≡ Ok read → IsCounted read
texts_are_counted text read is = of_read IsCounted (off_of text) read is (texts_hold text)
