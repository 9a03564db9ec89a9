-- A text within the limits is read the same with them and without.
use Rattle.surf_sew.proofs.Common.{◌≡◌, ◌≤◌, ◌+◌, ℕ, zero, suc, Bool, true, false, List, [], ◌∷◌, length, take, drop, Option, Some, None, Result, Ok, Err, refl, sym, ◌∙◌, ap, arith, inl, inr, nat_le, nat_lt, if◌then◌else◌, ◌&&◌, sum_by, cases_Bool, le-ltb, leb-true, and_parts, length-take-le, sum_by-cons, Mesh, ok_or, TextLine, tokens_of, whole, lines_of, rest_after, ◌>>=◌, Head, head_of, number_at, vertices_at, few_sides, corner_read, first_repeat, distinct, Face, FaceLines, OffParts, ended, LimitsAreKept}
use Rattle.surf_base.specs.declared.limits.LimitKind.TheVariants.{Vertices, Faces}
use Rattle.surf_off.specs.declared.fault.OffFault.{OffFault}
use Rattle.surf_off.specs.declared.fault.OffFault.TheVariants.{Counts, FaceSize, Limit}
use Rattle.surf_off.specs.Off.{counts_of, size_of, corners_at, face_of, faces_at, off_in}
use Rattle.surf_off.proofs.FaceLines.{with_face}

-- What was bound was read.
bound : {A B : Type 0} → (r : Result A OffFault) (f : A → Result B OffFault) (y : B) → r >>= f ≡ Ok y → (x : A) × (r ≡ Ok x) × (f x ≡ Ok y)
bound (Ok x) f y is = (x, refl, is)
bound (Err e) f y is = absurd cc

bind_ok : {A B : Type 0} → (r : Result A OffFault) (f : A → Result B OffFault) (x : A) → r ≡ Ok x → r >>= f ≡ f x
bind_ok r f x is = ap (λ s. s >>= f) is

abbrev was_read : {A : Type 0} → A → Result A OffFault
was_read x = Ok x

ok_same : {A : Type 0} → (x y : A) → was_read x ≡ was_read y → x ≡ y
ok_same x y is = cc

abbrev both : Bool → ℕ → Option ℕ → Option ℕ → Result (ℕ × ℕ) OffFault
both limited n x y = ok_or x (Counts n) >>= λ v. ok_or y (Counts n) >>= λ f.
    if limited && nat_lt 1000000 v then Err (Limit n Vertices)
    else (if limited && nat_lt 2000000 f then Err (Limit n Faces) else Ok (v, f))

counts_kept : (n v f : ℕ) (words : List (List ℕ)) → counts_of false n words ≡ Ok (v, f) → v ≤ 1000000 → f ≤ 2000000 → counts_of true n words ≡ Ok (v, f)
unfolding counts_of
counts_kept n v f words is few_v few_f = at (number_at words 0) (number_at words 1) is
  where
    at : (x y : Option ℕ) → both false n x y ≡ Ok (v, f) → both true n x y ≡ Ok (v, f)
    at (Some x) (Some y) is =
        let same : (x, y) ≡ (v, f) = ok_same (x, y) (v, f) is in
        let one : x ≤ 1000000 = omega (arith, ap (λ (p : ℕ × ℕ). p.0) same, few_v) in
        let two : y ≤ 2000000 = omega (arith, ap (λ (p : ℕ × ℕ). p.1) same, few_f) in
        rw (le-ltb 1000000 x one, le-ltb 2000000 y two) is
    at (Some x) None is = absurd cc
    at None y is = absurd cc

corners_count : (n v place : ℕ) (words : List (List ℕ)) (us : List ℕ) → corners_at n v place words ≡ Ok us → length us ≡ length words
unfolding corners_at
corners_count n v place [] us is = ap length (sym (ok_same [] us is))
corners_count n v place (w ∷ ws) us is =
    let first = bound (corner_read n v place (whole w)) (λ u. corners_at n v (place + 1) ws >>= λ us. Ok (u ∷ us)) us is in
    let later = bound (corners_at n v (place + 1) ws) (λ us. Ok (first.0 ∷ us)) us first.2 in
    let count = corners_count n v (place + 1) ws later.0 later.1 in
    omega (arith, ap length (sym (ok_same (first.0 ∷ later.0) us later.2)), count)

abbrev sized : ℕ → Option ℕ → List (List ℕ) → Result ℕ OffFault
sized n size words = ok_or size (FaceSize n) >>= λ k. if nat_le 3 k && nat_le k (length words) then Ok k else Err (FaceSize n)

sized_few : (n k : ℕ) (size : Option ℕ) (words : List (List ℕ)) → sized n size words ≡ Ok k → k ≤ length words
sized_few n k None words is = absurd cc
sized_few n k (Some s) words is = elim (cases_Bool (nat_le 3 s && nat_le s (length words))) [
  | inl good ↦
      let is' : was_read s ≡ was_read k = rw good at is in
      let same : s ≡ k = ok_same s k is' in
      let le = leb-true s (length words) (and_parts (nat_le 3 s) (nat_le s (length words)) good).1 in
      omega (arith, same, le)
  | inr bad ↦ let is' = rw bad at is in absurd cc
]

size_few : (n k : ℕ) (words : List (List ℕ)) → size_of n words ≡ Ok k → k ≤ length (drop 1 words)
unfolding size_of
size_few n k words is = sized_few n k (number_at words 0) (drop 1 words) is

sides_kept : (n sides k : ℕ) → sides + k ≤ 6000000 → few_sides true n sides k ≡ Ok k
sides_kept n sides k le = rw (le-ltb 6000000 (sides + k) le) refl

distinct_same : (n : ℕ) (us corners : List ℕ) (o : Option ℕ) → distinct n us o ≡ Ok corners → us ≡ corners
distinct_same n us corners None is = ok_same us corners is
distinct_same n us corners (Some u) is = absurd cc

face_kept : (v sides : ℕ) (line : TextLine) (face : Face) → face_of false v sides line ≡ Ok face → sides + length face.corners ≤ 6000000 → face_of true v sides line ≡ Ok face
unfolding face_of
face_kept v sides line face is le =
    let words = tokens_of line.bytes in
    let last : ℕ → List ℕ → Result Face OffFault = λ k us. distinct line.number us (first_repeat [] us) >>= λ corners. Ok (record { corners = corners; colour = rest_after (suc k) line.bytes }) in
    let behind : ℕ → Result Face OffFault = λ k. corners_at line.number v 0 (take k (drop 1 words)) >>= λ us. last k us in
    let size = bound (size_of line.number words) (λ s. few_sides false line.number sides s >>= behind) face is in
    let k = size.0 in
    let read : behind k ≡ Ok face = size.2 in
    let corners = bound (corners_at line.number v 0 (take k (drop 1 words))) (last k) face read in
    let once = bound (distinct line.number corners.0 (first_repeat [] corners.0)) (λ us. Ok (record { corners = us; colour = rest_after (suc k) line.bytes })) face corners.2 in
    let whole_face : length face.corners ≡ k =
    ap (λ (f : Face). length f.corners) (sym (ok_same _ face once.2)) ∙ ap length (sym (distinct_same line.number corners.0 once.0 (first_repeat [] corners.0) once.1))
    ∙ corners_count line.number v 0 (take k (drop 1 words)) corners.0 corners.1 ∙ length-take-le k (drop 1 words) (size_few line.number k words size.1) in
    bind_ok (size_of line.number words) (λ s. few_sides true line.number sides s >>= behind) k size.1
    ∙ bind_ok (few_sides true line.number sides k) behind k (sides_kept line.number sides k (omega (arith, whole_face)))
    ∙ read

with_face_is : (face : Face) (r : Result FaceLines OffFault) (all : FaceLines) → with_face face r ≡ Ok all → (rest : FaceLines) × (r ≡ Ok rest) × (all.faces ≡ face.corners ∷ rest.faces)
with_face_is face (Ok rest) all is = (rest, refl, ap (λ (x : FaceLines). x.faces) (sym (ok_same _ all is)))
with_face_is face (Err e) all is = absurd cc

faces_kept : (v f sides : ℕ) (lines : List TextLine) (all : FaceLines) → faces_at false v f sides lines ≡ Ok all → sides + sum_by length all.faces ≤ 6000000 → faces_at true v f sides lines ≡ Ok all
unfolding faces_at
faces_kept v zero sides lines all is le = is
faces_kept v (suc f) sides [] all is le = absurd cc
faces_kept v (suc f) sides (line ∷ lines) all is le =
    let first = bound (face_of false v sides line) (λ face. with_face face (faces_at false v f (sides + length face.corners) lines)) all is in
    let face = first.0 in
    let rest = with_face_is face (faces_at false v f (sides + length face.corners) lines) all first.2 in
    let count : sum_by length all.faces ≡ length face.corners + sum_by length rest.0.faces = ap (sum_by length) rest.2 ∙ sum_by-cons length face.corners rest.0.faces in
    let here = face_kept v sides line face first.1 (omega (arith, count)) in
    let later = faces_kept v f (sides + length face.corners) lines rest.0 rest.1 (omega (arith, count)) in
    bind_ok (face_of true v sides line) (λ g. with_face g (faces_at true v f (sides + length g.corners) lines)) face here
    ∙ ap (with_face face) later ∙ sym (ap (with_face face) rest.1) ∙ first.2

faces_count : (v f sides : ℕ) (lines : List TextLine) (all : FaceLines) → faces_at false v f sides lines ≡ Ok all → f ≡ length all.faces
unfolding faces_at
faces_count v zero sides lines all is = ap (λ (x : FaceLines). length x.faces) (ok_same _ all is)
faces_count v (suc f) sides [] all is = absurd cc
faces_count v (suc f) sides (line ∷ lines) all is =
    let first = bound (face_of false v sides line) (λ face. with_face face (faces_at false v f (sides + length face.corners) lines)) all is in
    let rest = with_face_is first.0 (faces_at false v f (sides + length first.0.corners) lines) all first.2 in
    let later = faces_count v f (sides + length first.0.corners) lines rest.0 rest.1 in
    omega (arith, ap length rest.2, later)

ended_same : (off : OffParts × Mesh) (lines : List TextLine) (all : OffParts × Mesh) → ended off lines ≡ Ok all → off ≡ all
ended_same off [] all is = ok_same off all is
ended_same off (line ∷ lines) all is = absurd cc

kept : (lines : List TextLine) (parts : OffParts) (mesh : Mesh) → off_in false lines ≡ Ok (parts, mesh) → mesh.vertices ≤ 1000000 → length mesh.faces ≤ 2000000 → sum_by length mesh.faces ≤ 6000000 → off_in true lines ≡ Ok (parts, mesh)
unfolding off_in
kept lines parts mesh is few_v few_f few_s =
    let close : Head → ℕ × ℕ → List (List ℕ) × List TextLine → FaceLines → Result (OffParts × Mesh) OffFault =
    λ head counts vertices faces. ended (record { header = head.header; vertex_lines = vertices.0; colours = faces.colours }, record { vertices = counts.0; faces = faces.faces }) faces.lines in
    let from : Bool → Head → ℕ × ℕ → Result (OffParts × Mesh) OffFault =
    λ limited head counts. vertices_at counts.0 counts.1 head.lines >>= λ vertices. faces_at limited counts.0 counts.1 0 vertices.1 >>= λ faces. close head counts vertices faces in
    let head = bound (head_of lines) (λ head. counts_of false head.number head.counts >>= from false head) (parts, mesh) is in
    let counts = bound (counts_of false head.0.number head.0.counts) (from false head.0) (parts, mesh) head.2 in
    let vertices = bound (vertices_at counts.0.0 counts.0.1 head.0.lines) (λ vertices. faces_at false counts.0.0 counts.0.1 0 vertices.1 >>= λ faces. close head.0 counts.0 vertices faces) (parts, mesh) counts.2 in
    let faces = bound (faces_at false counts.0.0 counts.0.1 0 vertices.0.1) (λ faces. close head.0 counts.0 vertices.0 faces) (parts, mesh) vertices.2 in
    let off = ended_same _ faces.0.lines (parts, mesh) faces.2 in
    let v : counts.0.0 ≡ mesh.vertices = ap (λ (x : OffParts × Mesh). x.1.vertices) off in
    let fs : faces.0.faces ≡ mesh.faces = ap (λ (x : OffParts × Mesh). x.1.faces) off in
    let f : counts.0.1 ≡ length mesh.faces = faces_count counts.0.0 counts.0.1 0 vertices.0.1 faces.0 faces.1 ∙ ap length fs in
    bind_ok (head_of lines) (λ head. counts_of true head.number head.counts >>= from true head) head.0 head.1
    ∙ bind_ok (counts_of true head.0.number head.0.counts) (from true head.0) counts.0 (counts_kept head.0.number counts.0.0 counts.0.1 head.0.counts counts.1 (omega (arith, v)) (omega (arith, f)))
    ∙ bind_ok (vertices_at counts.0.0 counts.0.1 head.0.lines) (λ vertices. faces_at true counts.0.0 counts.0.1 0 vertices.1 >>= λ faces. close head.0 counts.0 vertices faces) vertices.0 vertices.1
    ∙ bind_ok (faces_at true counts.0.0 counts.0.1 0 vertices.0.1) (λ faces. close head.0 counts.0 vertices.0 faces) faces.0 (faces_kept counts.0.0 counts.0.1 0 vertices.0.1 faces.0 faces.1 (omega (arith, ap (sum_by length) fs)))
    ∙ faces.2

pub limits_are_kept : LimitsAreKept
limits_are_kept text parts mesh is few_v few_f few_s =
    kept (lines_of text) parts mesh is few_v few_f few_s
