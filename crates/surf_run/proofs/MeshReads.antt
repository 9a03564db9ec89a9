-- What is read of the text of a mesh: clean vertex lines and colours, one for each vertex and each face, no longer than
-- the text, and few sides.
use Rattle.surf_surfaces.proofs.Common.{◌≡◌, ◌≤◌, ◌+◌, ℕ, zero, suc, Bool, true, false, List, [], ◌∷◌, length, take, drop, Option, Some, None, Result, Ok, Err, refl, sym, ap, ◌∙◌, subst, arith, inl, inr, nat_lt, nat_le, if◌then◌else◌, cases_Bool, cases_lt, lt-ltb, le-ltb, length-drop, sum_by-cons, Mesh, side_count, face_count, sum_by, slice_split, onto_first, position_or_len}
use Rattle.std.specs.Prelude.{ok_or, option_and_then, slice_get}
use Rattle.std.proofs.lemmas.List.Splits.{slice_split-cons_yes, slice_split-cons_no}
use Rattle.surf_text.specs.Text.{TextLine, is_blank, is_line_end, uncommented, trimmed_front, before_some, trimmed_back, trimmed, behind_word, behind_words, rest_after, tokens_of, onto_lines, numbered_from, lines_of, whole}
use Rattle.surf_off.specs.Clean.{IsOffParts}
use Rattle.surf_off.specs.Off.{Head, head_with, head_of, counts_of, vertices_at, size_of, few_sides, corner_read, corners_at, first_repeat, distinct, Face, face_of, FaceLines, faces_at, OffParts, ended, off_in, off_of}
use Rattle.surf_off.specs.Keywords.{header_of}
use Rattle.surf_off.specs.Gives.{with_line}
use Rattle.surf_off.specs.declared.fault.OffFault.{OffFault}
use Rattle.surf_off.specs.declared.fault.OffFault.TheVariants.{Header as NoHeader}
use Rattle.surf_off.specs.declared.header.Header.{Header}
use Rattle.surf_off.proofs.CleanParts.{parts_clean}
use Rattle.surf_off.proofs.FaceLines.{with_face}
use Rattle.surf_run.proofs.TextLaws.{Holds, then_holds, anything}

-- ---- how long pieces of a text are

-- how many bytes lines have
abbrev pub bytes_in : List TextLine → ℕ
bytes_in [] = 0
bytes_in (line ∷ lines) = length line.bytes + bytes_in lines

split_short : (p : ℕ → Bool) (xs : List ℕ) → sum_by length (slice_split p xs) ≤ length xs
split_short p [] = omega arith
split_short p (x ∷ xs) = elim (cases_Bool (p x)) [
  | inl here ↦
      let is = ap (sum_by length) (slice_split-cons_yes p x xs here) in
      let more = sum_by-cons length [] (slice_split p xs) in
      let rest = split_short p xs in
      omega (arith, is, more, rest)
  | inr other ↦
      let is = ap (sum_by length) (slice_split-cons_no p x xs other) in
      let more = onto (slice_split p xs) in
      let rest = split_short p xs in
      omega (arith, is, more, rest)
]
  where
    onto : (parts : List (List ℕ)) → sum_by length (onto_first x parts) ≤ suc (sum_by length parts)
    onto [] = let one = sum_by-cons length (x ∷ []) [] in omega (arith, one)
    onto (part ∷ parts) =
        let first = sum_by-cons length (x ∷ part) parts in
        let before = sum_by-cons length part parts in
        omega (arith, first, before)

take_short : (n : ℕ) (xs : List ℕ) → length (take n xs) ≤ length xs
take_short zero xs = omega arith
take_short (suc n) [] = omega arith
take_short (suc n) (x ∷ xs) = let rest = take_short n xs in omega (arith, rest)

front_short : (xs : List ℕ) → length (trimmed_front xs) ≤ length xs
front_short [] = omega arith
front_short (b ∷ bs) = at (is_blank b) (front_short bs)
  where
    at : (blank : Bool) → length (trimmed_front bs) ≤ length bs →
        length (if blank then trimmed_front bs else b ∷ bs) ≤ suc (length bs)
    at true rest = omega (arith, rest)
    at false rest = omega arith

some_short : (b : ℕ) (xs : List ℕ) → length (before_some b xs) ≤ suc (length xs)
some_short b [] = at (is_blank b)
  where
    at : (blank : Bool) → length (if blank then [] else b ∷ []) ≤ 1
    at true = omega arith
    at false = omega arith
some_short b (c ∷ cs) = omega arith

back_short : (xs : List ℕ) → length (trimmed_back xs) ≤ length xs
back_short [] = omega arith
back_short (b ∷ bs) =
    let here = some_short b (trimmed_back bs) in
    let rest = back_short bs in
    omega (arith, here, rest)

trimmed_short : (xs : List ℕ) → length (trimmed xs) ≤ length xs
trimmed_short xs =
    let front = front_short xs in
    let back = back_short (trimmed_front xs) in
    omega (arith, front, back)

line_short : (line : List ℕ) → length (trimmed (uncommented line)) ≤ length line
line_short line =
    let before : length (uncommented line) ≤ length line = take_short _ line in
    let kept = trimmed_short (uncommented line) in
    omega (arith, before, kept)

words_short : (n : ℕ) (bytes : List ℕ) → length (behind_words n bytes) ≤ length bytes
words_short zero bytes = omega arith
words_short (suc n) bytes =
    let one : length (behind_word bytes) ≤ length bytes = behind_short bytes in
    let rest = words_short n (behind_word bytes) in
    omega (arith, one, rest)
  where
    behind_short : (xs : List ℕ) → length (behind_word xs) ≤ length xs
    behind_short xs =
        let n : ℕ = position_or_len is_blank xs in
        let less = length-drop n xs in
        let front = front_short (drop n xs) in
        omega (arith, less, front)

rest_short : (n : ℕ) (line : List ℕ) → length (rest_after n line) ≤ length line
rest_short n line =
    let rest = words_short n (trimmed (uncommented line)) in
    let kept = line_short line in
    omega (arith, rest, kept)

onto_short : (line : TextLine) (tokens : List (List ℕ)) (lines : List TextLine) →
    bytes_in (onto_lines line tokens lines) ≤ length line.bytes + bytes_in lines
onto_short line [] lines = omega arith
onto_short line (token ∷ tokens) lines = omega arith

numbered_short : (n : ℕ) (parts : List (List ℕ)) → bytes_in (numbered_from n parts) ≤ sum_by length parts
numbered_short n [] = omega arith
numbered_short n (part ∷ parts) =
    let here = onto_short (record { number = n; bytes = trimmed (uncommented part) }) (tokens_of part)
    (numbered_from (n + 1) parts) in
    let line = line_short part in
    let rest = numbered_short (n + 1) parts in
    let more = sum_by-cons length part parts in
    omega (arith, here, line, rest, more)

lines_short : (text : List ℕ) → bytes_in (lines_of text) ≤ length text
lines_short text =
    let numbered = numbered_short 1 (slice_split is_line_end text) in
    let split = split_short is_line_end text in
    omega (arith, numbered, split)

-- ---- the head

abbrev pub LinesWithin : ℕ → Head → Type 0
LinesWithin most head = bytes_in head.lines ≤ most

with_short : (header : Header) (n : ℕ) (words : List (List ℕ)) (lines : List TextLine) →
    Holds (LinesWithin (bytes_in lines)) (head_with header n words lines)
with_short header n (w ∷ ws) lines = omega arith
with_short header n [] [] = tt
with_short header n [] (line ∷ lines) = omega arith

holds_more : {A : Type 0} (P Q : A → Type 0) (r : Result A OffFault) → ((x : A) → P x → Q x) → Holds P r → Holds Q r
holds_more P Q (Ok x) f is = f x is
holds_more P Q (Err e) f is = tt

head_short : (lines : List TextLine) → Holds (LinesWithin (bytes_in lines)) (head_of lines)
unfolding head_of
head_short [] = tt
head_short (line ∷ lines) =
    let words = tokens_of line.bytes in
    let header = ok_or (option_and_then header_of (slice_get words 0)) (NoHeader line.number) in
    then_holds (λ h. Unit {0}) (LinesWithin (length line.bytes + bytes_in lines)) header _ (anything header)
    (λ h _. holds_more (LinesWithin (bytes_in lines)) (LinesWithin (length line.bytes + bytes_in lines))
    (head_with h line.number (drop 1 words) lines) (λ head is. omega (arith, is))
    (with_short h line.number (drop 1 words) lines))

-- ---- vertices

-- so many lines, which have no more bytes together with those behind them
abbrev pub AreVertices : ℕ → ℕ → List (List ℕ) × List TextLine → Type 0
AreVertices v most x = (length x.0 ≡ v) × (sum_by length x.0 + bytes_in x.1 ≤ most)

one_line : (v : ℕ) (line : TextLine) (lines : List TextLine) (r : Result (List (List ℕ) × List TextLine) OffFault) →
    Holds (AreVertices v (bytes_in lines)) r →
    Holds (AreVertices (suc v) (length line.bytes + bytes_in lines)) (with_line line.bytes r)
one_line v line lines (Ok x) is =
    let more = sum_by-cons length line.bytes x.0 in
    let rest = is.1 in
    (ap suc is.0, omega (arith, more, rest))
one_line v line lines (Err e) is = tt

vertices_read : (v f : ℕ) (lines : List TextLine) → Holds (AreVertices v (bytes_in lines)) (vertices_at v f lines)
unfolding vertices_at
vertices_read zero f lines = (refl, omega arith)
vertices_read (suc v) f [] = tt
vertices_read (suc v) f (line ∷ lines) = elim (cases_Bool (nat_le 3 (length (tokens_of line.bytes)))) [
  | inl long ↦ rw long (one_line v line lines (vertices_at v f lines) (vertices_read v f lines))
  | inr short ↦ rw short tt
]

-- ---- faces

sides_few : (n sides k : ℕ) → Holds (λ x. sides + x ≤ 6000000) (few_sides true n sides k)
sides_few n sides k = elim (cases_lt 6000000 (sides + k)) [
  | inl many ↦ let t : nat_lt 6000000 (sides + k) ≡ true = lt-ltb _ _ many in rw t tt
  | inr few ↦ let t : nat_lt 6000000 (sides + k) ≡ false = le-ltb _ _ few in rw t few
]

corners_count : (n v place : ℕ) (words : List (List ℕ)) →
    Holds (λ us. length us ≡ length words) (corners_at n v place words)
unfolding corners_at
corners_count n v place [] = refl
corners_count n v place (w ∷ ws) =
    then_holds (λ u. Unit {0}) (λ us. length us ≡ suc (length ws)) (corner_read n v place (whole w)) _
    (anything (corner_read n v place (whole w)))
    (λ u _. then_holds (λ us. length us ≡ length ws) (λ us. length us ≡ suc (length ws))
    (corners_at n v (place + 1) ws) _ (corners_count n v (place + 1) ws)
    (λ us is. ap suc is))

distinct_same : (n k : ℕ) (us : List ℕ) (o : Option ℕ) → length us ≤ k → Holds (λ x. length x ≤ k) (distinct n us o)
distinct_same n k us None le = le
distinct_same n k us (Some u) le = tt

taken_few : (k : ℕ) (words : List (List ℕ)) → length (take k words) ≤ k
taken_few zero words = omega arith
taken_few (suc k) [] = omega arith
taken_few (suc k) (w ∷ ws) = let rest = taken_few k ws in omega (arith, rest)

-- behind so many sides few more, and a colour that is no longer than the line
abbrev pub IsFaceRead : ℕ → TextLine → Face → Type 0
IsFaceRead sides line face = (sides + length face.corners ≤ 6000000) × (length face.colour ≤ length line.bytes)

face_read : (v sides : ℕ) (line : TextLine) → Holds (IsFaceRead sides line) (face_of true v sides line)
unfolding face_of
face_read v sides line =
    let words = tokens_of line.bytes in
    then_holds (λ size. Unit {0}) (IsFaceRead sides line) (size_of line.number words) _
    (anything (size_of line.number words)) (λ size _.
    then_holds (λ k. sides + k ≤ 6000000) (IsFaceRead sides line) (few_sides true line.number sides size) _
    (sides_few line.number sides size) (λ k few.
    then_holds (λ us. length us ≡ length (take k (drop 1 words))) (IsFaceRead sides line)
    (corners_at line.number v 0 (take k (drop 1 words))) _
    (corners_count line.number v 0 (take k (drop 1 words))) (λ us count.
    let most = taken_few k (drop 1 words) in
    then_holds (λ x. length x ≤ k) (IsFaceRead sides line) (distinct line.number us (first_repeat [] us)) _
    (distinct_same line.number k us (first_repeat [] us) (omega (arith, count, most))) (λ corners le.
    (omega (arith, few, le), rest_short (suc k) line.bytes)))))

abbrev pub AreFaces : ℕ → ℕ → ℕ → FaceLines → Type 0
AreFaces f sides most x =
    (length x.faces ≡ f) × (length x.colours ≡ f) × (sides + sum_by length x.faces ≤ 6000000)
    × (sum_by length x.colours + bytes_in x.lines ≤ most)

one_face : (f sides : ℕ) (line : TextLine) (lines : List TextLine) (face : Face) (r : Result FaceLines OffFault) →
    IsFaceRead sides line face →
    Holds (AreFaces f (sides + length face.corners) (bytes_in lines)) r →
    Holds (AreFaces (suc f) sides (length line.bytes + bytes_in lines)) (with_face face r)
one_face f sides line lines face (Ok x) here is =
    let corners = sum_by-cons length face.corners x.faces in
    let colours = sum_by-cons length face.colour x.colours in
    let few = is.2 in
    let short = is.3 in
    let colour = here.1 in
    (ap suc is.0, ap suc is.1, omega (arith, corners, few), omega (arith, colours, short, colour))
one_face f sides line lines face (Err e) here is = tt

faces_read : (v f sides : ℕ) (lines : List TextLine) → sides ≤ 6000000 →
    Holds (AreFaces f sides (bytes_in lines)) (faces_at true v f sides lines)
unfolding faces_at
faces_read v zero sides lines few = (refl, refl, omega (arith, few), omega arith)
faces_read v (suc f) sides [] few = tt
faces_read v (suc f) sides (line ∷ lines) few =
    then_holds (IsFaceRead sides line) (AreFaces (suc f) sides (length line.bytes + bytes_in lines))
    (face_of true v sides line)
    (λ face. with_face face (faces_at true v f (sides + length face.corners) lines)) (face_read v sides line)
    (λ face here. one_face f sides line lines face (faces_at true v f (sides + length face.corners) lines) here
    (faces_read v f (sides + length face.corners) lines here.0))

-- ---- the text

pub record IsRead (text : List ℕ) (read : OffParts × Mesh) : Type 0 where
  pub clean : IsOffParts read.0
  pub lines : length read.0.vertex_lines ≡ read.1.vertices
  pub colours : length read.0.colours ≡ face_count read.1
  pub few_sides : side_count read.1 ≤ 6000000
  pub short : sum_by length read.0.vertex_lines + sum_by length read.0.colours ≤ length text

-- what is read, with that it is read so
found : {A : Type 0} (P : A → Type 0) (r : Result A OffFault) → Holds P r → Holds (λ x. (r ≡ Ok x) × P x) r
found P (Ok x) is = (refl, is)
found P (Err e) is = tt

ends_so : (text : List ℕ) (read : OffParts × Mesh) (lines : List TextLine) → IsRead text read →
    Holds (IsRead text) (ended read lines)
ends_so text read [] is = is
ends_so text read (line ∷ lines) is = tt

texts_read : (text : List ℕ) → Holds (IsRead text) (off_of text)
unfolding off_in
texts_read text =
    let all = lines_short text in
    then_holds (λ head. (head_of (lines_of text) ≡ Ok head) × LinesWithin (bytes_in (lines_of text)) head)
    (IsRead text) (head_of (lines_of text)) _
    (found (LinesWithin (bytes_in (lines_of text))) (head_of (lines_of text)) (head_short (lines_of text)))
    (λ head head_is. then_holds (λ counts. Unit {0}) (IsRead text) (counts_of true head.number head.counts) _
    (anything (counts_of true head.number head.counts))
    (λ counts _. then_holds (λ x. (vertices_at counts.0 counts.1 head.lines ≡ Ok x) × AreVertices counts.0
    (bytes_in head.lines) x) (IsRead text)
    (vertices_at counts.0 counts.1 head.lines) _
    (found (AreVertices counts.0 (bytes_in head.lines)) (vertices_at counts.0 counts.1 head.lines)
    (vertices_read counts.0 counts.1 head.lines))
    (λ vertices vs. then_holds (λ x. (faces_at true counts.0 counts.1 0 vertices.1 ≡ Ok x) × AreFaces counts.1 0
    (bytes_in vertices.1) x) (IsRead text)
    (faces_at true counts.0 counts.1 0 vertices.1) _
    (found (AreFaces counts.1 0 (bytes_in vertices.1)) (faces_at true counts.0 counts.1 0 vertices.1)
    (faces_read counts.0 counts.1 0 vertices.1 (omega arith)))
    (λ faces fs.
    let within = head_is.1 in
    let lines = vs.1.1 in
    let colours = fs.1.3 in
    let sides = fs.1.2 in
    ends_so text _ faces.lines (record {
      clean = parts_clean text head counts.0 counts.1 vertices.0 vertices.1 faces head_is.0 vs.0 fs.0;
      lines = vs.1.0;
      colours = fs.1.1 ∙ sym fs.1.0;
      few_sides = omega (arith, sides);
      short = omega (arith, all, within, lines, colours);
    })))))

pub mesh_texts_are_read : (text : List ℕ) (read : OffParts × Mesh) → off_of text ≡ Ok read → IsRead text read
mesh_texts_are_read text read is = subst (λ r. Holds (IsRead text) r) is (texts_read text)
