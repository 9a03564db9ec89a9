-- The vertex lines and colours of a text are clean.
use Rattle.surf_surfaces.proofs.Common.{◌≡◌, ◌+◌, ℕ, zero, suc, Bool, true, List, [], ◌∷◌, length, take, drop, Result, Ok, Err, refl, ap, subst, inl, inr, nat_le, cases_Bool, leb-true, All-nil, All-cons}
use Rattle.std.specs.List.{All}
use Rattle.surf_text.specs.Text.{TextLine, rest_after, tokens_of, lines_of}
use Rattle.surf_off.specs.declared.fault.OffFault.{OffFault}
use Rattle.surf_off.specs.declared.header.Header.{Header as Keyword}
use Rattle.surf_base.specs.Gives.{◌>>=◌}
use Rattle.surf_off.specs.Off.{Head, head_with, head_of, vertices_at, Face, FaceLines, size_of, few_sides, corners_at, distinct, first_repeat, face_of, faces_at}
use Rattle.surf_off.specs.Gives.{with_line}
use Rattle.surf_off.proofs.FaceLines.{with_face}
use Rattle.surf_off.specs.Clean.{IsClean, IsVertexLine, IsOffParts}
use Rattle.surf_off.proofs.CleanLines.{AllClean, clean_lines, clean_rest}

head_lines : Result Head OffFault → List TextLine
head_lines (Ok head) = head.lines
head_lines (Err e) = []

texts_of : Result (List (List ℕ) × List TextLine) OffFault → List (List ℕ)
texts_of (Ok x) = x.0
texts_of (Err e) = []

behind_of : Result (List (List ℕ) × List TextLine) OffFault → List TextLine
behind_of (Ok x) = x.1
behind_of (Err e) = []

colour_of : Result Face OffFault → List ℕ
colour_of (Ok face) = face.colour
colour_of (Err e) = []

colours_of : Result FaceLines OffFault → List (List ℕ)
colours_of (Ok faces) = faces.colours
colours_of (Err e) = []

with_clean : (header : Keyword) (n : ℕ) (words : List (List ℕ)) (lines : List TextLine) (head : Head) → head_with header n words lines ≡ Ok head → AllClean lines → AllClean head.lines
unfolding head_lines
with_clean header n (w ∷ ws) lines head is all = let e : lines ≡ head.lines = ap head_lines is in subst AllClean e all
with_clean header n [] [] head is all = absurd cc
with_clean header n [] (line ∷ lines) head is all = let e : lines ≡ head.lines = ap head_lines is in subst AllClean e all.1

head_clean : (lines : List TextLine) (head : Head) → head_of lines ≡ Ok head → AllClean lines → AllClean head.lines
unfolding head_of
head_clean [] head is all = absurd cc
head_clean (line ∷ lines) head is all = at _ is
  where
    at : (read : Result Keyword OffFault) → read >>= (λ header. head_with header line.number (drop 1 (tokens_of line.bytes)) lines) ≡ Ok head → AllClean head.lines
    at (Ok header) is = with_clean header line.number (drop 1 (tokens_of line.bytes)) lines head is all.1
    at (Err e) is = absurd cc

-- vertex lines that are read, and the lines behind them
record CleanRead (read : Result (List (List ℕ) × List TextLine) OffFault) : Type 0 where
  texts : (kept : List (List ℕ)) (rest : List TextLine) → read ≡ Ok (kept, rest) → All IsVertexLine kept × AllClean rest

clean_err : (e : OffFault) → CleanRead (Err e)
clean_err e = record { texts = λ kept rest is. absurd cc }

clean_with : (line : TextLine) (read : Result (List (List ℕ) × List TextLine) OffFault) → IsVertexLine line.bytes → CleanRead read → CleanRead (with_line line.bytes read)
unfolding texts_of behind_of
clean_with line (Err e) good clean = clean_err e
clean_with line (Ok x) good clean = record {
  texts = λ kept rest is.
      let c = clean.texts x.0 x.1 refl in
      let kept_is : line.bytes ∷ x.0 ≡ kept = ap texts_of is in
      let rest_is : x.1 ≡ rest = ap behind_of is in
      (subst (All IsVertexLine) kept_is (All-cons IsVertexLine line.bytes x.0 good c.0), subst AllClean rest_is c.1);
}

vertices_clean : (v f : ℕ) (lines : List TextLine) → AllClean lines → CleanRead (vertices_at v f lines)
unfolding vertices_at texts_of behind_of
vertices_clean zero f lines all = record {
  texts = λ kept rest is.
      let kept_is : [] ≡ kept = ap texts_of is in
      let rest_is : lines ≡ rest = ap behind_of is in
      (subst (All IsVertexLine) kept_is (All-nil IsVertexLine), subst AllClean rest_is all);
}
vertices_clean (suc v) f [] all = clean_err _
vertices_clean (suc v) f (line ∷ lines) all = elim (cases_Bool (nat_le 3 (length (tokens_of line.bytes)))) [
  | inl long ↦ rw long (clean_with line (vertices_at v f lines) (record { clean = all.0; tokens = leb-true _ _ long }) (vertices_clean v f lines all.1))
  | inr short ↦ rw short (clean_err _)
]

-- The colour of a face that is read.
pub record HasColour (P : List ℕ → Type 0) (read : Result Face OffFault) : Type 0 where
  pub colour : (face : Face) → read ≡ Ok face → P face.colour

bind_colour : {A : Type 0} (P : List ℕ → Type 0) (read : Result A OffFault) (f : A → Result Face OffFault) → ((x : A) → HasColour P (f x)) → HasColour P (read >>= f)
bind_colour P (Ok x) f has = has x
bind_colour P (Err e) f has = record { colour = λ face is. absurd cc }

-- It is what stands behind so many tokens.
pub face_colour : (P : List ℕ → Type 0) (limited : Bool) (v sides : ℕ) (line : TextLine) → ((k : ℕ) → P (rest_after k line.bytes)) → HasColour P (face_of limited v sides line)
unfolding face_of colour_of
face_colour P limited v sides line has =
    let words = tokens_of line.bytes in
    bind_colour P (size_of line.number words) _ (λ size.
    bind_colour P (few_sides limited line.number sides size) _ (λ k.
    bind_colour P (corners_at line.number v 0 (take k (drop 1 words))) _ (λ us.
    bind_colour P (distinct line.number us (first_repeat [] us)) _ (λ corners.
    record { colour = λ face is. let e : rest_after (suc k) line.bytes ≡ face.colour = ap colour_of is in subst P e (has (suc k)) }))))

record CleanFaces (read : Result FaceLines OffFault) : Type 0 where
  colours : (faces : FaceLines) → read ≡ Ok faces → All IsClean faces.colours

clean_face : (face : Face) (read : Result FaceLines OffFault) → IsClean face.colour → CleanFaces read → CleanFaces (with_face face read)
unfolding colours_of
clean_face face (Err e) good clean = record { colours = λ faces is. absurd cc }
clean_face face (Ok x) good clean = record {
  colours = λ faces is.
      let colours_is : face.colour ∷ x.colours ≡ faces.colours = ap colours_of is in
      subst (All IsClean) colours_is (All-cons IsClean face.colour x.colours good (clean.colours x refl));
}

after_face : (read : Result Face OffFault) (rest : Face → Result FaceLines OffFault) → HasColour IsClean read → ((face : Face) → CleanFaces (rest face)) → CleanFaces (read >>= λ face. with_face face (rest face))
after_face (Ok face) rest good clean = clean_face face (rest face) (good.colour face refl) (clean face)
after_face (Err e) rest good clean = record { colours = λ faces is. absurd cc }

faces_clean : (limited : Bool) (v f sides : ℕ) (lines : List TextLine) → AllClean lines → CleanFaces (faces_at limited v f sides lines)
unfolding faces_at colours_of
faces_clean limited v zero sides lines all = record { colours = λ faces is. let none : [] ≡ faces.colours = ap colours_of is in subst (All IsClean) none (All-nil IsClean) }
faces_clean limited v (suc f) sides [] all = record { colours = λ faces is. absurd cc }
faces_clean limited v (suc f) sides (line ∷ lines) all =
    after_face (face_of limited v sides line) (λ face. faces_at limited v f (sides + length face.corners) lines) (face_colour IsClean limited v sides line (λ k. clean_rest k line.bytes all.0)) (λ face. faces_clean limited v f (sides + length face.corners) lines all.1)

pub parts_clean : (text : List ℕ) (head : Head) (v f : ℕ) (kept : List (List ℕ)) (behind : List TextLine) (faces : FaceLines)
    → head_of (lines_of text) ≡ Ok head → vertices_at v f head.lines ≡ Ok (kept, behind) → faces_at true v f 0 behind ≡ Ok faces
    → IsOffParts (record { header = head.header; vertex_lines = kept; colours = faces.colours })
parts_clean text head v f kept behind faces head_is kept_is faces_is =
    let vertices = (vertices_clean v f head.lines (head_clean (lines_of text) head head_is (clean_lines text))).texts kept behind kept_is in
    record { vertex_lines = vertices.0; colours = (faces_clean true v f 0 behind vertices.1).colours faces faces_is }
