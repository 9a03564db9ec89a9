-- The OFF format: a keyword, counts, vertex lines and face lines, over the list of lines that have a token.
-- The Geomview manual, "OFF Files", has the keyword, then the numbers of vertices, faces and edges, then the
-- vertices, then each face as a size, that many vertex numbers from 0, and a colour. Here each vertex and each
-- face is a line. The number of edges is unread.
use Rattle.std.specs.Prelude.{◌+◌, ℕ, zero, suc, Bool, true, false, ◌==◌, ◌&&◌, nat_lt, nat_le, List, [], ◌∷◌, ◌++◌}
use Rattle.std.specs.Prelude.{length, take, drop, slice_get, Option, Some, None, option_and_then, ok_or, Result, Ok}
use Rattle.std.specs.Prelude.{Err, if◌then◌else◌}
use Rattle.std.specs.List.{list_any}
use Rattle.surf_base.specs.Gives.{◌>>=◌}
use Rattle.surf_base.specs.declared.limits.LimitKind.TheVariants.{Vertices, Faces, Sides}
use Rattle.surf_surfaces.specs.Mesh.{Mesh}
use Rattle.surf_text.specs.Text.{TextLine, tokens_of, lines_of, whole, rest_after}
use Rattle.surf_off.specs.declared.fault.OffFault.{OffFault}
use Rattle.surf_off.specs.declared.fault.OffFault.TheVariants.{Header, Counts, VertexLine, FaceSize, FaceIndex}
use Rattle.surf_off.specs.declared.fault.OffFault.TheVariants.{FaceRepeat, Early, Trailing, Limit}
use Rattle.surf_off.specs.declared.header.Header.{Header as Keyword}
use Rattle.surf_off.specs.Keywords.{header_of}

-- the keyword, the number and the tokens of the counts, and the lines behind them
pub record Head : Type 0 where
  pub header : Keyword
  pub number : ℕ
  pub counts : List (List ℕ)
  pub lines : List TextLine

-- The counts stand on the keyword's line if it has a second token, or else on the next line.
abbrev pub head_with : Keyword → ℕ → List (List ℕ) → List TextLine → Result Head OffFault
head_with header n (count ∷ counts) lines =
    Ok (record { header = header; number = n; counts = count ∷ counts; lines = lines })
head_with header n [] [] = Err (Counts 0)
head_with header n [] (line ∷ lines) =
    Ok (record { header = header; number = line.number; counts = tokens_of line.bytes; lines = lines })

-- the keyword is the first token of all
unfoldable pub head_of : List TextLine → Result Head OffFault
head_of [] = Err (Header 0)
head_of (line ∷ lines) = do
  header ← ok_or (option_and_then header_of (slice_get (tokens_of line.bytes) 0)) (Header line.number)
  head_with header line.number (drop 1 (tokens_of line.bytes)) lines

-- the whole number that the token at a place is
abbrev pub number_at : List (List ℕ) → ℕ → Option ℕ
number_at tokens place = option_and_then whole (slice_get tokens place)

-- the numbers of vertices and of faces: where they are limited, at most a million vertices and two million faces
unfoldable pub counts_of : Bool → ℕ → List (List ℕ) → Result (ℕ × ℕ) OffFault
counts_of limited n tokens = do
  v ← ok_or (number_at tokens 0) (Counts n)
  f ← ok_or (number_at tokens 1) (Counts n)
  if limited && nat_lt 1000000 v then Err (Limit n Vertices)
      else (if limited && nat_lt 2000000 f then Err (Limit n Faces) else Ok (v, f))

-- so many vertex lines, each with three tokens at least, where so many face lines are to follow
unfoldable pub vertices_at : ℕ → ℕ → List TextLine → Result (List (List ℕ) × List TextLine) OffFault
vertices_at zero f lines = Ok ([], lines)
vertices_at (suc v) f [] = Err (Early (suc v + f))
vertices_at (suc v) f (line ∷ lines) =
    if nat_le 3 (length (tokens_of line.bytes))
    then (vertices_at v f lines >>= λ rest. Ok (line.bytes ∷ rest.0, rest.1))
    else Err (VertexLine line.number)

-- the size of a face, which is the first word of its line: at least three, with as many words behind it
unfoldable pub size_of : ℕ → List (List ℕ) → Result ℕ OffFault
size_of n words = do
  k ← ok_or (number_at words 0) (FaceSize n)
  if nat_le 3 k && nat_le k (length (drop 1 words)) then Ok k else Err (FaceSize n)

-- Where sides are limited, all faces so far have at most six million.
abbrev pub few_sides : Bool → ℕ → ℕ → ℕ → Result ℕ OffFault
few_sides limited n sides k = if limited && nat_lt 6000000 (sides + k) then Err (Limit n Sides) else Ok k

abbrev pub corner_read : ℕ → ℕ → ℕ → Option ℕ → Result ℕ OffFault
corner_read n v place None = Err (FaceIndex n place)
corner_read n v place (Some u) = if nat_lt u v then Ok u else Err (FaceIndex n place)

-- the vertices that the words are, the first of them at a place
unfoldable pub corners_at : ℕ → ℕ → ℕ → List (List ℕ) → Result (List ℕ) OffFault
corners_at n v place [] = Ok []
corners_at n v place (word ∷ words) =
    corner_read n v place (whole word) >>= λ u. corners_at n v (place + 1) words >>= λ us. Ok (u ∷ us)

-- the first that stands before, in the list or among those seen
unfoldable pub first_repeat : List ℕ → List ℕ → Option ℕ
first_repeat seen [] = None
first_repeat seen (u ∷ us) = if list_any (λ s. s == u) seen then Some u else first_repeat (seen ++ u ∷ []) us

abbrev pub distinct : ℕ → List ℕ → Option ℕ → Result (List ℕ) OffFault
distinct n us None = Ok us
distinct n us (Some u) = Err (FaceRepeat n u)

pub record Face : Type 0 where
  pub corners : List ℕ
  pub colour : List ℕ

-- a face line, behind faces of so many sides: what stands behind its corners is the colour
unfoldable pub face_of : Bool → ℕ → ℕ → TextLine → Result Face OffFault
face_of limited v sides line =
    let words = tokens_of line.bytes in
    size_of line.number words >>= λ size.
    few_sides limited line.number sides size >>= λ k.
    corners_at line.number v 0 (take k (drop 1 words)) >>= λ us.
    distinct line.number us (first_repeat [] us) >>= λ corners.
    Ok (record { corners = corners; colour = rest_after (suc k) line.bytes })

-- faces and their colours, and the lines behind them
pub record FaceLines : Type 0 where
  pub faces : List (List ℕ)
  pub colours : List (List ℕ)
  pub lines : List TextLine

-- so many face lines, behind faces of so many sides
unfoldable pub faces_at : Bool → ℕ → ℕ → ℕ → List TextLine → Result FaceLines OffFault
faces_at limited v zero sides lines = Ok (record { faces = []; colours = []; lines = lines })
faces_at limited v (suc f) sides [] = Err (Early (suc f))
faces_at limited v (suc f) sides (line ∷ lines) = do
  face ← face_of limited v sides line
  rest ← faces_at limited v f (sides + length face.corners) lines
  Ok (record { faces = face.corners ∷ rest.faces; colours = face.colour ∷ rest.colours; lines = rest.lines })

-- what a text has beside its mesh
pub record OffParts : Type 0 where
  pub header : Keyword
  pub vertex_lines : List (List ℕ)
  pub colours : List (List ℕ)

-- No line stands behind.
abbrev pub ended : OffParts × Mesh → List TextLine → Result (OffParts × Mesh) OffFault
ended off [] = Ok off
ended off (line ∷ lines) = Err (Trailing line.number)

unfoldable pub off_in : Bool → List TextLine → Result (OffParts × Mesh) OffFault
off_in limited lines = do
  head ← head_of lines
  counts ← counts_of limited head.number head.counts
  vertices ← vertices_at counts.0 counts.1 head.lines
  faces ← faces_at limited counts.0 counts.1 0 vertices.1
  ended (
    record { header = head.header; vertex_lines = vertices.0; colours = faces.colours },
    record { vertices = counts.0; faces = faces.faces },
  ) faces.lines

-- what a text is that is read, or its first fault
abbrev pub off_of : List ℕ → Result (OffParts × Mesh) OffFault
off_of text = off_in true (lines_of text)

-- the same without limits, for texts that are written
abbrev pub off_without_limits : List ℕ → Result (OffParts × Mesh) OffFault
off_without_limits text = off_in false (lines_of text)
