-- A text that is written is read, without limits, as the mesh that was handed in.
use Rattle.surf_surfaces.proofs.Common.{◌≡◌, ◌<◌, ◌+◌, ◌^◌, ℕ, zero, suc, false, List, [], ◌∷◌, ◌++◌, length, Some, Ok, refl, sym, ◌∙◌, ap, subst, append_assoc, arith, codes, decimal, slice_index, length-range_with_len, length-map, append-nil, Mesh, IsFace, IsMesh, All-nil, All-cons}
use Rattle.std.specs.List.{list_any, All, zip, range_with_len, sum_by}
use Rattle.std.proofs.lemmas.Fmt.{decimal_digit}
use Rattle.std.proofs.lemmas.List.Sums.{get_or-le-sum_by}
use Rattle.surf_text.specs.Text.{is_line_end, tokens_of}
use Rattle.surf_off.specs.declared.header.Header.{Header}
use Rattle.surf_off.specs.declared.header.Header.TheVariants.{Off, Coff, Noff, Cnoff, Stoff, Stcoff, Stnoff, Stcnoff}
use Rattle.surf_off.specs.Keywords.{keyword, header_of}
use Rattle.surf_off.specs.Off.{head_of, counts_of, OffParts, off_in, off_without_limits}
use Rattle.surf_off.specs.Clean.{IsClean, IsVertexLine, IsOffParts}
use Rattle.surf_off.specs.Written.{head_text, lines_text, faces_text, mesh_text, copies_text, lines_at, opened_text, point_text, points, no_colours, soup_text, RereadsSoup}
use Rattle.surf_off.proofs.Decimals.{word_decimal, whole_decimal}
use Rattle.surf_off.proofs.NumberLines.{Small, number_line, tail_text, tail_more, clean_numbers, tokens_numbers, none_append}
use Rattle.surf_off.proofs.Reread.{lines_from, first_line, clean_first, AllLines, vertices_again, AllFaces, Silent, faces_again}

keyword_clean : (h : Header) → IsClean (keyword h)
keyword_clean Off = record { one_line = refl; uncommented = refl; trimmed = refl }
keyword_clean Coff = record { one_line = refl; uncommented = refl; trimmed = refl }
keyword_clean Noff = record { one_line = refl; uncommented = refl; trimmed = refl }
keyword_clean Cnoff = record { one_line = refl; uncommented = refl; trimmed = refl }
keyword_clean Stoff = record { one_line = refl; uncommented = refl; trimmed = refl }
keyword_clean Stcoff = record { one_line = refl; uncommented = refl; trimmed = refl }
keyword_clean Stnoff = record { one_line = refl; uncommented = refl; trimmed = refl }
keyword_clean Stcnoff = record { one_line = refl; uncommented = refl; trimmed = refl }

keyword_tokens : (h : Header) → tokens_of (keyword h) ≡ keyword h ∷ []
keyword_tokens Off = refl
keyword_tokens Coff = refl
keyword_tokens Noff = refl
keyword_tokens Cnoff = refl
keyword_tokens Stoff = refl
keyword_tokens Stcoff = refl
keyword_tokens Stnoff = refl
keyword_tokens Stcnoff = refl

keyword_header : (h : Header) → header_of (keyword h) ≡ Some h
keyword_header Off = refl
keyword_header Coff = refl
keyword_header Noff = refl
keyword_header Cnoff = refl
keyword_header Stoff = refl
keyword_header Stcoff = refl
keyword_header Stnoff = refl
keyword_header Stcnoff = refl

module _ (h : Header) (v f e : ℕ) (small_v : v < 2 ^ 64) (small_f : f < 2 ^ 64) (small_e : e < 2 ^ 64) (rest : List ℕ) where
  counts_line : List ℕ
  counts_line = number_line v (f ∷ e ∷ []) []

  no_colour : IsClean []
  no_colour = record { one_line = refl; uncommented = refl; trimmed = refl }

  small : Small (f ∷ e ∷ [])
  unfolding Small
  small = (small_f, (small_e, tt))

  two_lines : head_text h v f e ++ rest ≡ keyword h ++ 10 ∷ (counts_line ++ 10 ∷ rest)
  unfolding counts_line
  two_lines =
      let left : head_text h v f e ++ rest ≡ keyword h ++ 10 ∷ (decimal v ++ (32 ∷ (decimal f ++ (32 ∷ (decimal e ++ 10 ∷ rest))))) = simp append_assoc in
      let tail : tail_text (f ∷ e ∷ []) [] ≡ 32 ∷ (decimal f ++ (32 ∷ decimal e)) = tail_more f (e ∷ []) [] ∙ ap (λ (t : List ℕ). 32 ∷ (decimal f ++ t)) (tail_more e [] [] ∙ ap (λ (t : List ℕ). 32 ∷ t) (append-nil (decimal e))) in
      let right : counts_line ++ 10 ∷ rest ≡ decimal v ++ (32 ∷ (decimal f ++ (32 ∷ (decimal e ++ 10 ∷ rest)))) =
      append_assoc (decimal v) (tail_text (f ∷ e ∷ []) []) (10 ∷ rest) ∙ ap (λ (t : List ℕ). decimal v ++ (t ++ 10 ∷ rest)) tail ∙ ap (λ (t : List ℕ). decimal v ++ (32 ∷ t)) (append_assoc (decimal f) (32 ∷ decimal e) (10 ∷ rest)) in
      left ∙ ap (λ (t : List ℕ). keyword h ++ 10 ∷ t) (sym right)

  -- the keyword's line and that of the counts
  head_again : head_of (lines_from 1 (head_text h v f e ++ rest)) ≡ Ok (record { header = h; number = 2; counts = decimal v ∷ decimal f ∷ decimal e ∷ []; lines = lines_from 3 rest })
  unfolding head_of counts_line
  head_again =
      let first : lines_from 1 (head_text h v f e ++ rest) ≡ record { number = 1; bytes = keyword h } ∷ lines_from 2 (counts_line ++ 10 ∷ rest) = ap (lines_from 1) two_lines ∙ clean_first 1 (keyword h) (counts_line ++ 10 ∷ rest) (keyword h) [] (keyword_clean h) (keyword_tokens h) in
      let words : tokens_of counts_line ≡ decimal v ∷ decimal f ∷ decimal e ∷ [] = tokens_numbers v (f ∷ e ∷ []) [] small_v small no_colour in
      let second : lines_from 2 (counts_line ++ 10 ∷ rest) ≡ record { number = 2; bytes = counts_line } ∷ lines_from 3 rest = clean_first 2 counts_line rest (decimal v) (decimal f ∷ decimal e ∷ []) (clean_numbers v (f ∷ e ∷ []) [] small_v small no_colour) words in
      rw (first, keyword_tokens h, keyword_header h, second, words) refl

  counts_again : counts_of false 2 (decimal v ∷ decimal f ∷ decimal e ∷ []) ≡ Ok (v, f)
  unfolding counts_of
  counts_again = rw (whole_decimal v small_v, whole_decimal f small_f) refl

pub mesh_again : (h : Header) (lines faces colours : List (List ℕ)) (e : ℕ) (rest : List ℕ) → AllLines lines → AllFaces (length lines) faces colours → Silent rest
    → length lines < 2 ^ 64 → length faces < 2 ^ 64 → e < 2 ^ 64
    → off_without_limits (mesh_text (record { header = h; vertex_lines = lines; colours = colours }) faces e ++ rest) ≡ Ok (record { header = h; vertex_lines = lines; colours = colours }, record { vertices = length lines; faces = faces })
unfolding off_in
mesh_again h lines faces colours e rest good all silent small_v small_f small_e =
    let v = length lines in
    let f = length faces in
    let last = faces_text (zip faces colours) ++ rest in
    let text : mesh_text (record { header = h; vertex_lines = lines; colours = colours }) faces e ++ rest ≡ head_text h v f e ++ (lines_text lines ++ last) =
    append_assoc (head_text h v f e) (lines_text lines ++ faces_text (zip faces colours)) rest ∙ ap (λ (t : List ℕ). head_text h v f e ++ t) (append_assoc (lines_text lines) (faces_text (zip faces colours)) rest) in
    let head = head_again h v f e small_v small_f small_e (lines_text lines ++ last) in
    let counts = counts_again h v f e small_v small_f small_e (lines_text lines ++ last) in
    let vertices = vertices_again lines f 3 last good in
    let read = faces_again v faces colours 0 vertices.0 rest all silent in
    rw (text, head, counts, vertices.1, read) refl

Indexed : List ℕ → List ℕ → Type 0
Indexed origins [] = Unit {0}
Indexed origins (i ∷ is) = (i < 2 ^ 64) × (slice_index origins i < 2 ^ 64) × Indexed origins is

-- comments are no lines
copies_silent : (origins is : List ℕ) → Indexed origins is → Silent (copies_text origins is)
unfolding Indexed
copies_silent origins [] good n = refl
copies_silent origins (i ∷ is) good n =
    let v = slice_index origins i in
    let rest = copies_text origins is in
    let l = codes "# copy " ++ (decimal i ++ (codes " from " ++ decimal v)) in
    let a = word_decimal i good.0 in
    let b = word_decimal v good.1 in
    let none : list_any is_line_end l ≡ false = none_append is_line_end (codes "# copy ") (decimal i ++ (codes " from " ++ decimal v)) refl (none_append is_line_end (decimal i) (codes " from " ++ decimal v) a.one_line (none_append is_line_end (codes " from ") (decimal v) refl b.one_line)) in
    let text : copies_text origins (i ∷ is) ≡ l ++ 10 ∷ rest = simp append_assoc in
    ap (lines_from n) text ∙ first_line n l rest none ∙ copies_silent origins is good.2 (n + 1)

indexed : (origins : List ℕ) (from n : ℕ) → from + n < 2 ^ 64 → ((i : ℕ) → slice_index origins i < 2 ^ 64) → Indexed origins (range_with_len from n)
unfolding Indexed
indexed origins from zero small all = tt
indexed origins from (suc n) small all = (omega arith, all from, indexed origins (from + 1) n (omega arith) all)

small_entries : (origins : List ℕ) (most : ℕ) → most < 2 ^ 64 → All (λ v. v < most) origins → (i : ℕ) → slice_index origins i < 2 ^ 64
small_entries [] most small inside i = omega arith
small_entries (v ∷ vs) most small inside zero = let h = inside zero 0 (omega arith) in omega (arith, h)
small_entries (v ∷ vs) most small inside (suc i) = small_entries vs most small (λ k d lt. inside (suc k) d (omega arith)) i

all_lines : (lines : List (List ℕ)) (origins : List ℕ) → All IsVertexLine lines → All (λ v. v < length lines) origins → AllLines (lines_at lines origins)
unfolding AllLines
all_lines lines [] good inside = tt
all_lines lines (v ∷ vs) good inside = (good v [] (inside zero 0 (omega arith)), all_lines lines vs good (λ k d lt. inside (suc k) d (omega arith)))

small_all : (us : List ℕ) (most : ℕ) → most < 2 ^ 64 → All (λ u. u < most) us → Small us
unfolding Small
small_all [] most small inside = tt
small_all (u ∷ us) most small inside = (let h = inside zero 0 (omega arith) in omega (arith, h), small_all us most small (λ k d lt. inside (suc k) d (omega arith)))

pub all_faces : (v : ℕ) (faces colours : List (List ℕ)) → v < 2 ^ 64 → All (IsFace v) faces → All (λ f. length f < 2 ^ 64) faces → All IsClean colours → length faces ≡ length colours → AllFaces v faces colours
unfolding AllFaces
all_faces v [] [] small good short clean same = tt
all_faces v [] (c ∷ cs) small good short clean same = omega arith
all_faces v (f ∷ fs) [] small good short clean same = omega arith
all_faces v (f ∷ fs) (c ∷ cs) small good short clean same =
    let g = good zero [] (omega arith) in (
      (g, short zero [] (omega arith), small_all f v small g.inside, clean zero [] (omega arith)),
      all_faces v fs cs small (λ k d lt. good (suc k) d (omega arith)) (λ k d lt. short (suc k) d (omega arith)) (λ k d lt. clean (suc k) d (omega arith)) (omega arith),
    )

-- The text of an opened mesh is read as its keyword, the lines of its copies, its faces and its colours.
pub opened_again : (parts : OffParts) (origins : List ℕ) (faces : List (List ℕ)) (e : ℕ) → IsOffParts parts → All (λ v. v < length parts.vertex_lines) origins → All (IsFace (length origins)) faces → All (λ f. length f < 2 ^ 64) faces
    → length faces ≡ length parts.colours → length origins < 2 ^ 64 → length parts.vertex_lines < 2 ^ 64 → length faces < 2 ^ 64 → e < 2 ^ 64
    → off_without_limits (opened_text parts origins faces e) ≡ Ok (record { header = parts.header; vertex_lines = lines_at parts.vertex_lines origins; colours = parts.colours }, record { vertices = length origins; faces = faces })
opened_again parts origins faces e kept inside good short same small_o small_v small_f small_e =
    let lines = lines_at parts.vertex_lines origins in
    let count : length lines ≡ length origins = length-map origins _ in
    let silent = copies_silent origins (range_with_len 0 (length origins)) (indexed origins 0 (length origins) (omega arith) (small_entries origins (length parts.vertex_lines) small_v inside)) in
    let all : AllFaces (length lines) faces parts.colours = subst (λ (v : ℕ). AllFaces v faces parts.colours) (sym count) (all_faces (length origins) faces parts.colours small_o good short kept.colours same) in
    mesh_again parts.header lines faces parts.colours e (copies_text origins (range_with_len 0 (length origins))) (all_lines parts.vertex_lines origins kept.vertex_lines inside) all silent (omega (arith, count)) small_f small_e
    ∙ ap (λ (v : ℕ). Ok (record { header = parts.header; vertex_lines = lines; colours = parts.colours }, record { vertices = v; faces = faces })) count

nothing_clean : IsClean []
nothing_clean = record { one_line = refl; uncommented = refl; trimmed = refl }

no_colours_clean : (faces : List (List ℕ)) → All IsClean (no_colours faces)
no_colours_clean [] = All-nil IsClean
no_colours_clean (face ∷ faces) = All-cons IsClean [] (no_colours faces) nothing_clean (no_colours_clean faces)

-- the line of a vertex of a made mesh
point_is : (v : ℕ) → point_text v ≡ number_line v (0 ∷ 0 ∷ []) []
point_is v =
    let zero_is : decimal 0 ≡ 48 ∷ [] = decimal_digit 0 (omega arith) in
    let tail : tail_text (0 ∷ 0 ∷ []) [] ≡ codes " 0 0" = rw zero_is refl in
    ap (λ (t : List ℕ). decimal v ++ t) (sym tail)

point_line : (v : ℕ) → v < 2 ^ 64 → IsVertexLine (point_text v)
unfolding Small
point_line v lt =
    let small : Small (0 ∷ 0 ∷ []) = (omega arith, (omega arith, tt)) in
    let words = tokens_numbers v (0 ∷ 0 ∷ []) [] lt small nothing_clean in
    subst IsVertexLine (sym (point_is v)) (record { clean = clean_numbers v (0 ∷ 0 ∷ []) [] lt small nothing_clean; tokens = omega (arith, ap length words) })

point_lines : (from n : ℕ) → from + n < 2 ^ 64 → AllLines (points (range_with_len from n))
unfolding AllLines
point_lines from zero small = tt
point_lines from (suc n) small = (point_line from (omega arith), point_lines (from + 1) n (omega arith))

-- The text of a made mesh is read as that mesh.
pub soup_again : (mesh : Mesh) (e : ℕ) → IsMesh mesh → All (λ f. length f < 2 ^ 64) mesh.faces → mesh.vertices < 2 ^ 64 → length mesh.faces < 2 ^ 64 → e < 2 ^ 64 → RereadsSoup mesh e
soup_again mesh e good short small_v small_f small_e =
    let v = mesh.vertices in
    let lines = points (range_with_len 0 v) in
    let count : length lines ≡ v = length-map (range_with_len 0 v) _ ∙ length-range_with_len 0 v in
    let all : AllFaces (length lines) mesh.faces (no_colours mesh.faces) = subst (λ (n : ℕ). AllFaces n mesh.faces (no_colours mesh.faces)) (sym count) (all_faces v mesh.faces (no_colours mesh.faces) small_v good short (no_colours_clean mesh.faces) (sym (length-map mesh.faces _))) in
    ap off_without_limits (sym (append-nil (soup_text mesh e)))
    ∙ mesh_again Off lines mesh.faces (no_colours mesh.faces) e [] (point_lines 0 v (omega arith)) all (λ n. refl) (omega (arith, count)) small_f small_e
    ∙ ap (λ (n : ℕ). Ok (record { header = Off; vertex_lines = lines; colours = no_colours mesh.faces }, record { vertices = n; faces = mesh.faces })) count

pub short_faces : (faces : List (List ℕ)) (most : ℕ) → sum_by length faces < most → All (λ f. length f < most) faces
short_faces faces most lt k d within = omega (arith, get_or-le-sum_by length faces k d within)
