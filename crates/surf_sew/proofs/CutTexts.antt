-- The copy lines of the text of an opened mesh.
use Rattle.surf_sew.proofs.Common.{◌≡◌, ◌<◌, ◌+◌, ◌^◌, ℕ, zero, suc, List, [], ◌∷◌, ◌++◌, length, map, Ok, refl, sym, ◌∙◌, ap, append_assoc, arith, codes, decimal, slice_index, false, list_any, zip, range_with_len, length-map-range_with_len, get_or-map-range_with_len, ext_get_or, is_line_end, is_comment_sign, head_text, lines_text, face_text, faces_text, mesh_text, copies_text, word_decimal, number_line, clean_numbers, none_append}
use Rattle.surf_off.specs.declared.header.Header.{Header}
use Rattle.surf_off.specs.declared.header.Header.TheVariants.{Off, Coff, Noff, Cnoff, Stoff, Stcoff, Stnoff, Stcnoff}
use Rattle.surf_off.specs.Keywords.{keyword}
use Rattle.surf_off.proofs.Reread.{AllLines, AllFaces}
use Rattle.surf_sew.specs.Copies.{origins_from}
use Rattle.surf_sew.proofs.CutLines.{copies_from, quiet_line, copy_first, origin_again}

-- Behind the text the copy lines are those that follow, from some line on.
abbrev Quiet : List ℕ → Type 0
Quiet text = (n : ℕ) (rest : List ℕ) → (m : ℕ) × (copies_from n (text ++ rest) ≡ copies_from m rest)

both_quiet : (a b : List ℕ) → Quiet a → Quiet b → Quiet (a ++ b)
both_quiet a b first second n rest =
    let one = first n (b ++ rest) in
    let two = second one.0 rest in
    (two.0, ap (copies_from n) (append_assoc a b rest) ∙ one.1 ∙ two.1)

line_quiet : (l : List ℕ) → list_any is_line_end l ≡ false → list_any is_comment_sign l ≡ false → Quiet (l ++ codes "\n")
line_quiet l one_line none n rest = (n + 1, ap (copies_from n) (append_assoc l (codes "\n") rest) ∙ quiet_line n l rest one_line none)

keyword_clean : (h : Header) → (list_any is_line_end (keyword h) ≡ false) × (list_any is_comment_sign (keyword h) ≡ false)
keyword_clean Off = (refl, refl)
keyword_clean Coff = (refl, refl)
keyword_clean Noff = (refl, refl)
keyword_clean Cnoff = (refl, refl)
keyword_clean Stoff = (refl, refl)
keyword_clean Stcoff = (refl, refl)
keyword_clean Stnoff = (refl, refl)
keyword_clean Stcnoff = (refl, refl)

quiet_as : (a b : List ℕ) → a ≡ b → Quiet a → Quiet b
quiet_as a b same quiet n rest = let q = quiet n rest in (q.0, ap (λ (t : List ℕ). copies_from n (t ++ rest)) (sym same) ∙ q.1)

head_quiet : (h : Header) (v f e : ℕ) → v < 2 ^ 64 → f < 2 ^ 64 → e < 2 ^ 64 → Quiet (head_text h v f e)
head_quiet h v f e small_v small_f small_e =
    let a = word_decimal v small_v in
    let b = word_decimal f small_f in
    let c = word_decimal e small_e in
    let counts = decimal v ++ (codes " " ++ (decimal f ++ (codes " " ++ decimal e))) in
    let one_line : list_any is_line_end counts ≡ false = none_append is_line_end (decimal v) (codes " " ++ (decimal f ++ (codes " " ++ decimal e))) a.one_line (none_append is_line_end (codes " ") (decimal f ++ (codes " " ++ decimal e)) refl (none_append is_line_end (decimal f) (codes " " ++ decimal e) b.one_line (none_append is_line_end (codes " ") (decimal e) refl c.one_line))) in
    let none : list_any is_comment_sign counts ≡ false = none_append is_comment_sign (decimal v) (codes " " ++ (decimal f ++ (codes " " ++ decimal e))) a.uncommented (none_append is_comment_sign (codes " ") (decimal f ++ (codes " " ++ decimal e)) refl (none_append is_comment_sign (decimal f) (codes " " ++ decimal e) b.uncommented (none_append is_comment_sign (codes " ") (decimal e) refl c.uncommented))) in
    let text : (keyword h ++ codes "\n") ++ (counts ++ codes "\n") ≡ head_text h v f e = simp append_assoc in
    quiet_as ((keyword h ++ codes "\n") ++ (counts ++ codes "\n")) (head_text h v f e) text (both_quiet (keyword h ++ codes "\n") (counts ++ codes "\n") (line_quiet (keyword h) (keyword_clean h).0 (keyword_clean h).1) (line_quiet counts one_line none))

lines_quiet : (lines : List (List ℕ)) → AllLines lines → Quiet (lines_text lines)
unfolding AllLines
lines_quiet [] good = λ n rest. (n, refl)
lines_quiet (l ∷ ls) good = both_quiet (l ++ codes "\n") (lines_text ls) (line_quiet l good.0.clean.one_line good.0.clean.uncommented) (lines_quiet ls good.1)

faces_quiet : (v : ℕ) (faces colours : List (List ℕ)) → AllFaces v faces colours → Quiet (faces_text (zip faces colours))
unfolding AllFaces
faces_quiet v [] [] good = λ n rest. (n, refl)
faces_quiet v [] (c ∷ cs) good = absurd good
faces_quiet v (f ∷ fs) [] good = absurd good
faces_quiet v (f ∷ fs) (c ∷ cs) good =
    let g = good.0 in
    let clean = clean_numbers (length f) f c g.1 g.2 g.3 in
    let text : number_line (length f) f c ++ codes "\n" ≡ face_text f c = simp append_assoc in
    both_quiet (face_text f c) (faces_text (zip fs cs)) (quiet_as (number_line (length f) f c ++ codes "\n") (face_text f c) text (line_quiet (number_line (length f) f c) clean.one_line clean.uncommented)) (faces_quiet v fs cs good.1)

mesh_quiet : (h : Header) (lines faces colours : List (List ℕ)) (e : ℕ) → AllLines lines → AllFaces (length lines) faces colours → length lines < 2 ^ 64 → length faces < 2 ^ 64 → e < 2 ^ 64 → Quiet (mesh_text (record { header = h; vertex_lines = lines; colours = colours }) faces e)
mesh_quiet h lines faces colours e good all small_v small_f small_e =
    both_quiet (head_text h (length lines) (length faces) e) (lines_text lines ++ faces_text (zip faces colours)) (head_quiet h (length lines) (length faces) e small_v small_f small_e) (both_quiet (lines_text lines) (faces_text (zip faces colours)) (lines_quiet lines good) (faces_quiet (length lines) faces colours all))

-- the copy lines from a copy on name the origins from it on
copies_again : (origins : List ℕ) (i m n : ℕ) → i + m < 2 ^ 64 → ((k : ℕ) → slice_index origins k < 2 ^ 32) → origins_from i (copies_from n (copies_text origins (range_with_len i m))) ≡ Ok (map (slice_index origins) (range_with_len i m))
unfolding origins_from
copies_again origins i zero n few small = refl
copies_again origins i (suc m) n few small =
    let v = slice_index origins i in
    let first = copy_first n i v (omega arith) (omega (arith, small i)) (copies_text origins (range_with_len (i + 1) m)) in
    let origin = origin_again i v (omega arith) (small i) in
    let later = copies_again origins (i + 1) m (n + 1) (omega arith) small in
    rw (first, origin, later) refl

all_origins : (origins : List ℕ) → map (slice_index origins) (range_with_len 0 (length origins)) ≡ origins
all_origins origins =
    let n = length origins in
    ext_get_or 0 (map (slice_index origins) (range_with_len 0 n)) origins (length-map-range_with_len (slice_index origins) 0 n)
    (λ k lt. get_or-map-range_with_len (slice_index origins) 0 n k k 0 (omega (arith, length-map-range_with_len (slice_index origins) 0 n)) (omega arith))

pub cut_again : (h : Header) (lines faces colours : List (List ℕ)) (e : ℕ) (origins : List ℕ) → AllLines lines → AllFaces (length lines) faces colours → length lines < 2 ^ 64 → length faces < 2 ^ 64 → e < 2 ^ 64 → length origins < 2 ^ 64 → ((k : ℕ) → slice_index origins k < 2 ^ 32)
    → origins_from 0 (copies_from 1 (mesh_text (record { header = h; vertex_lines = lines; colours = colours }) faces e ++ copies_text origins (range_with_len 0 (length origins)))) ≡ Ok origins
cut_again h lines faces colours e origins good all small_v small_f small_e few small =
    let before = mesh_quiet h lines faces colours e good all small_v small_f small_e 1 (copies_text origins (range_with_len 0 (length origins))) in
    ap (origins_from 0) before.1 ∙ copies_again origins 0 (length origins) before.0 (omega arith) small ∙ ap (λ (os : List ℕ). Ok os) (all_origins origins)
