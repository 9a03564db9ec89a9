-- What is written is read as what was handed in.
use Rattle.surf_surfaces.proofs.Common.{◌≡◌, ◌≢◌, ◌<◌, ◌≤◌, ◌+◌, ◌^◌, ℕ, zero, suc, Bool, true, false, List, [], ◌∷◌, ◌++◌, length, take, get_or, None, Ok, refl, sym, ◌∙◌, ap, subst, append_assoc, arith, codes, ◌==◌, nat_le, nat_lt, decimal, map, le-leb, lt-ltb, ne_eqb, length-map, IsFace, take-append_seam}
use Rattle.std.specs.List.{list_any, slice_split, All, AllPairs, zip}
use Rattle.surf_text.specs.Text.{TextLine, is_line_end, uncommented, trimmed, tokens_of, words_of, onto_lines, numbered_from, rest_after}
use Rattle.surf_off.specs.Off.{vertices_at, size_of, corners_at, first_repeat, face_of, faces_at}
use Rattle.surf_off.specs.Clean.{IsClean, IsVertexLine}
use Rattle.surf_text.specs.Numbers.{numbers_text}
use Rattle.surf_off.specs.Written.{lines_text, colour_text, face_text, faces_text}
use Rattle.surf_off.proofs.CleanLines.{none_head, none_tail}
use Rattle.surf_off.proofs.Decimals.{whole_decimal}
use Rattle.surf_off.proofs.NumberLines.{Small, number_line, tail_text, uncommented_is, clean_numbers, tokens_numbers, rest_numbers}

-- the lines of a text that goes on at a line of this number
abbrev pub lines_from : ℕ → List ℕ → List TextLine
lines_from n text = numbered_from n (slice_split is_line_end text)

split_line : (l rest : List ℕ) → list_any is_line_end l ≡ false → slice_split is_line_end (l ++ 10 ∷ rest) ≡ l ∷ slice_split is_line_end rest
split_line [] rest none = refl
split_line (x ∷ xs) rest none = rw (none_head is_line_end x xs none, split_line xs rest (none_tail is_line_end x xs none)) refl

-- a first line and its end
pub first_line : (n : ℕ) (l rest : List ℕ) → list_any is_line_end l ≡ false → lines_from n (l ++ 10 ∷ rest) ≡ onto_lines (record { number = n; bytes = trimmed (uncommented l) }) (tokens_of l) (lines_from (n + 1) rest)
first_line n l rest none = ap (numbered_from n) (split_line l rest none)

-- a first line that has a token and is clean
pub clean_first : (n : ℕ) (l rest token : List ℕ) (tokens : List (List ℕ)) → IsClean l → tokens_of l ≡ token ∷ tokens → lines_from n (l ++ 10 ∷ rest) ≡ record { number = n; bytes = l } ∷ lines_from (n + 1) rest
clean_first n l rest token tokens clean some =
    first_line n l rest clean.one_line
    ∙ ap (λ (ts : List (List ℕ)). onto_lines (record { number = n; bytes = trimmed (uncommented l) }) ts (lines_from (n + 1) rest)) some
    ∙ ap (λ (bytes : List ℕ). record { number = n; bytes = bytes } ∷ lines_from (n + 1) rest) (ap trimmed (uncommented_is l clean.uncommented) ∙ clean.trimmed)

-- a first line with at least three tokens
vertex_first : (n : ℕ) (l rest : List ℕ) → IsVertexLine l → lines_from n (l ++ 10 ∷ rest) ≡ record { number = n; bytes = l } ∷ lines_from (n + 1) rest
vertex_first n l rest good = at (tokens_of l) refl good.tokens
  where
    at : (ts : List (List ℕ)) → tokens_of l ≡ ts → 3 ≤ length ts → lines_from n (l ++ 10 ∷ rest) ≡ record { number = n; bytes = l } ∷ lines_from (n + 1) rest
    at [] is le = absurd (omega arith)
    at (t ∷ ts) is le = clean_first n l rest t ts good.clean is

unfoldable pub AllLines : List (List ℕ) → Type 0
AllLines [] = Unit {0}
AllLines (l ∷ ls) = IsVertexLine l × AllLines ls

-- vertex lines, and what stands behind them
pub vertices_again : (lines : List (List ℕ)) (f n : ℕ) (rest : List ℕ) → AllLines lines → (m : ℕ) × (vertices_at (length lines) f (lines_from n (lines_text lines ++ rest)) ≡ Ok (lines, lines_from m rest))
unfolding AllLines vertices_at
vertices_again [] f n rest good = (n, refl)
vertices_again (l ∷ ls) f n rest good =
    let more = vertices_again ls f (n + 1) rest good.1 in
    let text : lines_text (l ∷ ls) ++ rest ≡ l ++ 10 ∷ (lines_text ls ++ rest) = append_assoc (l ++ codes "\n") (lines_text ls) rest ∙ append_assoc l (codes "\n") (lines_text ls ++ rest) in
    let first : lines_from n (lines_text (l ∷ ls) ++ rest) ≡ record { number = n; bytes = l } ∷ lines_from (n + 1) (lines_text ls ++ rest) = ap (lines_from n) text ∙ vertex_first n l (lines_text ls ++ rest) good.0 in
    let long : nat_le 3 (length (tokens_of l)) ≡ true = le-leb _ _ good.0.tokens in
    (more.0, rw (first, long, more.1) refl)

-- the corners that decimal texts are
corners_again : (n v place : ℕ) (us : List ℕ) → Small us → All (λ u. u < v) us → corners_at n v place (map decimal us) ≡ Ok us
unfolding corners_at Small
corners_again n v place [] small inside = refl
corners_again n v place (u ∷ us) small inside =
    let within : nat_lt u v ≡ true = lt-ltb _ _ (inside zero 0 (omega arith)) in
    let later : corners_at n v (place + 1) (map decimal us) ≡ Ok us = corners_again n v (place + 1) us small.1 (λ k d lt. inside (suc k) d (omega arith)) in
    rw (whole_decimal u small.0, within, later) refl

not_among : (seen : List ℕ) (u : ℕ) → ((k d : ℕ) → k < length seen → get_or seen k d ≢ u) → list_any (λ s. s == u) seen ≡ false
not_among [] u differ = refl
not_among (s ∷ seen) u differ = rw (ne_eqb s u (differ zero 0 (omega arith))) (not_among seen u (λ k d lt. differ (suc k) d (omega arith)))

append_first : (xs ys : List ℕ) (k d : ℕ) → k < length xs → get_or (xs ++ ys) k d ≡ get_or xs k d
append_first [] ys k d lt = absurd (omega arith)
append_first (x ∷ xs) ys zero d lt = refl
append_first (x ∷ xs) ys (suc k) d lt = append_first xs ys k d (omega arith)

append_at : (xs ys : List ℕ) (y d : ℕ) → get_or (xs ++ y ∷ ys) (length xs) d ≡ y
append_at [] ys y d = refl
append_at (x ∷ xs) ys y d = append_at xs ys y d

no_repeat_again : (seen us : List ℕ) → AllPairs (λ a b. a ≢ b) (seen ++ us) → first_repeat seen us ≡ None
unfolding first_repeat
no_repeat_again seen [] differ = refl
no_repeat_again seen (u ∷ us) differ =
    let new : list_any (λ s. s == u) seen ≡ false = not_among seen u (λ k d lt same.
    differ k (length seen) d lt (omega (arith, Rattle.std.proofs.Common.length-append seen (u ∷ us))) (append_first seen (u ∷ us) k d lt ∙ same ∙ sym (append_at seen us u d))) in
    rw new (no_repeat_again (seen ++ u ∷ []) us (subst (λ (xs : List ℕ). AllPairs (λ a b. a ≢ b) xs) (sym (append_assoc seen (u ∷ []) us)) differ))

-- a face line
face_again : (v sides n : ℕ) (us colour : List ℕ) → IsFace v us → length us < 2 ^ 64 → Small us → IsClean colour
    → face_of false v sides (record { number = n; bytes = number_line (length us) us colour }) ≡ Ok (record { corners = us; colour = colour })
unfolding face_of size_of
face_again v sides n us colour face lt small clean =
    let k = length us in
    let l = number_line k us colour in
    let others = words_of (colour_text colour) in
    let words : tokens_of l ≡ decimal k ∷ (map decimal us ++ others) = tokens_numbers k us colour lt small clean in
    let large : nat_le 3 k ≡ true = le-leb _ _ face.large in
    let enough : nat_le k (length (map decimal us ++ others)) ≡ true = le-leb _ _ (omega (arith, Rattle.std.proofs.Common.length-append (map decimal us) others, length-map us decimal)) in
    let front : take k (map decimal us ++ others) ≡ map decimal us = ap (λ (n : ℕ). take n (map decimal us ++ others)) (sym (length-map us decimal)) ∙ take-append_seam (map decimal us) others in
    let corners : corners_at n v 0 (map decimal us) ≡ Ok us = corners_again n v 0 us small face.inside in
    let once : first_repeat [] us ≡ None = no_repeat_again [] us face.distinct in
    let rest : rest_after (suc k) l ≡ colour = rest_numbers k us colour lt small clean in
    rw (words, whole_decimal k lt, large, enough, front, corners, once, rest) refl

unfoldable pub AllFaces : ℕ → List (List ℕ) → List (List ℕ) → Type 0
AllFaces v [] [] = Unit {0}
AllFaces v (f ∷ fs) (c ∷ cs) = (IsFace v f × (length f < 2 ^ 64) × Small f × IsClean c) × AllFaces v fs cs
AllFaces v [] (c ∷ cs) = ⊥
AllFaces v (f ∷ fs) [] = ⊥

-- what has no line with a token
abbrev pub Silent : List ℕ → Type 0
Silent text = (n : ℕ) → lines_from n text ≡ []

pub faces_again : (v : ℕ) (faces colours : List (List ℕ)) (sides n : ℕ) (rest : List ℕ) → AllFaces v faces colours → Silent rest
    → faces_at false v (length faces) sides (lines_from n (faces_text (zip faces colours) ++ rest)) ≡ Ok (record { faces = faces; colours = colours; lines = [] })
unfolding AllFaces faces_at
faces_again v [] [] sides n rest good silent = ap (λ (ls : List TextLine). Ok (record { faces = []; colours = []; lines = ls })) (silent n)
faces_again v [] (c ∷ cs) sides n rest good silent = absurd good
faces_again v (f ∷ fs) [] sides n rest good silent = absurd good
faces_again v (f ∷ fs) (c ∷ cs) sides n rest good silent =
    let g = good.0 in
    let k = length f in
    let more = faces_text (zip fs cs) in
    let l = number_line k f c in
    let text : faces_text (zip (f ∷ fs) (c ∷ cs)) ++ rest ≡ l ++ 10 ∷ (more ++ rest) =
    append_assoc (face_text f c) more rest
    ∙ append_assoc (decimal k) (numbers_text f ++ (colour_text c ++ codes "\n")) (more ++ rest)
    ∙ ap (λ (t : List ℕ). decimal k ++ t) (append_assoc (numbers_text f) (colour_text c ++ codes "\n") (more ++ rest) ∙ ap (λ (t : List ℕ). numbers_text f ++ t) (append_assoc (colour_text c) (codes "\n") (more ++ rest)) ∙ sym (append_assoc (numbers_text f) (colour_text c) (10 ∷ (more ++ rest))))
    ∙ sym (append_assoc (decimal k) (tail_text f c) (10 ∷ (more ++ rest))) in
    let first : lines_from n (faces_text (zip (f ∷ fs) (c ∷ cs)) ++ rest) ≡ record { number = n; bytes = l } ∷ lines_from (n + 1) (more ++ rest) =
    ap (lines_from n) text ∙ clean_first n l (more ++ rest) (decimal k) _ (clean_numbers k f c g.1 g.2 g.3) (tokens_numbers k f c g.1 g.2 g.3) in
    let face = face_again v sides n f c g.0 g.1 g.2 g.3 in
    let later = faces_again v fs cs (sides + length f) (n + 1) rest good.1 silent in
    rw (first, face, later) refl
