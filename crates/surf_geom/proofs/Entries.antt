-- The lines of a written length file, and what each of them says.
use Rattle.surf_surfaces.proofs.Common.{◌≡◌, ◌<◌, ◌+◌, ◌^◌, ℕ, false, List, [], ◌∷◌, ◌++◌, Some, None, Option, Ok, refl, sym, ◌∙◌, ap, append_assoc, arith, codes, decimal, bytes_eq, lt-ltb, le-leb, false_from_ne_true, append-nil, Mesh, edge_count, ends, bytes_eq-Decides}
use Rattle.std.specs.List.{flat_map}
use Rattle.surf_text.specs.Text.{tokens_of, whole}
use Rattle.surf_off.specs.Clean.{IsClean}
use Rattle.surf_off.proofs.Decimals.{whole_decimal}
use Rattle.surf_off.proofs.NumberLines.{Small, number_line, tail_text, tail_more, clean_numbers, tokens_numbers}
use Rattle.surf_off.proofs.Reread.{lines_from, clean_first}
use Rattle.surf_lengths.specs.Lengths.{IsLength, longest}
use Rattle.surf_lengths.specs.Lines.{as_length, edge_named, entry_of, begins_with}
use Rattle.surf_lengths.proofs.EdgeNames.{an_edge}
use Rattle.surf_geom.specs.Texts.{entry_text}

abbrev pub entries_text : List ((ℕ × ℕ) × ℕ) → List ℕ
entries_text entries = flat_map (λ entry. entry_text entry.0 entry.1) entries

-- an edge of the mesh and its length
pub record IsEntry (mesh : Mesh) (e : ℕ) (entry : (ℕ × ℕ) × ℕ) : Type 0 where
  pub inside : e < edge_count mesh
  pub ends_are : ends mesh e ≡ entry.0
  pub rises : entry.0.0 < entry.0.1
  pub fits : entry.0.1 < 2 ^ 64
  pub length : IsLength entry.1

-- the bytes of its line
pub line_of : (ℕ × ℕ) × ℕ → List ℕ
line_of entry = number_line entry.0.0 (entry.0.1 ∷ entry.1 ∷ []) []

no_colour : IsClean []
no_colour = record { one_line = refl; uncommented = refl; trimmed = refl }

module _ (mesh : Mesh) (e : ℕ) (entry : (ℕ × ℕ) × ℕ) (is : IsEntry mesh e entry) where
  u : ℕ
  u = entry.0.0

  small : Small (entry.0.1 ∷ entry.1 ∷ [])
  unfolding Small
  small = let fits = is.fits in let most = is.length.fits in (fits, (omega arith, tt))

  small_first : entry.0.0 < 2 ^ 64
  small_first = let rises = is.rises in let fits = is.fits in omega arith

  pub tokens_are : tokens_of (line_of entry) ≡ decimal entry.0.0 ∷ decimal entry.0.1 ∷ decimal entry.1 ∷ []
  unfolding line_of
  tokens_are = tokens_numbers entry.0.0 (entry.0.1 ∷ entry.1 ∷ []) [] small_first small no_colour

  text_is : (rest : List ℕ) → entry_text entry.0 entry.1 ++ rest ≡ line_of entry ++ 10 ∷ rest
  unfolding line_of
  text_is rest =
      let left : entry_text entry.0 entry.1 ++ rest ≡ decimal entry.0.0 ++ (32 ∷ (decimal entry.0.1 ++ (32 ∷ (decimal entry.1 ++ 10 ∷ rest)))) = simp append_assoc in
      let tail : tail_text (entry.0.1 ∷ entry.1 ∷ []) [] ≡ 32 ∷ (decimal entry.0.1 ++ (32 ∷ decimal entry.1)) =
      tail_more entry.0.1 (entry.1 ∷ []) [] ∙ ap (λ (t : List ℕ). 32 ∷ (decimal entry.0.1 ++ t)) (tail_more entry.1 [] [] ∙ ap (λ (t : List ℕ). 32 ∷ t) (append-nil (decimal entry.1))) in
      let right : number_line entry.0.0 (entry.0.1 ∷ entry.1 ∷ []) [] ++ 10 ∷ rest ≡ decimal entry.0.0 ++ (32 ∷ (decimal entry.0.1 ++ (32 ∷ (decimal entry.1 ++ 10 ∷ rest)))) =
      append_assoc (decimal entry.0.0) (tail_text (entry.0.1 ∷ entry.1 ∷ []) []) (10 ∷ rest) ∙ ap (λ (t : List ℕ). decimal entry.0.0 ++ (t ++ 10 ∷ rest)) tail
      ∙ ap (λ (t : List ℕ). decimal entry.0.0 ++ (32 ∷ t)) (append_assoc (decimal entry.0.1) (32 ∷ decimal entry.1) (10 ∷ rest)) in
      left ∙ sym right

  -- the first line of a text that begins with it
  pub entry_first : (n : ℕ) (rest : List ℕ) → lines_from n (entry_text entry.0 entry.1 ++ rest) ≡ record { number = n; bytes = line_of entry } ∷ lines_from (n + 1) rest
  unfolding line_of
  entry_first n rest =
      ap (lines_from n) (text_is rest)
      ∙ clean_first n (line_of entry) rest (decimal entry.0.0) (decimal entry.0.1 ∷ decimal entry.1 ∷ []) (clean_numbers entry.0.0 (entry.0.1 ∷ entry.1 ∷ []) [] small_first small no_colour) tokens_are

  named : edge_named mesh entry.0.0 entry.0.1 ≡ Some e
  named = an_edge mesh entry.0.0 entry.0.1 e is.inside (is.ends_are ∙ sym (rw (lt-ltb entry.0.0 entry.0.1 is.rises) refl))

  a_length : as_length entry.1 ≡ Some entry.1
  a_length = rw (le-leb 1 entry.1 is.length.positive, le-leb entry.1 longest is.length.fits) refl

  -- The line gives the edge its length.
  pub entry_is : (n : ℕ) → entry_of mesh (record { number = n; bytes = line_of entry }) ≡ Ok (e, entry.1)
  entry_is n =
      let most = is.length.fits in
      let fits : entry.1 < 2 ^ 64 = omega arith in
      rw (tokens_are, whole_decimal entry.0.0 small_first, whole_decimal entry.0.1 is.fits, whole_decimal entry.1 fits, a_length, named) refl

  -- It is no first line of a file of version 2.
  pub no_version : begins_with (codes "SURFLEN") (tokens_of (line_of entry)) ≡ false
  no_version = rw tokens_are (false_from_ne_true (bytes_eq (decimal entry.0.0) (codes "SURFLEN")) (λ same. differ ((bytes_eq-Decides (decimal entry.0.0) (codes "SURFLEN")).0 same)))
    where
      differ : decimal entry.0.0 ≡ codes "SURFLEN" → ⊥
      differ same = let bad : ◌≡◌ {A = Option ℕ} (Some entry.0.0) None = sym (whole_decimal entry.0.0 small_first) ∙ ap whole same in cc
