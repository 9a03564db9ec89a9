-- What the lines of a certificate say, by their tokens.
use Rattle.std.specs.Prelude.{ℕ, Bool, true, ◌&&◌, ◌==◌, nat_le, nat_lt, List, [], ◌∷◌, codes, Option, Some}
use Rattle.std.specs.Prelude.{None, if◌then◌else◌, option_map, option_and_then}
use Rattle.std.specs.Cmp.Lexicographic.{pointwise}
use Rattle.std.specs.Option.{option_zip, option_map_or}
use Rattle.std.specs.Str.{bytes_eq}
use Rattle.surf_surfaces.specs.Mesh.{pair_lt}
use Rattle.surf_text.specs.Text.{whole}
use Rattle.surf_records.specs.Fits.{greatest}
use Rattle.surf_cert.specs.declared.line.Counts.{Counts}

-- what is given, where it passes the test
abbrev pub option_filter : {A : Type 0} → (A → Bool) → Option A → Option A
option_filter test given = option_and_then (λ x. if test x then Some x else None) given

-- a number is whole and at most 4,294,967,295
abbrev pub cert_number : List ℕ → Option ℕ
cert_number token = option_filter (λ n. nat_le n greatest) (whole token)

-- exactly this word
abbrev pub is_word : List ℕ → List (List ℕ) → Bool
is_word word tokens = pointwise bytes_eq tokens (word ∷ [])

-- a line that is exactly a word
abbrev pub the_word : List ℕ → List (List ℕ) → Option (Unit {0})
the_word word tokens = if is_word word tokens then Some tt else None

-- exactly the tokens SURFCERT, 1 and the word for what is certified
abbrev pub is_header : List ℕ → List (List ℕ) → Bool
is_header word tokens = pointwise bytes_eq tokens (codes "SURFCERT" ∷ codes "1" ∷ word ∷ [])

abbrev pub three_counts : Option ℕ → Option ℕ → Option ℕ → Option Counts
three_counts (Some v) (Some f) (Some k) = Some (record { vertices = v; faces = f; left = k })
three_counts _ _ _ = None

-- a line `counts V F k`
abbrev pub counts_of : List (List ℕ) → Option Counts
counts_of (word ∷ v ∷ f ∷ k ∷ []) =
    if bytes_eq word (codes "counts") then three_counts (cert_number v) (cert_number f) (cert_number k) else None
counts_of _ = None

-- a line `tree x`
abbrev pub base_of : List (List ℕ) → Option ℕ
base_of (word ∷ x ∷ []) = if bytes_eq word (codes "tree") then cert_number x else None
base_of _ = None

-- the same for this vertex alone
abbrev pub base_at : ℕ → List (List ℕ) → Option ℕ
base_at x tokens = option_filter (λ y. y == x) (base_of tokens)

-- a parent: a number, or `-` for none
abbrev pub parent_of : List ℕ → Option (Option ℕ)
parent_of token = if bytes_eq token (codes "-") then Some None else option_map (λ u. Some u) (cert_number token)

-- a line `d p` of a vertex: its distance, which is any whole number, and its parent
abbrev pub tree_row : List (List ℕ) → Option (ℕ × Option ℕ)
tree_row (d ∷ p ∷ []) = option_zip (whole d) (parent_of p)
tree_row _ = None

-- a line `u v` with u < v
abbrev pub pair_of : List (List ℕ) → Option (ℕ × ℕ)
pair_of (u ∷ v ∷ []) = option_filter (λ p. nat_lt p.0 p.1) (option_zip (cert_number u) (cert_number v))
pair_of _ = None

-- a line `depth u v` of a face, with a depth of at least 1 and u < v, or exactly `0 -`
abbrev pub dual_row : List (List ℕ) → Option (ℕ × Option (ℕ × ℕ))
dual_row (d ∷ u ∷ []) = if bytes_eq d (codes "0") && bytes_eq u (codes "-") then Some (0, None) else None
dual_row (d ∷ u ∷ v ∷ []) =
    option_zip (option_filter (nat_le 1) (cert_number d)) (option_map (λ p. Some p) (pair_of (u ∷ v ∷ [])))
dual_row _ = None

-- whether a pair stands behind the one before, if there is one
abbrev pub is_next : Option (ℕ × ℕ) → ℕ × ℕ → Bool
is_next before pair = option_map_or (λ b. pair_lt b pair) before true

-- a line `u v` with u < v, behind the pair of the line before
abbrev pub pair_behind : Option (ℕ × ℕ) → List (List ℕ) → Option (ℕ × ℕ)
pair_behind before tokens = option_filter (is_next before) (pair_of tokens)

-- the numbers that all tokens are
unfoldable pub numbers_of : List (List ℕ) → Option (List ℕ)
numbers_of [] = Some []
numbers_of (token ∷ tokens) = option_map (λ x. x.0 ∷ x.1) (option_zip (cert_number token) (numbers_of tokens))

-- a line of at least one number
abbrev pub cycle_of : List (List ℕ) → Option (List ℕ)
cycle_of [] = None
cycle_of (token ∷ tokens) = numbers_of (token ∷ tokens)
