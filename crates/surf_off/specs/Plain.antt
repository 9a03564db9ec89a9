-- Texts that begin with a plain face: its size and as many vertices, all numbers of 32 bits, a space between any two.
use Rattle.std.specs.Prelude.{◌≡◌, ◌<◌, ◌+◌, ◌-◌, ◌==◌, ◌||◌, ℕ, Bool, true, false, List, [], ◌∷◌, ◌++◌, length, take, Some}
use Rattle.std.specs.List.{list_any, position_or_len}
use Rattle.surf_text.specs.Text.{is_line_end, short_whole}

-- each word behind a space
abbrev pub spaced : List (List ℕ) → List ℕ
spaced [] = []
spaced (word ∷ words) = (32 ∷ word) ++ spaced words

-- The words are these vertices.
abbrev pub AreVertices : ℕ → List (List ℕ) → List ℕ → Type 0
AreVertices v [] [] = Unit {0}
AreVertices v [] (u ∷ us) = ⊥
AreVertices v (word ∷ words) [] = ⊥
AreVertices v (word ∷ words) (u ∷ us) = (short_whole word ≡ Some u) × (u < v) × AreVertices v words us

-- a blank, a line end or a comment sign
abbrev pub is_end : ℕ → Bool
is_end b = b == 32 || b == 9 || b == 13 || b == 10 || b == 35

-- No token goes on here.
abbrev pub closes : List ℕ → Bool
closes [] = true
closes (b ∷ bs) = is_end b

-- The text begins with these vertices.
pub record BeginsWith (v : ℕ) (text us behind : List ℕ) : Type 0 where
  pub words : List (List ℕ)
  pub vertices : AreVertices v words us
  pub is : text ≡ spaced words ++ behind
  pub closed : closes behind ≡ true

-- The text begins with their number and these vertices.
pub record IsPlain (v : ℕ) (text us behind : List ℕ) : Type 0 where
  pub size : List ℕ
  pub count : short_whole size ≡ Some (length us)
  pub rest : List ℕ
  pub is : text ≡ size ++ rest
  pub corners : BeginsWith v rest us behind

-- The second text is what stands behind a first part of the first line.
pub record IsBehind (text behind : List ℕ) : Type 0 where
  pub front : List ℕ
  pub some : 0 < length front
  pub one_line : list_any is_line_end front ≡ false
  pub is : text ≡ front ++ behind

-- the first line of a text, by what stands behind a first part of it
abbrev pub line_before : List ℕ → List ℕ → List ℕ
line_before text behind = take (length text - length behind + position_or_len is_line_end behind) text
