-- Rows of an elimination: each has a greatest number that no other row has.
use Rattle.std.specs.Prelude.{ℕ, ◌≡◌, ◌≢◌, ◌<◌, ◌≤◌, ◌+◌, ◌^◌, ◌++◌, List, [], ◌∷◌, All, bit_xor, length, slice_index}
use Rattle.std.specs.List.{AllByRecursion}
use Rattle.surf_z2.specs.Space.{numbers, Spanned}

-- sets of numbers below a width, as rows
pub record Rows : Type 0 where
  pub width : ℕ
  pub rows : List ℕ

-- k is the greatest number in a set
pub record IsGreatest (k set : ℕ) : Type 0 where
  pub has : 2 ^ k ≤ set
  pub most : set < 2 ^ (k + 1)

-- each row has its greatest number, and no later row has the same one
abbrev pub AreLed : List ℕ → List ℕ → Type 0
AreLed [] [] = Unit {0}
AreLed [] (k ∷ tops) = ⊥
AreLed (r ∷ rows) [] = ⊥
AreLed (r ∷ rows) (k ∷ tops) = IsGreatest k r × AllByRecursion (λ t. t ≢ k) tops × AreLed rows tops

-- a table has the place of each number of a list
abbrev pub ArePlaced : List ℕ → List ℕ → Type 0
ArePlaced tops places = (i : ℕ) → i < length tops → slice_index places (slice_index tops i) ≡ i

-- the rows with their greatest numbers, and for each of these its place
pub record IsEchelon (rows tops places : List ℕ) : Type 0 where
  pub few : length places ≤ 1024
  pub led : AreLed rows tops
  pub within : All (λ r. r < 2 ^ length places) rows
  pub placed : ArePlaced tops places

-- each row is the set at its place and a sum of the rows before it, where others stand before all
abbrev pub AreRowsAfter : List ℕ → List ℕ → List ℕ → Type 0
AreRowsAfter before [] [] = Unit {0}
AreRowsAfter before [] (s ∷ sets) = ⊥
AreRowsAfter before (r ∷ rows) [] = ⊥
AreRowsAfter before (r ∷ rows) (s ∷ sets) =
    Spanned numbers before (bit_xor s r) × AreRowsAfter (before ++ r ∷ []) rows sets

-- each row is the set at its place and a sum of the rows before it
abbrev pub AreRowsOf : List ℕ → List ℕ → Type 0
AreRowsOf rows sets = AreRowsAfter [] rows sets

-- a set was made a row, the last one
pub record IsAdmitted (old : List ℕ) (set : ℕ) (new : List ℕ) : Type 0 where
  pub row : ℕ
  pub new_is : new ≡ old ++ row ∷ []
  pub differ : Spanned numbers old (bit_xor set row)
