-- Which rows of a sieve take part in reducing a vector: the last of them tells how many of the vectors that the rows came
-- from are needed for it.
use Rattle.std.specs.Prelude.{◌≡◌, ◌≤◌, ℕ, zero, suc, Bool, IsTrue, List, [], ◌∷◌, ◌++◌, length, map, take, if◌then◌else◌}
use Rattle.surf_z2.specs.Space.{Space, Spanned}
use Rattle.surf_z2.specs.Sieve.{reduce, IsSieve}

module _ {V : Type 0} (S : Space V) (is_member : V → ℕ → Bool) {R : Type 0} (pivot : R → ℕ) (reduced : R → V) where
  -- the number of a row and those before it, where one later than it was used, or else where it was
  abbrev pub used_from : Bool → ℕ → ℕ
  used_from own zero = if own then 1 else 0
  used_from own (suc n) = suc (suc n)

  -- how many rows there are up to the last that is added to the vector
  abbrev pub used : List R → V → ℕ
  used [] v = 0
  used (r ∷ rs) v =
      used_from (is_member v (pivot r)) (used rs (if is_member v (pivot r) then S.add (reduced r) v else v))

  module _ (original : R → V) where
    -- the first rows are a sieve, however many
    abbrev pub IsGradual : List R → Type 0
    IsGradual rows = (n : ℕ) → IsSieve S is_member pivot reduced original (take n rows)

    -- A set of which the rows of a sieve leave nothing is a sum of the sets that the rows came from
    -- up to the last that took part, and of no fewer first ones.
    pub record UsedLaw : Type 0 where
      pub within : (rows : List R) (v : V) → used rows v ≤ length rows
      pub spanned : (rows : List R) (v : V) → IsGradual rows → reduce S is_member pivot reduced rows v ≡ S.zero →
          Spanned S (map original (take (used rows v) rows)) v
      pub least : (rows : List R) (v : V) (n : ℕ) → IsGradual rows → Spanned S (map original (take n rows)) v →
          used rows v ≤ n
      pub none : IsGradual []
      pub admitted : (rows : List R) (r : R) → IsGradual rows →
          reduced r ≡ reduce S is_member pivot reduced rows (original r) → IsTrue (is_member (reduced r) (pivot r)) →
          IsGradual (rows ++ r ∷ [])
