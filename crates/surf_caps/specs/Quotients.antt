-- Quotients: vectors up to the sums of some, by a linear map that takes just those sums to zero.
use Rattle.std.specs.Prelude.{◌≡◌, ℕ, Bool, List, ◌++◌, map, ◌↔◌}
use Rattle.surf_z2.specs.Space.{Space, Spanned, Independent, IsLinear}
use Rattle.surf_z2.specs.Greedy.{greedy}
use Rattle.surf_z2.specs.Sieve.{reduce, IsSieve}

module _ {V W : Type 0} (S : Space V) (T : Space W) (image : V → W) where
  -- the map is linear, and takes just the sums of the vectors to zero
  pub record IsQuotient (xs : List V) : Type 0 where
    pub linear : IsLinear S T image
    pub kernel : (v : V) → (image v ≡ T.zero) ↔ Spanned S xs v

  -- By images it is told what is a sum of the vectors of a quotient and others, and which others
  -- are independent of those.
  pub record QuotientLaw : Type 0 where
    pub spanned : (xs ys : List V) (v : V) → IsQuotient xs →
        Spanned S (xs ++ ys) v ↔ Spanned T (map image ys) (image v)
    pub independent : (xs ys : List V) → IsQuotient xs → Independent S xs →
        Independent S (xs ++ ys) ↔ Independent T (map image ys)

  -- So the greedy choice from candidates of which the first have these sums is the choice from the first, and then that
  -- from the images of the others
  module _ (is_zero : V → Bool) (is_zero_there : W → Bool) {C : Type 0} (vector : C → V) where
    -- The greedy choice from candidates of which the first have the sums of the quotient: that from
    -- the first, and that from the images of the others.
    abbrev pub QuotientChoice : Type 0
    QuotientChoice = (cs ds : List C) → IsQuotient (map vector cs) →
        greedy S is_zero vector (cs ++ ds)
        ≡ greedy S is_zero vector cs ++ greedy T is_zero_there (λ c. image (vector c)) ds

-- What is left of a vector by the rows of a sieve is such a map
module _ {V : Type 0} (S : Space V) (is_member : V → ℕ → Bool) {R : Type 0} (pivot : R → ℕ) (reduced : R → V)
    (original : R → V) where
  -- What is left by the rows of a sieve is the image of a quotient.
  abbrev pub SievesAreQuotients : Type 0
  SievesAreQuotients = (rows : List R) → IsSieve S is_member pivot reduced original rows →
      IsQuotient S S (reduce S is_member pivot reduced rows) (map original rows)
