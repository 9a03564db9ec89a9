-- Candidates for a basis: their order, which are independent, and what is kept of them.
use Rattle.std.specs.Prelude.{ℕ, suc, ◌≡◌, ◌<◌, ◌≤◌, ◌++◌, ◌==◌, ◌&&◌, ◌||◌, nat_lt, Bool, true, false, List, []}
use Rattle.std.specs.Prelude.{◌∷◌, map, length, take, drop, slice_index_or}
use Rattle.surf_z2.specs.Greedy.{greedy, greedy_after}
use Rattle.surf_z2.specs.Order.{merge}
use Rattle.surf_z2.specs.Space.{numbers, is_nothing, Spanned}
use Rattle.surf_choice.specs.declared.candidate.Candidate.{Candidate}
use Rattle.surf_choice.specs.declared.candidate.Signed.{Signed}

-- a candidate comes before another: by length, then by base, then by edge
abbrev pub earlier : Candidate → Candidate → Bool
earlier c d = nat_lt c.length d.length ||
    ((c.length == d.length) && (nat_lt c.base d.base || ((c.base == d.base) && nat_lt c.edge d.edge)))

abbrev pub signed_earlier : Signed → Signed → Bool
signed_earlier c d = earlier c.candidate d.candidate

-- of two lists in order the first has the next candidate
abbrev pub has_next : List Signed → List Signed → Bool
has_next [] ds = false
has_next (c ∷ cs) [] = true
has_next (c ∷ cs) (d ∷ ds) = signed_earlier c d

-- of candidates in order, each whose signature is no sum of those of the candidates before it
abbrev pub independent_of : List Signed → List Signed
independent_of cs = greedy numbers is_nothing (λ c. c.signature) cs

abbrev pub candidates : List Signed → List Candidate
candidates cs = map (λ c. c.candidate) cs

abbrev pub signatures : List Signed → List ℕ
signatures cs = map (λ c. c.signature) cs

-- some that are kept, and of candidates in order each that is independent of those and of the ones before it
abbrev pub kept_after : List Signed → List Signed → List Signed
kept_after kept cs = kept ++ greedy_after numbers is_nothing (λ c. c.signature) (signatures kept) cs

-- of those kept, those before a place stay, and there the first of some in order comes in that is no sum of those
-- before it
pub record IsChange (kept offered : List Signed) (place fresh : ℕ) : Type 0 where
  pub place_in : place ≤ length kept
  pub fresh_in : fresh < length offered
  pub next : has_next (drop place kept) (drop fresh offered) ≡ false
  pub free : (d : Signed) → Spanned numbers (signatures (take place kept)) (slice_index_or offered fresh d).signature → ⊥
  pub rest : kept_after (take place kept) (merge signed_earlier (drop place kept) (drop fresh offered))
      ≡ independent_of (merge signed_earlier kept offered)

-- how many candidates may be independent, and those that are kept
pub record Chosen : Type 0 where
  pub width : ℕ
  pub kept : List Signed

-- a set is a sum of the first of those kept, so many of them, and the last of these is so long: 0 where there is none
pub record IsSumOfLength (kept : List Signed) (most set : ℕ) : Type 0 where
  pub count : ℕ
  pub count_in : count ≤ length kept
  pub sum : Spanned numbers (signatures (take count kept)) set
  pub none : count ≡ 0 → most ≡ 0
  pub last : (k : ℕ) (s : Signed) → suc k ≡ count → (slice_index_or kept k s).candidate.length ≡ most
