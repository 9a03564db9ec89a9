-- How many edges with signatures that aren't empty there are at each vertex, and their ends in order of that.
use Rattle.surf_search.proofs.Common.{not, ◌≡◌, ◌≢◌, ℕ, ◌+◌, ◌<◌, ◌⊎◌, inl, inr, sym, refl, subst, ap, ◌∙◌, List, length, get_or, arith, ne_eqb, nat_lt, slice_index, slice_set, cases_Bool, Mesh, edge_count, ends, IsSurface, AreDegreesTo, get_or-set_same, get_or-set_other, length-set, ends_below, SignTables, degrees_more, by_degree, is_signed}

-- one entry of a table is made one more
pub record IsRaised (at : ℕ) (old new : List ℕ) : Type 0 where
  pub there : slice_index new at ≡ slice_index old at + 1
  pub others : (v : ℕ) → at ≢ v → slice_index new v ≡ slice_index old v
  pub size : length new ≡ length old

pub raised : (at : ℕ) (old new : List ℕ) → at < length old → new ≡ slice_set old at (slice_index old at + 1) →
    IsRaised at old new
raised at old new at_in is = record {
  there = ap (λ (xs : List ℕ). get_or xs at 0) is ∙ get_or-set_same old at (get_or old at 0 + 1) 0 at_in;
  others = λ v ne. ap (λ (xs : List ℕ). get_or xs v 0) is ∙ get_or-set_other old at v (get_or old at 0 + 1) 0 (λ same. ne (sym same));
  size = ap length is ∙ length-set old at (get_or old at 0 + 1);
}

-- the ends of an edge, as they were read, are two vertices
pub ends_apart : (mesh : Mesh) → IsSurface mesh → (e : ℕ) → e < edge_count mesh → (p : ℕ × ℕ) → p ≡ ends mesh e → p.0 ≢ p.1
ends_apart mesh surface e e_in p is same =
    let below = ends_below mesh surface.is_mesh e e_in in
    let low = ap (λ (q : ℕ × ℕ). q.0) is in
    let high = ap (λ (q : ℕ × ℕ). q.1) is in
    omega (arith, below.0, low, high, same)

-- an edge whose signature isn't empty counts at its ends
pub degrees_raised : (mesh : Mesh) (s : SignTables) (e : ℕ) (old mid new : List ℕ) (p : ℕ × ℕ) → p.0 ≢ p.1 →
    p ≡ ends mesh e → slice_index s.signatures e ≢ 0 → AreDegreesTo mesh (is_signed s) e old → IsRaised p.0 old mid →
    IsRaised p.1 mid new → AreDegreesTo mesh (is_signed s) (e + 1) new
degrees_raised mesh s e old mid new p apart is some so_far first second =
    let low_is = ap (λ (q : ℕ × ℕ). q.0) is in
    let high_is = ap (λ (q : ℕ × ℕ). q.1) is in
    let low : slice_index new p.0 ≡ slice_index old p.0 + 1 = second.others p.0 (λ same. apart (sym same)) ∙ first.there in
    let high : slice_index new p.1 ≡ slice_index old p.1 + 1 = second.there ∙ ap (λ n. n + 1) (first.others p.1 apart) in
    degrees_more mesh (is_signed s) e old new so_far (ap not (ne_eqb (slice_index s.signatures e) 0 some))
    (subst (λ v. slice_index new v ≡ slice_index old v + 1) low_is low)
    (subst (λ v. slice_index new v ≡ slice_index old v + 1) high_is high)
    (λ v not_low not_high. second.others v (λ at. not_high (sym at ∙ high_is))
    ∙ first.others v (λ at. not_low (sym at ∙ low_is)))

-- in order of their degrees two vertices are as they were, or turned
pub kept_or_turned : (degree : ℕ → ℕ) (p : ℕ × ℕ) → (by_degree degree p ≡ p) ⊎ (by_degree degree p ≡ (p.1, p.0))
kept_or_turned degree p = elim (cases_Bool (nat_lt (degree p.1) (degree p.0))) [
  | inl less ↦ inr (rw less refl)
  | inr not_less ↦ inl (rw not_less refl)
]

-- so are two that are read so
pub as_read_or_turned : (degree : ℕ → ℕ) (p q : ℕ × ℕ) → q ≡ by_degree degree p → (q ≡ p) ⊎ (q ≡ (p.1, p.0))
as_read_or_turned degree p q is = subst (λ (r : ℕ × ℕ). (r ≡ p) ⊎ (r ≡ (p.1, p.0))) (sym is) (kept_or_turned degree p)
