-- Tables of how many edges of a set there are at each vertex, as they are counted edge by edge.
use Rattle.std.proofs.Common.{◌≡◌, ◌≢◌, ℕ, ◌+◌, ◌<◌, ◌≤◌, ◌⊎◌, inl, inr, sym, subst, ap, ◌∙◌, eqb, List, true, false, arith, ne_eqb}
use Rattle.surf_surfaces.proofs.Common.{slice_index, count_below, Chain, Mesh, ends, touches}
use Rattle.std.proofs.lemmas.Bool.{cases_eq, and_from, and_left, and_right, or_left, or_right, or_from, eq-eqb}
use Rattle.surf_z2.proofs.Counting.{count_passes, count_fails, count_few}
use Rattle.surf_surfaces.specs.Degrees.{is_in_at, AreDegreesTo}

-- a pair touches its ends, and nothing else
pub touches_end : (v a b : ℕ) → (a ≡ v) ⊎ (b ≡ v) → touches v (a, b) ≡ true
touches_end v a b (inl e) = or_left (eqb a v) (eqb b v) (eq-eqb a v e)
touches_end v a b (inr e) = or_right (eqb a v) (eqb b v) (eq-eqb b v e)

pub touches_no : (v a b : ℕ) → a ≢ v → b ≢ v → touches v (a, b) ≡ false
touches_no v a b x y = or_from (eqb a v) (eqb b v) (ne_eqb a v x) (ne_eqb b v y)

degree_at : (mesh : Mesh) (set : Chain) (v e : ℕ) → set e ≡ true → ((ends mesh e).0 ≡ v) ⊎ ((ends mesh e).1 ≡ v) →
    count_below (e + 1) (is_in_at mesh set v) ≡ count_below e (is_in_at mesh set v) + 1
degree_at mesh set v e is at =
    count_passes (is_in_at mesh set v) e
    (and_from (set e) (touches v (ends mesh e)) is (touches_end v (ends mesh e).0 (ends mesh e).1 at))

degree_off : (mesh : Mesh) (set : Chain) (v e : ℕ) → (ends mesh e).0 ≢ v → (ends mesh e).1 ≢ v →
    count_below (e + 1) (is_in_at mesh set v) ≡ count_below e (is_in_at mesh set v)
degree_off mesh set v e a b =
    count_fails (is_in_at mesh set v) e
    (and_right (set e) (touches v (ends mesh e)) (touches_no v (ends mesh e).0 (ends mesh e).1 a b))

-- an edge that isn't in the set counts nowhere
pub degrees_none : (mesh : Mesh) (set : Chain) (e : ℕ) (degrees : List ℕ) → AreDegreesTo mesh set e degrees →
    set e ≡ false → AreDegreesTo mesh set (e + 1) degrees
degrees_none mesh set e degrees so_far free v h =
    so_far v h ∙ sym (count_fails (is_in_at mesh set v) e (and_left (set e) (touches v (ends mesh e)) free))

-- an edge of the set counts at its ends
pub degrees_more : (mesh : Mesh) (set : Chain) (e : ℕ) (old new : List ℕ) → AreDegreesTo mesh set e old → set e ≡ true →
    slice_index new (ends mesh e).0 ≡ slice_index old (ends mesh e).0 + 1 →
    slice_index new (ends mesh e).1 ≡ slice_index old (ends mesh e).1 + 1 →
    ((v : ℕ) → v ≢ (ends mesh e).0 → v ≢ (ends mesh e).1 → slice_index new v ≡ slice_index old v) →
    AreDegreesTo mesh set (e + 1) new
degrees_more mesh set e old new so_far is first second rest v h = elim (cases_eq (ends mesh e).0 v) [
  | inl i ↦ subst (λ u. slice_index new u ≡ slice_index old u + 1) i first ∙ ap (λ n. n + 1) (so_far v h) ∙ sym (degree_at mesh set v e is (inl i))
  | inr nu ↦ elim (cases_eq (ends mesh e).1 v) [
    | inl i ↦ subst (λ u. slice_index new u ≡ slice_index old u + 1) i second ∙ ap (λ n. n + 1) (so_far v h) ∙ sym (degree_at mesh set v e is (inr i))
    | inr nw ↦ rest v (λ i. nu (sym i)) (λ i. nw (sym i)) ∙ so_far v h ∙ sym (degree_off mesh set v e nu nw)
  ]
]

-- a vertex's count is no more than the edges that were gone through
pub degree_few : (mesh : Mesh) (set : Chain) (e v : ℕ) (degrees : List ℕ) → AreDegreesTo mesh set e degrees →
    v < mesh.vertices → slice_index degrees v ≤ e
degree_few mesh set e v degrees are h =
    let d = are v h in omega (arith, count_few (is_in_at mesh set v) e)
