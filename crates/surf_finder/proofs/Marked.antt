-- Vertices that are marked in a table, listed one after another.
use Rattle.surf_finder.proofs.Common.{◌≡◌, ℕ, ◌<◌, ◌≤◌, ◌+◌, Bool, true, false, List, [], ◌∷◌, ◌++◌, length, set, slice_index, take, Contains, refl, sym, ap, ◌∙◌, subst, arith, inl, inr, length-append, slice_index_or, ◌⊎◌, cases_lt, cases_eq, Mesh, edge_count, ends, IsSurface, Contains-append_left, Contains-append_right, take-append_seam, get_or-set_same, get_or-set_other, ends_in, AreMarkedIn}
use Rattle.std.proofs.Math.ListN.{get_or-append}
use Rattle.std.proofs.Math.Seq.{get_or-append_seam}

pub marked_none : (marked : List Bool) (list : List ℕ) → list ≡ [] → AreMarkedIn marked 0 list
marked_none marked list is = subst (AreMarkedIn marked 0) (sym is) (record {
  inside = λ k l. absurd (omega arith);
  rise = λ i j before l. absurd (omega arith);
  only = λ k l. absurd (omega arith);
  all = λ v l on. absurd (omega arith);
})

-- one more that is marked
pub marked_more : (marked : List Bool) (v : ℕ) (old new : List ℕ) → AreMarkedIn marked v old → new ≡ old ++ v ∷ [] →
    slice_index_or marked v false ≡ true → AreMarkedIn marked (v + 1) new
marked_more marked v old new h is on = subst (AreMarkedIn marked (v + 1)) (sym is) (record {
  inside = λ k l. elim (cases_lt k (length old)) [
    | inl less ↦ let e = front k less in let i = h.inside k less in omega (arith, e, i)
    | inr more ↦ let e = last k l more in omega (arith, e)
  ];
  rise = λ i j before l. elim (cases_lt j (length old)) [
    | inl less ↦
        let a = front i (omega arith) in
        let b = front j less in
        let r = h.rise i j before less in
        omega (arith, a, b, r)
    | inr more ↦
        let n : length (old ++ v ∷ []) ≡ length old + 1 = length-append old (v ∷ []) in
        let i_in : i < length old = omega (arith, n) in
        let a = front i i_in in
        let b = last j l more in
        let r = h.inside i i_in in
        omega (arith, a, b, r)
  ];
  only = λ k l. elim (cases_lt k (length old)) [
    | inl less ↦ ap (λ x. slice_index_or marked x false) (front k less) ∙ h.only k less
    | inr more ↦ ap (λ x. slice_index_or marked x false) (last k l more) ∙ on
  ];
  all = λ w l on_w. elim (cases_lt w v) [
    | inl less ↦ Contains-append_left old (v ∷ []) w (h.all w less on_w)
    | inr more ↦
        let same : v ≡ w = omega arith in
        Contains-append_right old (v ∷ []) w (subst (Contains (v ∷ [])) same (0, omega arith, refl))
  ];
})
  where
    front : (k : ℕ) → k < length old → slice_index (old ++ v ∷ []) k ≡ slice_index old k
    front k l = get_or-append old (v ∷ []) 0 k l

    last : (k : ℕ) → k < length (old ++ v ∷ []) → length old ≤ k → slice_index (old ++ v ∷ []) k ≡ v
    last k l le =
        let n : length (old ++ v ∷ []) ≡ length old + 1 = length-append old (v ∷ []) in
        let at : k ≡ length old = omega (arith, n) in
        ap (slice_index (old ++ v ∷ [])) at ∙ get_or-append_seam old v [] 0

-- one more that isn't
pub marked_less : (marked : List Bool) (v : ℕ) (old new : List ℕ) → AreMarkedIn marked v old → new ≡ old →
    slice_index_or marked v false ≡ false → AreMarkedIn marked (v + 1) new
marked_less marked v old new h is off = subst (AreMarkedIn marked (v + 1)) (sym is) (record {
  inside = λ k l. let i = h.inside k l in omega (arith, i);
  rise = h.rise;
  only = h.only;
  all = λ w l on. elim (cases_lt w v) [
    | inl less ↦ h.all w less on
    | inr more ↦
        let same : v ≡ w = omega arith in
        let bad : true ≡ false = sym on ∙ ap (λ x. slice_index_or marked x false) (sym same) ∙ off in cc
  ];
})

-- what is marked stays so when one more is
pub set_stays : (marked : List Bool) (u v : ℕ) → slice_index_or marked v false ≡ true → u < length marked →
    slice_index_or (set marked u true) v false ≡ true
set_stays marked u v on l = elim (cases_eq v u) [
  | inl same ↦ ap (λ x. slice_index_or (set marked u true) x false) same ∙ get_or-set_same marked u true false l
  | inr ne ↦ get_or-set_other marked u v true false ne ∙ on
]

-- the ends of an edge, as they were read, are vertices
pub ends_inside : (mesh : Mesh) → IsSurface mesh → (e : ℕ) → e < edge_count mesh → (p : ℕ × ℕ) → p ≡ ends mesh e → (p.0 < mesh.vertices) × (p.1 < mesh.vertices)
ends_inside mesh surface e e_in p is = subst (λ (q : ℕ × ℕ). (q.0 < mesh.vertices) × (q.1 < mesh.vertices)) (sym is) (ends_in mesh surface e e_in)

-- both of them are below a bound
pub either_below : (bound low high : ℕ) (p : ℕ × ℕ) → (p ≡ (low, high)) ⊎ (p ≡ (high, low)) → low < bound → high < bound → (p.0 < bound) × (p.1 < bound)
either_below bound low high p or_turned a b = elim or_turned [
  | inl same ↦ subst (λ (q : ℕ × ℕ). (q.0 < bound) × (q.1 < bound)) (sym same) (a, b)
  | inr turned ↦ subst (λ (q : ℕ × ℕ). (q.0 < bound) × (q.1 < bound)) (sym turned) (b, a)
]

pub set_there : (marked : List Bool) (u : ℕ) → u < length marked → slice_index_or (set marked u true) u false ≡ true
set_there marked u l = get_or-set_same marked u true false l

-- of two lists one after the other the first is the front
pub written_back : {X : Type 0} (xs rest : List X) (n : ℕ) → length xs ≡ n → take n (xs ++ rest) ≡ xs
written_back xs rest n is = ap (λ (k : ℕ). take k (xs ++ rest)) (sym is) ∙ take-append_seam xs rest
