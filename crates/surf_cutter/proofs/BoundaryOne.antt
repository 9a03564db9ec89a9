-- A disc has one list of its border sides in one round.
use Rattle.surf_surfaces.proofs.Common.{◌≡◌, ℕ, zero, suc, ◌+◌, ◌<◌, inl, inr, sym, subst, ◌∙◌, List, length, get_or, arith, cases_order, get_or_default, same_lists, Mesh}
use Rattle.surf_cutter.specs.Boundary.{corners_of, IsOtherAt, IsOnward, IsBoundary}

other_one : (mesh : Mesh) (c s t u : ℕ) → IsOtherAt mesh c s t → IsOtherAt mesh c s u → t ≡ u
other_one mesh c s t u a b = elim (a.no_third u b.border b.at) [ inl e ↦ absurd (b.differs e) | inr e ↦ sym e ]

onward_one : (mesh : Mesh) (before last c d : ℕ) → IsOnward mesh before last c → IsOnward mesh before last d → c ≡ d
onward_one mesh before last c d a b = b.one c a.of_last a.new

module _ (mesh : Mesh) (xs ys : List ℕ) (a : IsBoundary mesh xs) (b : IsBoundary mesh ys) where
  some : (list : List ℕ) → IsBoundary mesh list → (k : ℕ) → k < length list → 0 < length list
  some list is k h = omega arith

  first_same : 0 < length xs → 0 < length ys → get_or xs 0 0 ≡ get_or ys 0 0
  first_same h g = let p = a.first (get_or ys 0 0) (b.border 0 g) in let q = b.first (get_or xs 0 0) (a.border 0 h) in omega arith

  second_same : 1 < length xs → 1 < length ys → get_or xs 1 0 ≡ get_or ys 1 0
  second_same h g =
      let e = first_same (omega arith) (omega arith) in
      let c = (corners_of mesh (get_or ys 0 0)).1 in
      let p : IsOtherAt mesh c (get_or ys 0 0) (get_or xs 1 0) =
      subst (λ s. IsOtherAt mesh (corners_of mesh s).1 s (get_or xs 1 0)) e (a.second h) in
      other_one mesh c (get_or ys 0 0) (get_or xs 1 0) (get_or ys 1 0) p (b.second g)

  -- two that follow one another
  pair_same : (k : ℕ) → k + 1 < length xs → k + 1 < length ys →
      (get_or xs k 0 ≡ get_or ys k 0) × (get_or xs (k + 1) 0 ≡ get_or ys (k + 1) 0)
  pair_same zero h g = (first_same (omega arith) (omega arith), second_same h g)
  pair_same (suc k) h g =
      let r = pair_same k (omega arith) (omega arith) in
      let z : k + 1 ≡ suc k = omega arith in
      let y : k + 2 ≡ suc k + 1 = omega arith in
      let p = a.further k (omega arith) in
      let q = b.further k (omega arith) in
      let s = get_or ys k 0 in
      let t = get_or ys (k + 1) 0 in
      let on : IsOnward mesh s t p.0 = subst (λ s. IsOnward mesh s t p.0) r.0 (subst (λ t. IsOnward mesh (get_or xs k 0) t p.0) r.1 p.1) in
      let c : p.0 ≡ q.0 = onward_one mesh s t p.0 q.0 on q.1 in
      let at : IsOtherAt mesh q.0 t (get_or xs (k + 2) 0) = subst (λ c. IsOtherAt mesh c t (get_or xs (k + 2) 0)) c
      (subst (λ t. IsOtherAt mesh p.0 t (get_or xs (k + 2) 0)) r.1 p.2) in
      let next : get_or xs (k + 2) 0 ≡ get_or ys (k + 2) 0 = other_one mesh q.0 t (get_or xs (k + 2) 0) (get_or ys (k + 2) 0) at q.2 in (
        subst (λ k. get_or xs k 0 ≡ get_or ys k 0) z r.1,
        subst (λ k. get_or xs k 0 ≡ get_or ys k 0) y next,
      )

  all_same : (k : ℕ) → k < length xs → k < length ys → get_or xs k 0 ≡ get_or ys k 0
  all_same zero h g = first_same h g
  all_same (suc k) h g =
      let z : k + 1 ≡ suc k = omega arith in
      subst (λ k. get_or xs k 0 ≡ get_or ys k 0) z (pair_same k (omega arith) (omega arith)).1

-- neither is longer
not_longer : (mesh : Mesh) (xs ys : List ℕ) → IsBoundary mesh xs → IsBoundary mesh ys → length xs < length ys → ⊥
not_longer mesh xs ys a b h =
    let n = length xs in
    let k = a.all (get_or ys (length xs) 0) (b.border (length xs) h) in
    let lt = k.1 in
    b.once k.0 (length xs) k.1 h (sym (all_same mesh xs ys a b k.0 k.1 (omega arith)) ∙ k.2)

pub boundary_one : (mesh : Mesh) (xs ys : List ℕ) → IsBoundary mesh xs → IsBoundary mesh ys → xs ≡ ys
boundary_one mesh xs ys a b =
    let size : length xs ≡ length ys = elim (cases_order (length xs) (length ys)) [
      | inl e ↦ e
      | inr o ↦ elim o [ inl lt ↦ absurd (not_longer mesh xs ys a b lt) | inr gt ↦ absurd (not_longer mesh ys xs b a gt) ]
    ] in
    same_lists xs ys size (λ k d h.
    let lt : k < length ys = omega arith in
    get_or_default xs k d 0 h ∙ all_same mesh xs ys a b k h lt ∙ get_or_default ys k 0 d lt)
