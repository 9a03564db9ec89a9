-- Lists that grow at the end, and walks by their steps.
use Rattle.surf_surfaces.proofs.Common.{◌≡◌, ℕ, zero, ◌<◌, ◌≤◌, ◌+◌, ◌-◌, ◌++◌, true, List, [], ◌∷◌, length, map, take, drop, get_or, sym, ◌∙◌, subst, arith, inl, inr, cases_eq, cases_lt, All, Contains, get_or_append_left, get_or_push, get_or-take, get_or-drop, length-take-le, length-drop, sum, sum_by-cons, has, false≢true}
use Rattle.surf_treecheck.proofs.Common.{Mesh, pair, pair_of, edges, steps, edge_number, edge_count, walk_length, IsSurface, ArePositive, among-contains}
use Rattle.surf_surfaces.specs.Walk.{edge_length}
use Rattle.surf_surfaces.proofs.meshes.EdgeLaws.{place_of-among}
use Rattle.surf_surfaces.proofs.meshes.FaceLaws.{pair_comm}
use Rattle.surf_treecheck.proofs.EdgeUp.{neighbour_in}
use Rattle.surf_treecheck.proofs.Steps.{all_along, one_along}
use Rattle.surf_base.specs.Tables.{at}
use Rattle.surf_certcheck.proofs.Placing.{has_none}
use Rattle.surf_sheets.specs.Rows.{SheetCert}
use Rattle.surf_sheetcheck.specs.Cocycles.{walk_set}

-- what holds of each number of a list, and of one more
pub all_new : (P : ℕ → ℕ → Type 0) (old : List ℕ) (n x : ℕ) → length old ≡ n → ((k : ℕ) → k < n → P k (at old k)) →
    P n x → (k : ℕ) → k < n + 1 → P k (at (old ++ x ∷ []) k)
all_new P old n x count before here k l = elim (cases_eq k n) [
  | inl same ↦
      subst (λ m. P m (at (old ++ x ∷ []) m)) (sym same)
      (subst (P n) (sym (get_or_push old x 0 n count)) here)
  | inr ne ↦
      subst (P k) (sym (get_or_append_left old (x ∷ []) 0 k (omega (arith, l, ne, count)))) (before k (omega (arith, l, ne)))
]

-- a walk that is odd on a cocycle has a step
pub some_step : (mesh : Mesh) (cert : SheetCert) (walk : List ℕ) (k : ℕ) → has (walk_set mesh cert walk) k ≡ true →
    1 < length walk
some_step mesh cert [] k on = absurd (false≢true (sym (has_none k) ∙ on))
some_step mesh cert (u ∷ []) k on = absurd (false≢true (sym (has_none k) ∙ on))
some_step mesh cert (u ∷ v ∷ rest) k on = omega arith

-- the vertices of a list of neighbours are vertices
module _ (mesh : Mesh) (walk : List ℕ) (surface : IsSurface mesh)
    (along : All (λ s. Contains (edges mesh) (pair_of s)) (steps walk)) (some : 1 < length walk) where
  pub walk_inside : (k : ℕ) → k < length walk → get_or walk k 0 < mesh.vertices
  walk_inside k l = elim (cases_lt (k + 1) (length walk)) [
    | inl more ↦ neighbour_in mesh (get_or walk k 0) (get_or walk (k + 1) 0) surface (one_along mesh walk k more along)
    | inr end ↦
        let back : (k - 1) + 1 ≡ k = omega (arith, l, end, some) in
        let before = one_along mesh walk (k - 1) (omega (arith, back, l)) along in
        let there : Contains (edges mesh) (pair (get_or walk (k - 1) 0) (get_or walk k 0)) =
        subst (λ j. Contains (edges mesh) (pair (get_or walk (k - 1) 0) (get_or walk j 0))) back before in
        neighbour_in mesh (get_or walk k 0) (get_or walk (k - 1) 0) surface
        (subst (Contains (edges mesh)) (pair_comm (get_or walk (k - 1) 0) (get_or walk k 0)) there)
  ]

-- a walk with a step has a length
pub some_length : (mesh : Mesh) (lengths walk : List ℕ) → ArePositive mesh lengths →
    All (λ s. Contains (edges mesh) (pair_of s)) (steps walk) → 1 < length walk → 1 ≤ walk_length mesh lengths walk
some_length mesh lengths [] positive along some = absurd (omega (arith, some))
some_length mesh lengths (u ∷ []) positive along some = absurd (omega (arith, some))
some_length mesh lengths (u ∷ v ∷ rest) positive along some =
    let has = along zero (0, 0) (omega arith) in
    let inside : edge_number mesh (u, v) < edge_count mesh =
    (place_of-among (pair u v) (edges mesh) (0, 0) (among-contains (pair u v) (edges mesh) has)).0 in
    let first = positive (edge_number mesh (u, v)) inside in
    let f : ℕ × ℕ → ℕ = λ s. edge_length lengths (edge_number mesh s) in
    let cons : walk_length mesh lengths (u ∷ v ∷ rest) ≡ edge_length lengths (edge_number mesh (u, v)) + sum (map f (steps (v ∷ rest))) =
    sum_by-cons (λ x. x) (f (u, v)) (map f (steps (v ∷ rest))) in
    omega (arith, first, cons)

-- ---- a part of a walk

module _ (walk : List ℕ) (a n : ℕ) (room : a + n ≤ length walk) where
  abbrev pub between : List ℕ
  between = take n (drop a walk)

  pub between_length : length (take n (drop a walk)) ≡ n
  between_length = let rest = length-drop a walk in length-take-le n (drop a walk) (omega (arith, rest, room))

  pub between_at : (k : ℕ) → k < n → get_or (take n (drop a walk)) k 0 ≡ get_or walk (a + k) 0
  between_at k l = get_or-take n (drop a walk) k 0 l ∙ get_or-drop a walk k 0

  pub between_along : (mesh : Mesh) → All (λ s. Contains (edges mesh) (pair_of s)) (steps walk) → 0 < n →
      All (λ s. Contains (edges mesh) (pair_of s)) (steps (take n (drop a walk)))
  between_along mesh along some =
      all_along mesh (take n (drop a walk)) (n - 1) (omega (arith, between_length, some)) (λ k l.
      let step = one_along mesh walk (a + k) (omega (arith, l, room)) along in
      let next : a + k + 1 ≡ a + (k + 1) = omega arith in
      subst (λ u. Contains (edges mesh) (pair u (get_or (take n (drop a walk)) (k + 1) 0))) (sym (between_at k (omega (arith, l))))
      (subst (λ v. Contains (edges mesh) (pair (get_or walk (a + k) 0) v)) (sym (between_at (k + 1) (omega (arith, l))))
      (subst (λ j. Contains (edges mesh) (pair (get_or walk (a + k) 0) (get_or walk j 0))) next step)))
