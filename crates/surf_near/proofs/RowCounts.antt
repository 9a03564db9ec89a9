-- How many links all vertices have.
use Rattle.surf_near.proofs.Common.{◌≡◌, ◌≢◌, ℕ, zero, suc, ◌+◌, ◌*◌, ◌<◌, ◌≤◌, Bool, true, cond, ◌||◌, eqb, eq-eqb, ne_eqb, List, length, get_or, refl, sym, ◌∙◌, arith, inl, inr, cases_Bool, cases_eq, cases_lt, Mesh, edge_count, ends, touches, sum_below, count_below, degree}
use Rattle.std.proofs.Math.Numerals.{add-one}
use Rattle.surf_z2.proofs.Sums.{sum_below-swap, sum_below-const, count_below-all, count_below-paired}
use Rattle.surf_soup.specs.Ring.{AreEdgesAt}

-- a row is as long as there are edges at its vertex
pub row_length : (mesh : Mesh) (v : ℕ) (list : List ℕ) → AreEdgesAt mesh v list → length list ≡ degree mesh v
row_length mesh v list are =
    sym (count_below-all (length list))
    ∙ count_below-paired (length list) (edge_count mesh) (λ k. true) (λ e. touches v (ends mesh e)) (λ k. get_or list k 0)
    (λ k l h. are.at k l)
    (λ j k lj lk hj hk same. elim (cases_eq j k) [
      | inl e ↦ e
      | inr ne ↦ once j k lj lk same ne
    ])
    (λ e l on. let (k, lk, is) = are.all e (l, on) in (k, lk, refl, is))
  where
    once : (j k : ℕ) → j < length list → k < length list → get_or list j 0 ≡ get_or list k 0 → j ≢ k → j ≡ k
    once j k lj lk same ne = elim (cases_lt j k) [
      | inl less ↦ absurd (are.differ j k less lk same)
      | inr more ↦ absurd (are.differ k j (omega arith) lj (sym same))
    ]

sum_below-le : (n : ℕ) (f g : ℕ → ℕ) → ((k : ℕ) → k < n → f k ≤ g k) → sum_below n f ≤ sum_below n g
sum_below-le zero f g le = omega arith
sum_below-le (suc n) f g le =
    let here : f n ≤ g n = le n (omega arith) in
    let rest : sum_below n f ≤ sum_below n g = sum_below-le n f g (λ k l. le k (omega arith)) in
    omega arith

sum_below-longer : (n m : ℕ) (f : ℕ → ℕ) → n ≤ m → sum_below n f ≤ sum_below m f
sum_below-longer n zero f le = let z : n ≡ 0 = omega arith in rw z (omega arith)
sum_below-longer n (suc m) f le = elim (cases_eq n (suc m)) [
  | inl same ↦ rw same (omega arith)
  | inr ne ↦ let rest : sum_below n f ≤ sum_below m f = sum_below-longer n m f (omega arith) in omega arith
]

count_same : (n a : ℕ) → count_below n (λ k. eqb a k) ≤ 1
count_same zero a = omega arith
count_same (suc n) a = elim (cases_eq a n) [
  | inl same ↦ rw (eq-eqb a n same) (let z : count_below n (λ k. eqb a k) ≡ 0 = none n a (omega arith) in omega arith)
  | inr ne ↦ rw (ne_eqb a n ne) (let rest = count_same n a in omega arith)
]
  where
    none : (m a : ℕ) → m ≤ a → count_below m (λ k. eqb a k) ≡ 0
    none zero a le = refl
    none (suc m) a le = rw (ne_eqb a m (λ e. absurd (omega arith))) (let rest = none m a (omega arith) in omega arith)

count_either : (n : ℕ) (p q : ℕ → Bool) → count_below n (λ k. p k || q k) ≤ count_below n p + count_below n q
count_either zero p q = omega arith
count_either (suc n) p q =
    let rest = count_either n p q in
    elim (cases_Bool (p n)) [
      | inl yes_p ↦ rw yes_p (omega (arith, rest))
      | inr no_p ↦ rw no_p (omega (arith, rest))
    ]

-- each edge is at two vertices
pub rows_length : (mesh : Mesh) (n : ℕ) → sum_below n (degree mesh) ≤ 2 * edge_count mesh
rows_length mesh n =
    let swapped = sum_below-swap n (edge_count mesh) (λ v e. cond (touches v (ends mesh e)) 1 0) in
    let each : sum_below (edge_count mesh) (λ e. count_below n (λ v. touches v (ends mesh e))) ≤ sum_below (edge_count mesh) (λ e. 2) =
    sum_below-le (edge_count mesh) (λ e. count_below n (λ v. touches v (ends mesh e))) (λ e. 2) (λ e l.
    let two = count_either n (λ v. eqb (ends mesh e).0 v) (λ v. eqb (ends mesh e).1 v) in
    let a = count_same n (ends mesh e).0 in
    let b = count_same n (ends mesh e).1 in
    omega (arith, two, a, b)) in
    let all = sum_below-const (edge_count mesh) 2 in
    omega (arith, swapped, each, all)

pub rows_before : (mesh : Mesh) (v n : ℕ) → v < n → sum_below v (degree mesh) + degree mesh v ≤ 2 * edge_count mesh
rows_before mesh v n l =
    let all = rows_length mesh (suc v) in
    omega (arith, all)

pub rows_next : (mesh : Mesh) (v : ℕ) → sum_below (v + 1) (degree mesh) ≡ sum_below v (degree mesh) + degree mesh v
rows_next mesh v = rw (add-one v) (omega arith)
