-- Paths as lists of vertices and as tables of them.
use Rattle.surf_surfaces.proofs.Common.{AllPairs, ◌≢◌, AllByRecursion, ◌≡◌, ℕ, zero, suc, ◌<◌, ◌≤◌, refl, sym, ◌∙◌, List, [], ◌∷◌, length, get_or, arith, steps_from, last_from}

-- the n vertices of a table after the first
abbrev pub later : (ℕ → ℕ) → ℕ → List ℕ
later at zero = []
later at (suc n) = at 1 ∷ later (λ i. at (suc i)) n

-- the first and n more
abbrev pub listed : (ℕ → ℕ) → ℕ → List ℕ
listed at n = at 0 ∷ later at n

pub length-later : (at : ℕ → ℕ) (n : ℕ) → length (later at n) ≡ n
length-later at zero = refl
length-later at (suc n) = let rest = length-later (λ i. at (suc i)) n in omega (arith, rest)

pub listed_at : (at : ℕ → ℕ) (n i d : ℕ) → i ≤ n → get_or (listed at n) i d ≡ at i
listed_at at n zero d h = refl
listed_at at zero (suc i) d h = absurd (omega arith)
listed_at at (suc n) (suc i) d h = listed_at (λ i. at (suc i)) n i d (omega arith)

pub last_listed : (at : ℕ → ℕ) (n : ℕ) → last_from (at 0) (later at n) ≡ at n
last_listed at zero = refl
last_listed at (suc n) = last_listed (λ i. at (suc i)) n

pub listed_steps : (P : ℕ × ℕ → Type 0) (at : ℕ → ℕ) (n : ℕ) → ((i : ℕ) → i < n → P (at i, at (suc i))) →
    AllByRecursion P (steps_from (at 0) (later at n))
listed_steps P at zero all = tt
listed_steps P at (suc n) all =
    (all 0 (omega arith), listed_steps P (λ i. at (suc i)) n (λ i h. all (suc i) (omega arith)))

pub listed_distinct : (at : ℕ → ℕ) (n : ℕ) → ((i j : ℕ) → i ≤ n → j ≤ n → at i ≡ at j → i ≡ j) →
    AllPairs (λ u v. u ≢ v) (listed at n)
listed_distinct at n one i j d less below same =
    let size : length (later at n) ≡ n = length-later at n in
    let k : i ≡ j = one i j (omega arith) (omega arith)
    (sym (listed_at at n i d (omega arith)) ∙ same ∙ listed_at at n j d (omega arith)) in
    omega arith

-- the step at a place of a path
pub step_at : (P : ℕ × ℕ → Type 0) (u : ℕ) (rest : List ℕ) → AllByRecursion P (steps_from u rest) → (i : ℕ) →
    i < length rest → P (get_or (u ∷ rest) i 0, get_or (u ∷ rest) (suc i) 0)
step_at P u [] all i h = absurd (omega arith)
step_at P u (v ∷ rest) all zero h = all.0
step_at P u (v ∷ rest) all (suc i) h = step_at P v rest all.1 i (omega arith)

-- the vertex at a place of a path
abbrev pub place : List ℕ → ℕ → ℕ
place path i = get_or path i 0

pub last_place : (u : ℕ) (path : List ℕ) → last_from u path ≡ place (u ∷ path) (length path)
last_place u [] = refl
last_place u (v ∷ rest) = last_place v rest
