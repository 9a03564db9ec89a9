-- Sets of numbers by parents and roots.
use Rattle.std.specs.Prelude.{◌≡◌, ℕ, ◌<◌, ◌≤◌, ◌==◌, min, max, if◌then◌else◌, List, length, get_or}

-- no number has a greater parent
abbrev pub Falls : List ℕ → Type 0
Falls parents = (x : ℕ) → x < length parents → get_or parents x 0 ≤ x

-- each number leads to its root by parents
pub record HasRoots (parents : List ℕ) (root : ℕ → ℕ) : Type 0 where
  pub falls : Falls parents
  pub low : (x : ℕ) → x < length parents → root x ≤ x
  pub same : (x : ℕ) → x < length parents → root (get_or parents x 0) ≡ root x
  pub own : (x : ℕ) → x < length parents → get_or parents x 0 ≡ x → root x ≡ x

-- the roots after the sets of two numbers are one, whose root is the lesser of theirs
abbrev pub merged : (ℕ → ℕ) → ℕ → ℕ → ℕ → ℕ
merged root x y z = if root z == max (root x) (root y) then min (root x) (root y) else root z
