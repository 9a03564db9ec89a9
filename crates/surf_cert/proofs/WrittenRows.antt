-- Rows that are written.
use Rattle.surf_cert.proofs.Common.{◌≡◌, ◌<◌, ◌≤◌, ℕ, List, [], ◌∷◌, ◌++◌, length, get_or, drop, refl, sym, ◌∙◌, arith, codes, decimal, zip, length-zip, get_or-zip, numbers_text, cycle_line}

-- The two columns of some rows are as long as the rows.
module _ {X : Type 0} (ns : List ℕ) (xs : List X) (same : length ns ≡ length xs) where
  pub row_below : (i : ℕ) → i < length ns → i < length (zip ns xs)
  row_below i lt = omega (arith, length-zip ns xs, same, lt)

  pub rows_end : (i : ℕ) → length ns ≤ i → length (zip ns xs) ≤ i
  rows_end i le = omega (arith, length-zip ns xs, le)

  -- the entries of both columns at a place are the row there
  pub row_at : (i n : ℕ) (x : X) → i < length ns → n ≡ get_or ns i 0 → x ≡ get_or xs i x
      → (n, x) ≡ get_or (zip ns xs) i (0, x)
  row_at i n x lt first second = (λ j. (first j, second j)) ∙ sym (get_or-zip ns xs i (0, x) lt (omega (arith, same, lt)))

-- the line of a cycle: its first vertex, the others and the line's end
pub cycle_first : (vs : List ℕ) (d : ℕ) → 1 ≤ length vs
    → decimal (get_or vs 0 d) ++ (numbers_text (drop 1 vs) ++ codes "\n") ≡ cycle_line vs
cycle_first [] d some = absurd (omega arith)
cycle_first (v ∷ vs) d some = refl
