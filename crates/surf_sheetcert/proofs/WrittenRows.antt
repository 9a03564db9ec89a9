-- Lines that are written in parts, and rows of two lists.
use Rattle.surf_cert.proofs.Common.{◌≡◌, ◌<◌, ◌≤◌, ℕ, List, ◌∷◌, ◌++◌, length, get_or, sym, ◌∙◌, append_assoc, arith, codes, decimal, numbers_text, zip, length-zip, get_or-zip}
use Rattle.surf_sheetcert.specs.Written.{cocycles_line}

-- the ends of an edge, and then the numbers of its cocycles
pub edge_text : (edge : ℕ × ℕ) (numbers : List ℕ)
    → (decimal edge.0 ++ (codes " " ++ decimal edge.1)) ++ (numbers_text numbers ++ codes "\n") ≡ cocycles_line (edge, numbers)
edge_text edge numbers = append_assoc (decimal edge.0) (32 ∷ decimal edge.1) (numbers_text numbers ++ codes "\n")

-- Two lists are as long as the list of their rows.
module _ {X Y : Type 0} (ps : List X) (ns : List Y) (same : length ns ≡ length ps) where
  pub row_below : (i : ℕ) → i < length ps → i < length (zip ps ns)
  row_below i lt = omega (arith, length-zip ps ns, same, lt)

  pub rows_end : (i : ℕ) → length ps ≤ i → length (zip ps ns) ≤ i
  rows_end i le = omega (arith, length-zip ps ns, le)

  -- the entries of both at a place are the row there
  pub row_at : (i : ℕ) (p : X) (n d : Y) → i < length ps → p ≡ get_or ps i p → n ≡ get_or ns i d
      → (p, n) ≡ get_or (zip ps ns) i (p, d)
  row_at i p n d lt first second = (λ j. (first j, second j)) ∙ sym (get_or-zip ps ns i (p, d) lt (omega (arith, same, lt)))
