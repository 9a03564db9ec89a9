-- Tables of starts that are sums of sizes: the rows of the flat table are the faces again.
use Rattle.surf_surfaces.proofs.Common.{◌≡◌, ◌<◌, ◌≤◌, ◌+◌, ◌-◌, ℕ, zero, suc, List, [], ◌∷◌, ◌++◌, length, get_or, take, drop, refl, sym, ◌∙◌, ap, subst, arith, sum_by, flat_map, sum_by-cons}
use Rattle.std.proofs.Math.Seq.{take-append_seam, drop-append_seam}
use Rattle.surf_rows.specs.Rows.{cut, AreEnds}
use Rattle.surf_off.specs.Written.{AreStarts, rows_at}

abbrev flat : List (List ℕ) → List ℕ
flat faces = flat_map (λ face. face) faces

-- each end is the sum of the sizes up to it
SumsFrom : ℕ → List (List ℕ) → List ℕ → Type 0
SumsFrom from faces ends = (f : ℕ) → f < length faces → get_or ends f 0 ≡ from + sum_by length (take (f + 1) faces)

record Cuts (from : ℕ) (faces : List (List ℕ)) (ends : List ℕ) : Type 0 where
  sums : AreEnds from ends (from + sum_by length faces)
  rows : cut from ends (flat faces) ≡ faces

cuts_from : (from : ℕ) (faces : List (List ℕ)) (ends : List ℕ) → length ends ≡ length faces → SumsFrom from faces ends → Cuts from faces ends
unfolding SumsFrom
cuts_from from [] [] same sums = record { sums = omega arith; rows = refl }
cuts_from from [] (e ∷ es) same sums = absurd (omega arith)
cuts_from from (face ∷ faces) [] same sums = absurd (omega arith)
cuts_from from (face ∷ faces) (e ∷ es) same sums =
    let one : e ≡ from + length face = let h = sums zero (omega arith) in h ∙ ap (λ (n : ℕ). from + n) (sum_by-cons length face []) ∙ omega arith in
    let later : SumsFrom e faces es = λ f lt.
    let h = sums (suc f) (omega arith) in
    let k : suc f + 1 ≡ suc (f + 1) = omega arith in
    let total : sum_by length (take (suc f + 1) (face ∷ faces)) ≡ length face + sum_by length (take (f + 1) faces) = ap (λ (n : ℕ). sum_by length (take n (face ∷ faces))) k ∙ sum_by-cons length face (take (f + 1) faces) in
    omega (arith, h, total, one) in
    let rest = cuts_from e faces es (omega arith) later in
    let size : e - from ≡ length face = omega (arith, one) in
    let sum : e + sum_by length faces ≡ from + sum_by length (face ∷ faces) = omega (arith, one, sum_by-cons length face faces) in
    record {
      sums = (omega (arith, one), subst (λ (t : ℕ). AreEnds e es t) sum rest.sums);
      rows = ap (λ (n : ℕ). take n (face ++ flat faces) ∷ cut e es (drop n (face ++ flat faces))) size
          ∙ ap (λ (xs : List ℕ). xs ∷ cut e es (drop (length face) (face ++ flat faces))) (take-append_seam face (flat faces))
          ∙ ap (λ (xs : List ℕ). face ∷ cut e es xs) (drop-append_seam face (flat faces))
          ∙ ap (λ (fs : List (List ℕ)). face ∷ fs) rest.rows;
    }

length-flat : (faces : List (List ℕ)) → length (flat faces) ≡ sum_by length faces
length-flat [] = refl
length-flat (face ∷ faces) = Rattle.std.proofs.Common.length-append face (flat faces) ∙ ap (λ (n : ℕ). length face + n) (length-flat faces) ∙ sym (sum_by-cons length face faces)

-- What is needed of the tables to write faces, and that their rows are the faces.
pub record AreTables (faces : List (List ℕ)) (starts : List ℕ) : Type 0 where
  pub sums : AreStarts starts (length (flat_map (λ face. face) faces))
  pub rows : rows_at starts (flat_map (λ face. face) faces) ≡ faces

pub tables_of : (faces : List (List ℕ)) (starts : List ℕ) → length starts ≡ length faces + 1 → ((f : ℕ) → f ≤ length faces → get_or starts f 0 ≡ sum_by length (take f faces)) → AreTables faces starts
unfolding SumsFrom
tables_of faces [] size at = absurd (omega arith)
tables_of faces (first ∷ ends) size at =
    let c = cuts_from 0 faces ends (omega arith) (λ f lt. let k : f + 1 ≡ suc f = omega arith in let h = at (suc f) (omega arith) in let e : sum_by length (take (suc f) faces) ≡ sum_by length (take (f + 1) faces) = ap (λ (n : ℕ). sum_by length (take n faces)) (sym k) in omega (arith, h, e)) in
    let total : 0 + sum_by length faces ≡ length (flat faces) = omega (arith, length-flat faces) in
    record { sums = (at zero (omega arith), subst (λ (t : ℕ). AreEnds 0 ends t) total c.sums); rows = c.rows }
