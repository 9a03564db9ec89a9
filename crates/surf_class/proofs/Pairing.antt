-- Numbers two by two.
use Rattle.std.proofs.Common.{◌≡◌, ℕ, zero, suc, ◌<◌, ◌+◌, ◌*◌, ◌/◌, List, [], ◌∷◌, length, get_or, refl, sym, ap, ◌∙◌, arith}
use Rattle.surf_class.specs.Evidences.{two_by_two}

pub two_length : (xs : List ℕ) → length (two_by_two xs) ≡ length xs / 2
two_length [] = refl
two_length (u ∷ []) = refl
two_length (u ∷ v ∷ rest) =
    let r = two_length rest in
    let half : suc (suc (length rest)) / 2 ≡ suc (length rest / 2) = omega arith in
    ap suc r ∙ sym half

-- the pair at a place
pub two_at : (xs : List ℕ) (i : ℕ) → 2 * i + 1 < length xs →
    get_or (two_by_two xs) i (0, 0) ≡ (get_or xs (2 * i) 0, get_or xs (2 * i + 1) 0)
two_at [] i l = absurd (omega arith)
two_at (u ∷ []) i l = absurd (omega arith)
two_at (u ∷ v ∷ rest) zero l = refl
two_at (u ∷ v ∷ rest) (suc i) l =
    let one : 2 * suc i ≡ suc (suc (2 * i)) = omega arith in
    let two : 2 * suc i + 1 ≡ suc (suc (2 * i + 1)) = omega arith in
    two_at rest i (omega arith)
    ∙ ap (λ n. (get_or (u ∷ v ∷ rest) n 0, get_or rest (2 * i + 1) 0)) (sym one)
    ∙ ap (λ n. (get_or (u ∷ v ∷ rest) (2 * suc i) 0, get_or (u ∷ v ∷ rest) n 0)) (sym two)
