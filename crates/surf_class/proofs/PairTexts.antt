-- The text of pairs.
use Rattle.surf_cert.proofs.Common.{◌≡◌, ℕ, List, [], ◌∷◌, ◌++◌, sym, ap, ◌∙◌, append_assoc, append-nil, decimal, numbers_text}
use Rattle.surf_class.proofs.Common.{both_ends}

abbrev pub end_text : ℕ × ℕ → List ℕ
end_text p = numbers_text (p.0 ∷ p.1 ∷ [])

abbrev pub ends_text : List (ℕ × ℕ) → List ℕ
ends_text ps = numbers_text (both_ends ps)

pub ends_cons : (p : ℕ × ℕ) (ps : List (ℕ × ℕ)) → ends_text (p ∷ ps) ≡ end_text p ++ ends_text ps
ends_cons p ps =
    let a = decimal p.0 in
    let b = decimal p.1 in
    let rest = ends_text ps in
    ap (λ (t : List ℕ). 32 ∷ t)
    (ap (λ (t : List ℕ). a ++ 32 ∷ (t ++ rest)) (sym (append-nil b)) ∙ sym (append_assoc a (32 ∷ (b ++ [])) rest))
