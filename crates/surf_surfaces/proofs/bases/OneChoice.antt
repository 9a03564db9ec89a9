-- The candidates and the basis are one, whichever trees show them.
use Rattle.surf_surfaces.proofs.Common.{◌≡◌, ℕ, zero, suc, ◌+◌, ◌<◌, List, ◌++◌, refl, sym, ap, ◌∙◌, arith, subst, flat_map, range_with_len, sorted, comes_before, loops_at, IsGreedyChoice, flat_map-cons}
use Rattle.surf_surfaces.specs.ChoiceLaws.{CandidatesAreOne, BasesAreOne}
use Rattle.surf_surfaces.proofs.bases.LoopsOne.{loops_are_one}
use Rattle.surf_surfaces.proofs.bases.BasisLaws.{basis_is_one}

flat_same : {X : Type 0} (f g : ℕ → List X) (a n : ℕ) → ((k : ℕ) → k < a + n → f k ≡ g k) →
    flat_map f (range_with_len a n) ≡ flat_map g (range_with_len a n)
flat_same {X} f g a zero same = refl
flat_same {X} f g a (suc n) same =
    flat_map-cons f a (range_with_len (a + 1) n)
    ∙ ap (λ xs. xs ++ flat_map f (range_with_len (a + 1) n)) (same a (omega arith))
    ∙ ap (λ xs. g a ++ xs) (flat_same f g (a + 1) n (λ k l. same k (omega (arith, l))))
    ∙ sym (flat_map-cons g a (range_with_len (a + 1) n))

pub candidates_are_one : CandidatesAreOne
candidates_are_one mesh lengths a b surface positive x y =
    ap (sorted comes_before)
    (flat_same (λ n. loops_at mesh lengths n (a n)) (λ n. loops_at mesh lengths n (b n)) 0 mesh.vertices
    (λ n l. loops_are_one mesh lengths n (a n) (b n) surface positive (x n (omega (arith, l))) (y n (omega (arith, l)))))

pub bases_are_one : BasesAreOne
bases_are_one mesh lengths a b basis other surface positive x y is is_other =
    let same = candidates_are_one mesh lengths a b surface positive x y in
    let one = basis_is_one mesh lengths a surface positive x in
    one.2 basis is ∙ sym (one.2 other (subst (λ loops. IsGreedyChoice mesh loops other) (sym same) is_other))
