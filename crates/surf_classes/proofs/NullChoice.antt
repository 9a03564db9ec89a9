-- The null evidence of a boundary.
use Rattle.surf_surfaces.proofs.Common.{◌≡◌, ℕ, ◌<◌, ◌≤◌, Bool, false, List, [], ◌∷◌, refl, sym, ap, ◌∙◌, arith, inl, inr, cases_lt, eqb-true, or_cases, false_from_ne_true, false≢true, All-from_recursion, recursion_from_All, xor, Chain, dual, Mesh, face_count, edge_count, faces_of, IsSurface, boundary, cells_of, leaves_joined, down_tree}
use Rattle.std.specs.List.{AllByRecursion, filter, range_with_len}
use Rattle.surf_z2.proofs.ParityLaws.{xors, xor-same, xor_ends, xor_pairs, xor_equal, equal_xor}
use Rattle.surf_surfaces.proofs.meshes.CellLaws.{surfaces_are_cells}
use Rattle.surf_classes.specs.Evidence.{is_listed, IsChosenNull}
use Rattle.surf_classes.specs.EvidenceLaws.{BoundariesHaveEvidence, NullChoiceIsOne, NullChoiceIsFiltered, NullEvidenceGrows}
use Rattle.surf_classes.proofs.Listed.{climbing_from, climbing_at, climbing_one, passing_climb, passing_below, passing_listed}

-- sets of faces with one boundary that agree at face 0 agree at all faces
pub one_set : (mesh : Mesh) → IsSurface mesh → (a b : ℕ → Bool) →
    ((e : ℕ) → e < edge_count mesh → boundary mesh a e ≡ boundary mesh b e) → a 0 ≡ b 0 →
    (f : ℕ) → f < face_count mesh → a f ≡ b f
one_set mesh surface a b same first f l =
    xor_equal (a f) (b f)
    ((surfaces_are_cells mesh surface).complex.dual_connected (λ g. xor (a g) (b g))
    (λ e m. xor_pairs (a (faces_of mesh e).0) (b (faces_of mesh e).0) (a (faces_of mesh e).1) (b (faces_of mesh e).1)
    ∙ equal_xor (boundary mesh a e) (boundary mesh b e) (same e m)) f 0 l surface.some_face
    ∙ equal_xor (a 0) (b 0) first)

-- what is not below the number of faces is in no list of faces
not_listed : (n : ℕ) (xs : List ℕ) → AllByRecursion (λ f. f < n) xs → (k : ℕ) → n ≤ k → is_listed xs k ≡ false
not_listed n [] h k l = refl
not_listed n (x ∷ xs) h k l = false_from_ne_true (is_listed (x ∷ xs) k) (λ in'. elim (or_cases _ (is_listed xs k) in') [
  | inl here ↦ let same : k ≡ x = eqb-true k x here in let below : x < n = h.0 in omega arith
  | inr later ↦ false≢true (sym (not_listed n xs h.1 k l) ∙ later)
])

pub null_choice_is_filtered : NullChoiceIsFiltered
null_choice_is_filtered mesh surface chain set bounds without =
    let F = face_count mesh in
    let faces = filter set (range_with_len 0 F) in
    let listed : (f : ℕ) → f < F → is_listed faces f ≡ set f =
    λ f l. passing_listed set 0 F f (omega arith) (omega arith) in
    record {
      evidence = record {
        rises = climbing_at faces (passing_climb set 0 F);
        are_faces = All-from_recursion (λ f. f < F) faces (passing_below set 0 F F (omega arith));
        bounds = λ e l.
            let both = (surfaces_are_cells mesh surface).complex.dual_ends e l in
            let a = (faces_of mesh e).0 in
            let b = (faces_of mesh e).1 in
            ap (λ t. xor t (is_listed faces b)) (listed a both.0) ∙ ap (xor (set a)) (listed b both.1) ∙ bounds e l;
      };
      without_first = listed 0 surface.some_face ∙ without;
    }

-- there is no other
null_one : (mesh : Mesh) → IsSurface mesh → (chain : Chain) (xs ys : List ℕ) → IsChosenNull mesh chain xs →
    IsChosenNull mesh chain ys → xs ≡ ys
null_one mesh surface chain xs ys x y =
    let F = face_count mesh in
    climbing_one xs ys (climbing_from xs x.evidence.rises) (climbing_from ys y.evidence.rises) (λ k.
    elim (cases_lt k F) [
      | inl below ↦ one_set mesh surface (is_listed xs) (is_listed ys)
          (λ e l. x.evidence.bounds e l ∙ sym (y.evidence.bounds e l)) (x.without_first ∙ sym y.without_first) k below
      | inr above ↦
          not_listed F xs (recursion_from_All (λ f. f < F) xs x.evidence.are_faces) k above
          ∙ sym (not_listed F ys (recursion_from_All (λ f. f < F) ys y.evidence.are_faces) k above)
    ])

pub null_choice_is_one : NullChoiceIsOne
null_choice_is_one mesh surface chain (set, is) =
    let without : ℕ → Bool = λ f. xor (set f) (set 0) in
    let faces = filter without (range_with_len 0 (face_count mesh)) in
    let chosen : IsChosenNull mesh chain faces = null_choice_is_filtered mesh surface chain without
    (λ e l. xor_ends (set (faces_of mesh e).0) (set (faces_of mesh e).1) (set 0) ∙ sym (is e l)) (xor-same (set 0)) in
    (faces, chosen, λ other h. null_one mesh surface chain other faces h chosen)

pub boundaries_have_evidence : BoundariesHaveEvidence
boundaries_have_evidence mesh surface chain = (
  (λ is. let (faces, chosen, one) = null_choice_is_one mesh surface chain is in (faces, chosen.evidence)),
  (λ (faces, evidence). (is_listed faces, (λ e l. sym (evidence.bounds e l)))),
)

pub null_evidence_grows : NullEvidenceGrows
null_evidence_grows mesh surface cotree tree chain (other, is) set grows e l =
    let g = dual (cells_of mesh) in
    let both = (surfaces_are_cells mesh surface).complex.dual_ends e l in
    let a = (faces_of mesh e).0 in
    let b = (faces_of mesh e).1 in
    let constant : (f : ℕ) → f < face_count mesh → xor (set f) (other f) ≡ xor (set cotree.root) (other cotree.root) =
    down_tree g cotree tree (λ n. xor (set n) (other n) ≡ xor (set cotree.root) (other cotree.root)) refl
    (λ n m ne above.
    let p = cotree.parent n in
    let edge : chain (cotree.up n) ≡ xor (other n) (other p) =
    is (cotree.up n) (tree.up_in n m ne) ∙ leaves_joined g other n p (cotree.up n) (tree.up_joins n m ne) in
    ap (λ t. xor t (other n)) (grows n m ne ∙ ap (xor (set p)) edge) ∙ around (set p) (other n) (other p) ∙ above) in
    let same : xor (set a) (other a) ≡ xor (set b) (other b) = constant a both.0 ∙ sym (constant b both.1) in
    xor_equal (xor (set a) (set b)) (xor (other a) (other b))
    (sym (xor_pairs (set a) (other a) (set b) (other b))
    ∙ equal_xor (xor (set a) (other a)) (xor (set b) (other b)) same)
    ∙ sym (is e l)
  where
    around : (s n p : Bool) → xor (xor s (xor n p)) n ≡ xor s p
    around s n p = simp xors
