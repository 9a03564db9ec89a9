-- The edges of steps and pairs, and flags that are turned.
use Rattle.surf_cert.proofs.Common.{◌≡◌, ℕ, ◌<◌, ◌+◌, Bool, true, false, not, eqb, List, [], ◌∷◌, length, get_or, set, take, map, refl, sym, ap, ◌∙◌, Contains, arith, inl, inr, get_or-set_same, get_or-set_other, cases_eq, eq-eqb, ne_eqb, true≢false, get_or_default, map-append, xor, odd, Mesh, pair, pair_of, pair_eq, edges, among, steps, edge_count, ends, borders, faces_of, IsSurface, IsClosed, edge_number, place_of, place_of-ends, ends-eq, among-contains, list_any_from, pair_eq-same}
use Rattle.surf_class.proofs.Common.{odd-append, steps_at, one_along}
use mathlib.Core.Bool.{beq}
use Rattle.surf_z2.proofs.ParityLaws.{xor-false, xor_assoc}
use Rattle.surf_surfaces.proofs.meshes.SurfaceLaws.{two_faces_of, one_of_two}
use Rattle.surf_class.proofs.Lists.{take_next}

-- the number of the edge with these ends
pub numbered : (mesh : Mesh) (s : ℕ × ℕ) (e : ℕ) → e < edge_count mesh → ends mesh e ≡ pair_of s → e ≡ edge_number mesh s
numbered mesh s e l is = sym (ap (λ q. place_of q (edges mesh)) (sym is) ∙ place_of-ends mesh e l)

module _ (mesh : Mesh) (walk : List ℕ) (i : ℕ) where
  -- a step of a closed walk is along an edge
  pub step_there : (a b : ℕ) → IsClosed mesh walk → i + 1 < length walk → a ≡ get_or walk i a → b ≡ get_or walk (i + 1) b →
      among (pair a b) (edges mesh) ≡ false → ⊥
  step_there a b closed step near far none =
      let at_near : a ≡ get_or walk i 0 = near ∙ get_or_default walk i a 0 (omega (arith, step)) in
      let at_far : b ≡ get_or walk (i + 1) 0 = far ∙ get_or_default walk (i + 1) b 0 step in
      let has : Contains (edges mesh) (pair a b) = rw (at_near, at_far) (one_along mesh walk i step closed.is_walk.along_edges) in
      true≢false (sym (among-contains (pair a b) (edges mesh) has) ∙ none)

  pub step_ends : (e a b : ℕ) → i + 1 < length walk → a ≡ get_or walk i a → b ≡ get_or walk (i + 1) b →
      ends mesh e ≡ pair a b → ends mesh e ≡ pair_of (get_or (steps walk) i (0, 0))
  step_ends e a b step near far is =
      let at_near : a ≡ get_or walk i 0 = near ∙ get_or_default walk i a 0 (omega (arith, step)) in
      let at_far : b ≡ get_or walk (i + 1) 0 = far ∙ get_or_default walk (i + 1) b 0 step in
      is ∙ ap (λ p. pair p b) at_near ∙ ap (pair (get_or walk i 0)) at_far ∙ ap pair_of (sym (steps_at walk i (0, 0) step))

not_is : (x : Bool) → not x ≡ xor x true
not_is true = refl
not_is false = refl

-- one flag is turned, and no other
pub flipped : (flags : List Bool) (i : ℕ) → i < length flags → (k : ℕ) →
    get_or (set flags i (not (get_or flags i false))) k false ≡ xor (get_or flags k false) (eqb k i)
flipped flags i l k = elim (cases_eq k i) [
  | inl is ↦
      let on : eqb k i ≡ true = eq-eqb k i is in
      rw (on, is) (get_or-set_same flags i (not (get_or flags i false)) false l ∙ not_is (get_or flags i false))
  | inr ne ↦
      let off : eqb k i ≡ false = ne_eqb k i ne in
      rw off (get_or-set_other flags i k (not (get_or flags i false)) false ne ∙ sym (xor-false (get_or flags k false)))
]

-- whether an edge is the one with these ends
pub test_edge : (mesh : Mesh) (p : ℕ × ℕ) (edge : ℕ) → edge < edge_count mesh → ends mesh edge ≡ p → (e : ℕ) →
    e < edge_count mesh → eqb e edge ≡ pair_eq (ends mesh e) p
test_edge mesh p edge l is e m =
    let there : among p (edges mesh) ≡ true =
    list_any_from (pair_eq p) (edges mesh) (0, 0) edge l (pair_eq-same p (ends mesh edge) (sym is)) in
    let number : place_of p (edges mesh) ≡ edge = ap (λ q. place_of q (edges mesh)) (sym is) ∙ place_of-ends mesh edge l in
    sym (ends-eq mesh p e there m ∙ ap (eqb e) number)

-- a longer front has one more
pub odd_next : {X : Type 0} (f : X → Bool) (xs : List X) (n : ℕ) (d : X) → n < length xs →
    odd (map f (take (n + 1) xs)) ≡ xor (odd (map f (take n xs))) (f (get_or xs n d))
odd_next f xs n d l =
    ap (λ ys. odd (map f ys)) (take_next xs n d l) ∙ ap odd (map-append f (take n xs) (get_or xs n d ∷ []))
    ∙ odd-append (map f (take n xs)) (f (get_or xs n d) ∷ [])
    ∙ ap (xor (odd (map f (take n xs)))) (xor-false (f (get_or xs n d)))

-- the two faces of an edge
pub both_faces : (mesh : Mesh) → IsSurface mesh → (e f : ℕ) → e < edge_count mesh →
    xor (eqb f (faces_of mesh e).0) (eqb f (faces_of mesh e).1) ≡ borders mesh f e
both_faces mesh surface e f l =
    let two = two_faces_of mesh surface e l in
    sym (one_of_two f (faces_of mesh e).0 (faces_of mesh e).1 (λ same. omega (arith, two.lesser_first)))

pub xor_chain : (x a b t : Bool) → x ≡ xor a b → xor x t ≡ xor a (xor b t)
xor_chain x a b t is = ap (λ y. xor y t) is ∙ xor_assoc a b t

-- two flags that aren't the same
pub differ_is : (a b : Bool) → not (beq a b) ≡ xor a b
differ_is true true = refl
differ_is true false = refl
differ_is false true = refl
differ_is false false = refl
