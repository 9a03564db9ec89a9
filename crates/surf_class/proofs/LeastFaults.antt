-- Listed numbers and pairs that are none of the mesh, the least.
use Rattle.surf_cert.proofs.Common.{◌≡◌, ℕ, ◌<◌, ◌≤◌, true, false, eqb, List, length, get_or, AllPairs, Option, Some, None, refl, sym, ap, ◌∙◌, subst, arith, inl, inr, cases_order, eq-eqb, eqb-true, true≢false, get_or_default, Mesh, pair_eq, pair_lt, among, edges, face_count, MatchOption, is_some, list_any_at, list_any_from, pair_eq-same, pair_eq-true, pair_lt-trans, pair_lt-irreflexive}
use Rattle.surf_class.proofs.Common.{IsNoFace, IsNoPair}

pub no_face_at : (mesh : Mesh) (faces : List ℕ) (i f : ℕ) → AllPairs (λ a b. a < b) faces → i < length faces →
    f ≡ get_or faces i f → face_count mesh ≤ f → ((k : ℕ) → k < i → get_or faces k 0 < face_count mesh) →
    IsNoFace mesh faces f
no_face_at mesh faces i f rises l is outside before =
    let at_i : f ≡ get_or faces i 0 = is ∙ get_or_default faces i f 0 l in
    record {
      listed = list_any_from (λ x. eqb f x) faces f i l (eq-eqb f (get_or faces i f) is);
      outside = outside;
      least = λ g m in'.
          let r = list_any_at (λ x. eqb g x) faces 0 in' in
          let k = r.0 in
          let same : g ≡ get_or faces k 0 = eqb-true g (get_or faces k 0) r.2 in
          elim (cases_order k i) [
            | inr (inl less) ↦ subst (λ (n : ℕ). n < face_count mesh) (sym same) (before k less)
            | inl eq ↦ absurd (let here : get_or faces k 0 ≡ get_or faces i 0 = ap (λ n. get_or faces n 0) eq in omega (arith, same, here, at_i, m))
            | inr (inr more) ↦ absurd (let above : get_or faces i 0 < get_or faces k 0 = rises i k 0 more r.1 in omega (arith, same, above, at_i, m))
          ];
    }

pub no_pair_at : (mesh : Mesh) (pairs : List (ℕ × ℕ)) (i : ℕ) (p : ℕ × ℕ) → AllPairs (λ a b. pair_lt a b ≡ true) pairs →
    i < length pairs → p ≡ get_or pairs i p → among p (edges mesh) ≡ false →
    ((k : ℕ) → k < i → among (get_or pairs k (0, 0)) (edges mesh) ≡ true) → IsNoPair mesh pairs p.0 p.1
no_pair_at mesh pairs i p rises l is outside before =
    let at_i : p ≡ get_or pairs i (0, 0) = is ∙ get_or_default pairs i p (0, 0) l in
    record {
      listed = list_any_from (pair_eq p) pairs p i l (pair_eq-same p (get_or pairs i p) is);
      outside = outside;
      least = λ q m in'.
          let r = list_any_at (pair_eq q) pairs (0, 0) in' in
          let k = r.0 in
          let same : q ≡ get_or pairs k (0, 0) = pair_eq-true q (get_or pairs k (0, 0)) r.2 in
          elim (cases_order k i) [
            | inr (inl less) ↦ ap (λ t. among t (edges mesh)) same ∙ before k less
            | inl eq ↦ absurd (pair_lt-irreflexive q p m (same ∙ ap (λ n. get_or pairs n (0, 0)) eq ∙ sym at_i))
            | inr (inr more) ↦ absurd (
                let above : pair_lt p q ≡ true =
                subst (λ t. pair_lt t q ≡ true) (sym at_i)
                (subst (λ t. pair_lt (get_or pairs i (0, 0)) t ≡ true) (sym same) (rises i k (0, 0) more r.1)) in
                pair_lt-irreflexive q q (pair_lt-trans q p q m above) refl)
          ];
    }

-- what a search answers
pub none_found : {X : Type 0} (o : Option X) (A : Type 0) (B : X → Type 0) → is_some o ≡ false → MatchOption o A B → A
none_found None A B none h = h
none_found (Some x) A B none h = absurd (true≢false none)

pub some_found : {X : Type 0} (o : Option X) (A : Type 0) (B : X → Type 0) → is_some o ≡ true → MatchOption o A B → (x : X) × B x
some_found None A B some h = absurd (true≢false (sym some))
some_found (Some x) A B some h = (x, h)
