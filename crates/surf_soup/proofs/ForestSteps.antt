-- Parents that are halved, and sets that become one.
use Rattle.surf_surfaces.proofs.Common.{◌≡◌, ℕ, zero, suc, ◌<◌, ◌≤◌, cond, eqb, min, max, List, length, get_or, set, subst, refl, sym, ap, ◌∙◌, arith, inl, inr, cases_eq, eq-eqb, ne_eqb}
use Rattle.std.proofs.lemmas.List.{length-set, get_or-set_same, get_or-set_other}
use Rattle.surf_soup.specs.Forest.{Falls, HasRoots, merged}

-- a parent that is no greater takes the place of another
pub falls_set : (parents : List ℕ) (x y : ℕ) → Falls parents → x < length parents → y ≤ x → Falls (set parents x y)
falls_set parents x y falls inside low = λ z in'.
    let size = length-set parents x y in
    elim (cases_eq z x) [
      | inl e ↦ rw e (omega (arith, get_or-set_same parents x y 0 inside, low))
      | inr ne ↦ omega (arith, get_or-set_other parents x z y 0 ne, falls z (omega arith))
    ]

module _ (parents : List ℕ) (x : ℕ) (inside : x < length parents) (falls : Falls parents) where
  pub twice_low : get_or parents (get_or parents x 0) 0 ≤ get_or parents x 0
  twice_low = let first = falls x inside in falls (get_or parents x 0) (omega arith)

  pub halved : (root : ℕ → ℕ) → HasRoots parents root →
      HasRoots (set parents x (get_or parents (get_or parents x 0) 0)) root
      × (root (get_or parents (get_or parents x 0) 0) ≡ root x)
  halved root r =
      let p = get_or parents x 0 in
      let y = get_or parents p 0 in
      let first : p ≤ x = falls x inside in
      let second : y ≤ p = twice_low in
      let size = length-set parents x y in
      let here : get_or (set parents x y) x 0 ≡ y = get_or-set_same parents x y 0 inside in
      let up : root y ≡ root x = r.same p (omega arith) ∙ r.same x inside in (
        record {
          falls = falls_set parents x y falls inside (omega arith);
          low = λ z in'. r.low z (omega arith);
          same = λ z in'. elim (cases_eq z x) [
            | inl e ↦ rw (e, here) up
            | inr ne ↦ ap root (get_or-set_other parents x z y 0 ne) ∙ r.same z (omega arith)
          ];
          own = λ z in' is. elim (cases_eq z x) [
            | inl e ↦
                let back : y ≡ x = sym here ∙ (rw e at is) in
                let stays : p ≡ x = omega arith in
                rw e (r.own x inside stays)
            | inr ne ↦ r.own z (omega arith) (sym (get_or-set_other parents x z y 0 ne) ∙ is)
          ];
        },
        up,
      )

module _ (parents : List ℕ) (root : ℕ → ℕ) (r : HasRoots parents root) where
  -- a root is its own parent
  root_own_upto : (n x : ℕ) → x < n → x < length parents → get_or parents (root x) 0 ≡ root x
  root_own_upto zero x lt inside = absurd (omega arith)
  root_own_upto (suc n) x lt inside =
      let p = get_or parents x 0 in
      let first : p ≤ x = r.falls x inside in
      elim (cases_eq p x) [
        | inl e ↦ let is = r.own x inside e in rw is e
        | inr ne ↦
            let later : get_or parents (root p) 0 ≡ root p = root_own_upto n p (omega arith) (omega arith) in
            let P : ℕ → Type 0 = λ a. get_or parents a 0 ≡ a in
            subst P (r.same x inside) later
      ]

  pub root_own : (x : ℕ) → x < length parents → get_or parents (root x) 0 ≡ root x
  root_own x inside = root_own_upto (suc x) x (omega arith) inside

  -- a root gets another one as its parent
  linked : (high low : ℕ) → high < length parents → low ≤ high → get_or parents high 0 ≡ high →
      get_or parents low 0 ≡ low → HasRoots (set parents high low) (λ z. cond (eqb (root z) high) low (root z))
  linked high low inside le own_high own_low =
      let size = length-set parents high low in
      let now = λ (a : ℕ). cond (eqb a high) low a in
      let here : get_or (set parents high low) high 0 ≡ low = get_or-set_same parents high low 0 inside in
      let root_high : root high ≡ high = r.own high inside own_high in
      let root_low : root low ≡ low = r.own low (omega arith) own_low in
      let at_high : now high ≡ low = rw (eq-eqb high high refl) refl in
      let at_low : now low ≡ low =
      elim (cases_eq low high) [ inl e ↦ rw (eq-eqb low high e) refl | inr ne ↦ rw (ne_eqb low high ne) refl ] in
      record {
        falls = falls_set parents high low r.falls inside le;
        low = λ z in'.
            let small = r.low z (omega arith) in
            elim (cases_eq (root z) high) [
              | inl e ↦ rw (eq-eqb (root z) high e) (omega arith)
              | inr ne ↦ rw (ne_eqb (root z) high ne) (omega arith)
            ];
        same = λ z in'. elim (cases_eq z high) [
          | inl e ↦ rw (e, here, root_low, root_high) (at_low ∙ sym at_high)
          | inr ne ↦ ap now (ap root (get_or-set_other parents high z low 0 ne) ∙ r.same z (omega arith))
        ];
        own = λ z in' is. elim (cases_eq z high) [
          | inl e ↦
              let same : low ≡ high = sym here ∙ (rw e at is) in
              rw (e, root_high) (at_high ∙ same)
          | inr ne ↦
              let own : root z ≡ z = r.own z (omega arith) (sym (get_or-set_other parents high z low 0 ne) ∙ is) in
              rw (own, ne_eqb z high ne) refl
        ];
      }

  pub merged_roots : (x y a b : ℕ) → x < length parents → y < length parents → a ≡ root x → b ≡ root y →
      (a < b → HasRoots (set parents b a) (merged root x y)) × (b ≤ a → HasRoots (set parents a b) (merged root x y))
  merged_roots x y a b in_x in_y is_a is_b =
      let low_x = r.low x in_x in
      let low_y = r.low y in_y in
      let own_a : get_or parents a 0 ≡ a = rw is_a (root_own x in_x) in
      let own_b : get_or parents b 0 ≡ b = rw is_b (root_own y in_y) in
      let H : ℕ → ℕ → List ℕ → Type 0 = λ high low now. HasRoots now (λ z. cond (eqb (root z) high) low (root z)) in (
        λ lt.
            let high : b ≡ max (root x) (root y) = omega arith in
            let low : a ≡ min (root x) (root y) = omega arith in
            subst (λ n. H n (min (root x) (root y)) (set parents b a)) high
            (subst (λ n. H b n (set parents b a)) low (linked b a (omega arith) (omega arith) own_b own_a)),
        λ ge.
            let high : a ≡ max (root x) (root y) = omega arith in
            let low : b ≡ min (root x) (root y) = omega arith in
            subst (λ n. H n (min (root x) (root y)) (set parents a b)) high
            (subst (λ n. H a n (set parents a b)) low (linked a b (omega arith) ge own_a own_b)),
      )
