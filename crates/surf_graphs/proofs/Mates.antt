-- The two sides of each edge go round in pairs.
use Rattle.surf_z2.proofs.Common.{◌≡◌, ◌≢◌, ℕ, zero, suc, ◌*◌, ◌/◌, ◌%◌, ◌<◌, true, cond, eqb, refl, sym, ◌∙◌, ap, arith, inl, inr, ◌⊎◌, eq-eqb, ne_eqb, cases_eq, eqb-true, eqb-false, count_below}
use Rattle.surf_graphs.specs.Cells.{Cells}
use Rattle.surf_graphs.specs.Sides.{Sides, IsSides}
use Rattle.surf_graphs.specs.Rounds.{Blocks, Rounds}
use Rattle.surf_z2.proofs.Sums.{count_below-paired, count_below-all}

-- the sides of the edges, one after the other
side_at : Sides → ℕ → ℕ
side_at h p = cond (eqb (p % 2) 0) (h.one (p / 2)) (h.two (p / 2))

place_of : Sides → ℕ → ℕ
place_of h i = cond (eqb i (h.one (h.edge_of i))) (2 * h.edge_of i) (suc (2 * h.edge_of i))

side_even : (h : Sides) (p e : ℕ) → p ≡ 2 * e → side_at h p ≡ h.one e
unfolding side_at
side_even h p e is =
    let rest : p % 2 ≡ 0 = omega arith in
    let half : p / 2 ≡ e = omega arith in
    rw (eq-eqb (p % 2) 0 rest, half)

side_odd : (h : Sides) (p e : ℕ) → p ≡ suc (2 * e) → side_at h p ≡ h.two e
unfolding side_at
side_odd h p e is =
    let rest : p % 2 ≢ 0 = omega arith in
    let half : p / 2 ≡ e = omega arith in
    rw (ne_eqb (p % 2) 0 rest, half)

even_or_odd : (p : ℕ) → (p ≡ 2 * (p / 2)) ⊎ (p ≡ suc (2 * (p / 2)))
even_or_odd p = grind arith

place_one : (s : Cells) (h : Sides) → IsSides s h → (e : ℕ) → e < s.edges → place_of h (h.one e) ≡ 2 * e
unfolding place_of
place_one s h ok e l = let is = (ok.sides_of e l).0 in rw (is, eq-eqb (h.one e) (h.one e) refl)

place_two : (s : Cells) (h : Sides) → IsSides s h → (e : ℕ) → e < s.edges → place_of h (h.two e) ≡ suc (2 * e)
unfolding place_of
place_two s h ok e l =
    let is = (ok.sides_of e l).1 in
    let apart : h.two e ≢ h.one e = λ same. (ok.two_sides e l).2 (sym same) in
    rw (is, ne_eqb (h.two e) (h.one e) apart)

-- a side is one of its edge's two
one_or_two : (s : Cells) (h : Sides) → IsSides s h → (i : ℕ) → i < h.count →
    (i ≡ h.one (h.edge_of i)) ⊎ (i ≡ h.two (h.edge_of i))
one_or_two s h ok i l =
    elim (cases_eq i (h.one (h.edge_of i))) [ inl first ↦ inl first | inr other ↦ inr (ok.no_third i l other) ]

place_in : (s : Cells) (h : Sides) → IsSides s h → (i : ℕ) → i < h.count →
    (place_of h i < 2 * s.edges) × (side_at h (place_of h i) ≡ i)
place_in s h ok i l =
    let e = h.edge_of i in
    let le : e < s.edges = ok.edge_in i l in
    elim (one_or_two s h ok i l) [
      | inl first ↦
          let at : place_of h i ≡ 2 * e = ap (place_of h) first ∙ place_one s h ok e le in
          (omega arith, side_even h (place_of h i) e at ∙ sym first)
      | inr second ↦
          let at : place_of h i ≡ suc (2 * e) = ap (place_of h) second ∙ place_two s h ok e le in
          (omega arith, side_odd h (place_of h i) e at ∙ sym second)
    ]

side_in : (s : Cells) (h : Sides) → IsSides s h → (p : ℕ) → p < 2 * s.edges →
    (side_at h p < h.count) × (place_of h (side_at h p) ≡ p)
side_in s h ok p l =
    let e = p / 2 in
    let le : e < s.edges = omega arith in
    let two = ok.two_sides e le in
    elim (even_or_odd p) [
      | inl even ↦ let at : side_at h p ≡ h.one e = side_even h p e even in
          (rw at two.0, ap (place_of h) at ∙ (place_one s h ok e le ∙ sym even))
      | inr odd ↦ let at : side_at h p ≡ h.two e = side_odd h p e odd in
          (rw at two.1, ap (place_of h) at ∙ (place_two s h ok e le ∙ sym odd))
    ]

-- there are two sides for each edge
pub sides_count : (s : Cells) (h : Sides) → IsSides s h → h.count ≡ 2 * s.edges
sides_count s h ok =
    let paired : count_below (2 * s.edges) (λ p. true) ≡ count_below h.count (λ i. true) =
    count_below-paired (2 * s.edges) h.count (λ p. true) (λ i. true) (side_at h)
    (λ p l t. ((side_in s h ok p l).0, refl))
    (λ p q lp lq tp tq same. sym (side_in s h ok p lp).1 ∙ (ap (place_of h) same ∙ (side_in s h ok q lq).1))
    (λ i l t. (place_of h i, (place_in s h ok i l).0, refl, (place_in s h ok i l).1)) in
    sym (count_below-all h.count) ∙ (sym paired ∙ count_below-all (2 * s.edges))

two_each : (m : ℕ) → count_below (2 * m) (λ p. eqb (p % 2) 1) ≡ m
two_each zero = ap (λ n. count_below n (λ p. eqb (p % 2) 1)) none
  where
    none : 2 * 0 ≡ 0
    none = omega arith
two_each (suc m) =
    let more : 2 * suc m ≡ suc (suc (2 * m)) = omega arith in
    let rest : count_below (2 * m) (λ p. eqb (p % 2) 1) ≡ m = two_each m in
    let odd : suc (2 * m) % 2 ≡ 1 = omega arith in
    let even : (2 * m) % 2 ≢ 1 = omega arith in
    ap (λ n. count_below n (λ p. eqb (p % 2) 1)) more ∙ rw (
      eq-eqb (suc (2 * m) % 2) 1 odd,
      ne_eqb ((2 * m) % 2) 1 even,
      rest,
    ) (omega arith)

-- the mates go round in pairs, one for each edge
pub mate_rounds : (s : Cells) (h : Sides) → IsSides s h → (mate : ℕ → ℕ) →
    ((e : ℕ) → e < s.edges → (mate (h.one e) ≡ h.two e) × (mate (h.two e) ≡ h.one e)) →
    Rounds (2 * s.edges) mate s.edges
mate_rounds s h ok mate pair =
    let n = 2 * s.edges in
    let count : h.count ≡ n = sides_count s h ok in
    let blocks : Blocks = record { start = λ p. 2 * (p / 2); last = λ p. eqb (p % 2) 1 } in
    record {
      table = side_at h;
      place = place_of h;
      blocks = blocks;
      table_is = record {
        turn_in = λ p l. let in_h : side_at h p < h.count = (side_in s h ok p l).0 in omega arith;
        back_in = λ i l. (place_in s h ok i (omega arith)).0;
        back_turn = λ p l. (side_in s h ok p l).1;
        turn_back = λ i l. (place_in s h ok i (omega arith)).1;
      };
      blocks_are = record {
        first_start = omega arith;
        goes_on = λ p l h. let odd : p % 2 ≢ 1 = eqb-false (p % 2) 1 h in omega arith;
        begins = λ p l h. let odd : p % 2 ≡ 1 = eqb-true (p % 2) 1 h in omega arith;
        whole = omega arith;
      };
      next = λ p l.
          let e = p / 2 in
          let both = pair e (omega arith) in
          elim (even_or_odd p) [
            | inl even ↦
                let rest : p % 2 ≢ 1 = omega arith in
                rw (ne_eqb (p % 2) 1 rest, side_even h p e even, side_odd h (suc p) e (ap suc even)) both.0
            | inr odd ↦
                let rest : p % 2 ≡ 1 = omega arith in
                rw (eq-eqb (p % 2) 1 rest, side_odd h p e odd, side_even h (2 * e) e refl) both.1
          ];
      count = two_each s.edges;
    }
