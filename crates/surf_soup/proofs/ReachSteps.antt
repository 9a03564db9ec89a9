-- Steps of a walk over rows.
use Rattle.surf_surfaces.proofs.Common.{◌≡◌, ℕ, zero, suc, ◌+◌, ◌<◌, ◌≤◌, Bool, true, false, not, cond, List, [], ◌∷◌, ◌++◌, length, get_or, set, replicate, subst, refl, sym, ap, ◌∙◌, arith, inl, inr, true≢false, cases_eq, cases_lt, length_push, get_or_push, get_or_append_left, get_or_past, Joined, here, over, sum_by-set, sum_by-cons}
use Rattle.std.proofs.lemmas.List.{length-replicate, get_or-replicate, length-set, get_or-set_same, get_or-set_other}
use Rattle.surf_surfaces.proofs.meshes.JoinedLaws.{joined_trans, joined_closed}
use Rattle.surf_soup.specs.Reach.{Leads, marked, unmarked, Visits, IsReach}

-- a walk so far: the rows of the first k listed numbers are done
pub record Reaches (rows : List (List ℕ)) (from k : ℕ) (seen : List Bool) (listed : List ℕ) : Type 0 where
  pub size : length seen ≡ length rows
  pub start : marked seen from ≡ true
  pub sound : (j : ℕ) → marked seen j ≡ true → Joined (Leads rows) from j
  pub is_listed : (j : ℕ) → marked seen j ≡ true → (i : ℕ) × (i < length listed) × (get_or listed i 0 ≡ j)
  pub listed_marked : (i : ℕ) → i < length listed → marked seen (get_or listed i 0) ≡ true
  pub done : (i : ℕ) → i < k → (m : ℕ) → m < length (get_or rows (get_or listed i 0) []) →
      marked seen (get_or (get_or rows (get_or listed i 0) []) m 0) ≡ true
  pub counted : length listed + unmarked seen ≡ length rows
  pub within : k ≤ length listed

pub marked-inside : (seen : List Bool) (j : ℕ) → marked seen j ≡ true → j < length seen
marked-inside seen j h =
    elim (cases_lt j (length seen)) [ inl lt ↦ lt | inr ge ↦ absurd (true≢false (sym h ∙ get_or_past seen j false ge)) ]

module _ (beside : List ℕ) (k : ℕ) (seen_before : List Bool) (listed_before : List ℕ) (seen : List Bool)
    (listed : List ℕ) (so_far : Visits beside k seen_before listed_before seen listed) where
  pub visit_old : marked seen (get_or beside k 0) ≡ true → Visits beside (k + 1) seen_before listed_before seen listed
  visit_old old = record {
    size = so_far.size;
    longer = so_far.longer;
    kept = so_far.kept;
    counted = so_far.counted;
    stay = so_far.stay;
    all = λ i lt. elim (cases_eq i k) [
      | inl e ↦ ap (λ n. marked seen (get_or beside n 0)) e
          ∙ old
      | inr ne ↦ so_far.all i (omega arith)
    ];
    only = λ j h. elim (so_far.only j h) [ inl a ↦ inl a | inr b ↦ inr ((b.0.0, omega (arith, b.0.1), b.0.2), b.1) ];
    listed_marked = so_far.listed_marked;
  }

  pub visit_new : (g : ℕ) → g ≡ get_or beside k 0 → g < length seen → marked seen g ≡ false →
      Visits beside (k + 1) seen_before listed_before (set seen g true) (listed ++ g ∷ [])
  visit_new g is in' new = record {
    size = length-set seen g true ∙ so_far.size;
    longer = let a = so_far.longer in let b = length_push listed g in omega arith;
    kept = λ i lt. let a = so_far.longer in get_or_append_left listed (g ∷ []) 0 i (omega arith) ∙ so_far.kept i lt;
    counted =
        let one = sum_by-set (λ b. cond (not b) 1 0) seen g true false in' in
        let was : ◌≡◌ {A = ℕ} (cond (not (get_or seen g false)) 1 0) 1 = at new in
        omega (arith, length_push listed g, one, was, so_far.counted);
    stay = λ j h. still j (so_far.stay j h);
    all = λ i lt. elim (cases_eq i k) [
      | inl e ↦ ap (λ n. marked (set seen g true) (get_or beside n 0)) e ∙ ap (marked (set seen g true)) (sym is)
          ∙ get_or-set_same seen g true false in'
      | inr ne ↦ still (get_or beside i 0) (so_far.all i (omega arith))
    ];
    only = λ j h. elim (cases_eq j g) [
      | inl e ↦ inr (
        (k, omega arith, sym is ∙ sym e),
        (length listed, omega (arith, length_push listed g), get_or_push listed g 0 (length listed) refl ∙ sym e),
      )
      | inr ne ↦ elim (so_far.only j (sym (get_or-set_other seen g j true false ne) ∙ h)) [
        | inl a ↦ inl a
        | inr b ↦ inr (
          (b.0.0, omega (arith, b.0.1), b.0.2),
          (
            b.1.0,
            omega (arith, b.1.1, length_push listed g),
            get_or_append_left listed (g ∷ []) 0 b.1.0 b.1.1
                ∙ b.1.2,
          ),
        )
      ]
    ];
    listed_marked = λ h i lt. elim (cases_eq i (length listed)) [
      | inl e ↦ ap (marked (set seen g true)) (ap (λ n. get_or (listed ++ g ∷ []) n 0) e
          ∙ get_or_push listed g 0 (length listed) refl) ∙ get_or-set_same seen g true false in'
      | inr ne ↦
          let low : i < length listed = omega (arith, length_push listed g) in
          ap (marked (set seen g true)) (get_or_append_left listed (g ∷ []) 0 i low)
          ∙ still (get_or listed i 0) (so_far.listed_marked h i low)
    ];
  }
    where
      at : marked seen g ≡ false → ◌≡◌ {A = ℕ} (cond (not (get_or seen g false)) 1 0) 1
      at e = rw e refl

      still : (j : ℕ) → marked seen j ≡ true → marked (set seen g true) j ≡ true
      still j h = elim (cases_eq j g) [
        | inl e ↦ ap (marked (set seen g true)) e
            ∙ get_or-set_same seen g true false in'
        | inr ne ↦ get_or-set_other seen g j true false ne ∙ h
      ]

pub visit_none : (beside : List ℕ) (seen : List Bool) (listed : List ℕ) → Visits beside 0 seen listed seen listed
visit_none beside seen listed = record {
  size = refl;
  longer = omega arith;
  kept = λ i lt. refl;
  counted = refl;
  stay = λ j h. h;
  all = λ i lt. absurd (omega arith);
  only = λ j h. inl h;
  listed_marked = λ h. h;
}

pub reach_next : (rows : List (List ℕ)) (from k : ℕ) (seen : List Bool) (listed : List ℕ) (beside : List ℕ)
    (now : List Bool) (listed_now : List ℕ) → Reaches rows from k seen listed → k < length listed →
    beside ≡ get_or rows (get_or listed k 0) [] →
    Visits beside (length beside) seen listed now listed_now → Reaches rows from (k + 1) now listed_now
reach_next rows from k seen listed beside now listed_now r lt is v =
    let f = get_or listed k 0 in
    record {
      size = v.size ∙ r.size;
      start = v.stay from r.start;
      sound = λ j h. elim (v.only j h) [
        | inl old ↦ r.sound j old
        | inr new ↦ joined_trans (r.sound f (r.listed_marked k lt))
            (over (
              new.0.0,
              omega (arith, new.0.1, ap length is),
              ap (λ (xs : List ℕ). get_or xs new.0.0 0) (sym is)
                  ∙ new.0.2,
            ) here)
      ];
      is_listed = λ j h. elim (v.only j h) [
        | inl old ↦ let o = r.is_listed j old in (o.0, omega (arith, o.1, v.longer), v.kept o.0 o.1 ∙ o.2)
        | inr new ↦ new.1
      ];
      listed_marked = v.listed_marked r.listed_marked;
      done = λ i below m in'. elim (cases_eq i k) [
        | inl e ↦
            let here' : get_or listed_now i 0 ≡ f = ap (λ n. get_or listed_now n 0) e ∙ v.kept k lt in
            let own : get_or rows (get_or listed_now i 0) [] ≡ beside = ap (λ n. get_or rows n []) here' ∙ sym is in
            ap (λ (xs : List ℕ). marked now (get_or xs m 0)) own ∙ v.all m (omega (arith, ap length own))
        | inr ne ↦
            let same : get_or listed_now i 0 ≡ get_or listed i 0 = v.kept i (omega arith) in
            let own : get_or rows (get_or listed_now i 0) [] ≡ get_or rows (get_or listed i 0) [] =
            ap (λ n. get_or rows n []) same in
            ap (λ (xs : List ℕ). marked now (get_or xs m 0)) own
            ∙ v.stay (get_or (get_or rows (get_or listed i 0) []) m 0)
            (r.done i (omega arith) m (omega (arith, ap length own)))
      ];
      counted = v.counted ∙ r.counted;
      within = omega (arith, v.longer);
    }

pub reach_end : (rows : List (List ℕ)) (from k : ℕ) (seen : List Bool) (listed : List ℕ) →
    Reaches rows from k seen listed → length listed ≤ k → IsReach rows from seen
reach_end rows from k seen listed r all = record {
  size = r.size;
  sound = r.sound;
  complete = λ j chain. joined_closed (λ x. marked seen x ≡ true) (λ x y leads h.
      let o = r.is_listed x h in
      let same : get_or rows (get_or listed o.0 0) [] ≡ get_or rows x [] = ap (λ n. get_or rows n []) o.2 in
      ap (marked seen) (sym leads.2) ∙ ap (λ (xs : List ℕ). marked seen (get_or xs leads.0 0)) (sym same)
      ∙ r.done o.0 (omega (arith, o.1)) leads.0 (omega (arith, leads.1, ap length same))) chain r.start;
}

pub unmarked-fresh : (n : ℕ) → unmarked (replicate n false) ≡ n
unmarked-fresh zero = refl
unmarked-fresh (suc n) = sum_by-cons (λ b. cond (not b) 1 0) false (replicate n false) ∙ omega (arith, unmarked-fresh n)

pub none_marked : (n j : ℕ) → marked (replicate n false) j ≡ true → ⊥
none_marked zero j h = true≢false (sym h)
none_marked (suc n) zero h = true≢false (sym h)
none_marked (suc n) (suc j) h = none_marked n j h

pub reach_first : (rows : List (List ℕ)) (from : ℕ) → from < length rows →
    Reaches rows from 0 (set (replicate (length rows) false) from true) (from ∷ [])
reach_first rows from lt =
    let fresh = replicate (length rows) false in
    let size : length fresh ≡ length rows = length-replicate (length rows) false in
    let start : marked (set fresh from true) from ≡ true = get_or-set_same fresh from true false (omega arith) in
    let only : (j : ℕ) → marked (set fresh from true) j ≡ true → j ≡ from = λ j h. elim (cases_eq j from) [
      | inl e ↦ e
      | inr ne ↦ absurd (none_marked (length rows) j (sym (get_or-set_other fresh from j true false ne) ∙ h))
    ] in
    record {
      size = length-set fresh from true ∙ size;
      start = start;
      sound = λ j h. joined_from j (only j h);
      is_listed = λ j h. (0, omega arith, sym (only j h));
      listed_marked = λ i in'. let e : i ≡ 0 = omega arith in
          ap (λ n. marked (set fresh from true) (get_or (from ∷ []) n 0)) e ∙ start;
      done = λ i below m in'. absurd (omega arith);
      counted =
          let one = sum_by-set (λ b. cond (not b) 1 0) fresh from true false (omega arith) in
          let was : ◌≡◌ {A = ℕ} (cond (not (get_or fresh from false)) 1 0) 1 =
          ap (λ b. cond (not b) 1 0) (get_or-replicate (length rows) from false false lt) in
          omega (arith, one, was, unmarked-fresh (length rows));
      within = omega arith;
    }
  where
    joined_from : (j : ℕ) → j ≡ from → Joined (Leads rows) from j
    joined_from j e = let P : ℕ → Type 0 = λ x. Joined (Leads rows) from x in subst P (sym e) here
