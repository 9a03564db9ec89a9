-- The labels of vertices, one after the other.
use Rattle.surf_surfaces.proofs.Common.{◌≡◌, ◌≢◌, ℕ, zero, suc, ◌<◌, ◌≤◌, ◌+◌, ◌⊎◌, eqb, List, [], ◌∷◌, length, get_or, set, take, Option, Some, None, Result, Ok, Err, IfOk, refl, sym, ap, ◌∙◌, subst, arith, inl, inr, Contains, cases_eq, cases_lt, eq-eqb, ne_eqb, eqb-true, true≢false, get_or-set_same, get_or-set_other, get_or_default, length-set, bit_xor, unwrap_or, map, sum_of, numbers, primal, cells_of, Mesh, IsSurface, ArePositive, steps, steps_from, edge_number, edge_count}
use Rattle.std.proofs.lemmas.List.Sums.{fails_before_first, passes_at_first}
use Rattle.surf_surfaces.specs.Walk.{edge_length}
use Rattle.surf_base.specs.Tables.{at, nobody}
use Rattle.surf_treecheck.proofs.Steps.{steps_at, count_steps, sets_more}
use Rattle.surf_sheets.specs.Rows.{SheetCert}
use Rattle.surf_sheetcheck.specs.Cocycles.{walk_set, edge_set}
use Rattle.surf_sheetcheck.specs.Rule.{IsTight, IsParent, place_on, label_on, AreLabels}
use Rattle.surf_sheetcheck.specs.Searches.{far, AreSettled, IsTightIn, IsLeastTight}
use Rattle.surf_sheetcheck.specs.Tables.{label_in, distance_in, ArePartLabels, AreLabelsUpTo}

-- ---- first places

pub place_up_to : (part : List ℕ) (k : ℕ) → k < length part → place_on part (at part k) ≤ k
place_up_to part k l = elim (cases_lt k (place_on part (at part k))) [
  | inl later ↦
      absurd (true≢false (sym (eq-eqb (at part k) (at part k) refl)
      ∙ fails_before_first (λ u. eqb u (at part k)) part k 0 later))
  | inr done ↦ done
]

pub place_there : (part : List ℕ) (v : ℕ) → place_on part v < length part → at part (place_on part v) ≡ v
place_there part v l = eqb-true (at part (place_on part v)) v (passes_at_first (λ u. eqb u v) part 0 l)

pub place_in : (part : List ℕ) (v : ℕ) → Contains part v → place_on part v < length part
place_in part v on =
    let is : at part on.0 ≡ v = get_or_default part on.0 0 v on.1 ∙ on.2 in
    let up = place_up_to part on.0 on.1 in
    let same : place_on part (at part on.0) ≡ place_on part v = ap (place_on part) is in
    omega (arith, up, same, on.1)

pub on_from_place : (part : List ℕ) (v : ℕ) → place_on part v < length part → Contains part v
on_from_place part v l =
    (place_on part v, l, get_or_default part (place_on part v) v 0 l ∙ place_there part v l)

some_none : (o : Option ℕ) (x : ℕ) → o ≡ Some x → o ≡ None → ⊥
some_none o x some none = let e : ◌≡◌ {A = Option ℕ} (Some x) None = sym some ∙ none in cc

-- ---- the part

module _ (mesh : Mesh) (cert : SheetCert) (part : List ℕ) where
  pub part_none : (labels : List (Option ℕ)) → length labels ≡ mesh.vertices →
      ((v : ℕ) → v < mesh.vertices → get_or labels v None ≡ None) → ArePartLabels mesh cert part 0 labels
  part_none labels room none = record {
    room = room;
    there = λ v l before. absurd (omega (arith, before));
    none = λ v l behind. none v l;
  }

  module _ (n : ℕ) (labels : List (Option ℕ)) (was : ArePartLabels mesh cert part n labels) (in_part : n < length part)
      (inside : at part n < mesh.vertices) where
    only_here : (v : ℕ) → place_on part v ≡ n → v ≡ at part n
    only_here v is = sym (ap (at part) (sym is) ∙ place_there part v (omega (arith, is, in_part)))

    -- a vertex that has a label keeps it
    pub part_kept : (get_or labels (at part n) None ≡ None → ⊥) → ArePartLabels mesh cert part (n + 1) labels
    part_kept some = record {
      room = was.room;
      there = λ v l before. elim (cases_eq (place_on part v) n) [
        | inl here ↦ absurd (some (was.none (at part n) inside (omega (
          arith,
          here,
          ap (place_on part) (only_here v here),
        ))))
        | inr ne ↦ was.there v l (omega (arith, before, ne))
      ];
      none = λ v l behind. was.none v l (omega (arith, behind));
    }

    -- another one gets it
    pub part_more : (sum : ℕ) → sum ≡ walk_set mesh cert (take (n + 1) part) → get_or labels (at part n) None ≡ None →
        ArePartLabels mesh cert part (n + 1) (set labels (at part n) (Some sum))
    part_more sum is free = record {
      room = length-set labels (at part n) (Some sum) ∙ was.room;
      there = λ v l before. elim (cases_eq v (at part n)) [
        | inl same ↦
            ap (λ u. get_or (set labels (at part n) (Some sum)) u None) same
            ∙ get_or-set_same labels (at part n) (Some sum) None (omega (arith, inside, was.room))
            ∙ ap Some (is ∙ ap (λ k. walk_set mesh cert (take (k + 1) part)) (sym (ap (place_on part) same ∙ first)))
        | inr ne ↦
            get_or-set_other labels (at part n) v (Some sum) None ne
            ∙ was.there v l (not_here v before (λ e. ne (only_here v e)))
      ];
      none = λ v l behind.
          get_or-set_other labels (at part n) v (Some sum) None (λ same. clash v same behind) ∙ was.none v l (omega (arith, behind));
    }
      where
        first : place_on part (at part n) ≡ n
        first = elim (cases_lt (place_on part (at part n)) n) [
          | inl less ↦ absurd (some_none (get_or labels (at part n) None) (label_on mesh cert part (at part n))
              (was.there (at part n) inside less) free)
          | inr more ↦ let up = place_up_to part n in_part in omega (arith, up, more)
        ]

        not_here : (v : ℕ) → place_on part v < n + 1 → place_on part v ≢ n → place_on part v < n
        not_here v before ne = omega (arith, before, ne)

        clash : (v : ℕ) → v ≡ at part n → n + 1 ≤ place_on part v → ⊥
        clash v same behind = let e = ap (place_on part) same ∙ first in omega (arith, e, behind)

-- ---- the others

module _ (mesh : Mesh) (lengths : List ℕ) (cert : SheetCert) (part : List ℕ) (limit : ℕ) (dist order : List ℕ)
    (settled : AreSettled (primal (cells_of mesh)) (edge_length lengths) part limit dist order) where
  abbrev distance : ℕ → ℕ
  distance = distance_in limit dist

  pub labels_begin : (labels : List (Option ℕ)) → ((v : ℕ) → Contains part v → v < mesh.vertices) →
      ArePartLabels mesh cert part (length part) labels → AreLabelsUpTo mesh lengths cert part limit dist order 0 labels
  labels_begin labels inside are = record {
    room = are.room;
    on_part = λ v on. are.there v (inside v on) (place_in part v on);
    others = λ v l off. inl (are.none v l (past v off));
    listed = λ i l. absurd (omega (arith, l));
    only = λ v l some. elim (cases_lt (place_on part v) (length part)) [
      | inl there ↦ let zero_there = settled.on_part v (on_from_place part v there) in λ e. absurd (omega (arith, zero_there, e))
      | inr behind ↦ absurd (some (are.none v l behind))
    ];
  }
    where
      past : (v : ℕ) → (Contains part v → ⊥) → length part ≤ place_on part v
      past v off = elim (cases_lt (place_on part v) (length part)) [
        | inl there ↦ absurd (off (on_from_place part v there))
        | inr behind ↦ behind
      ]

  pub labels_kept : (n : ℕ) (labels : List (Option ℕ)) → AreLabelsUpTo mesh lengths cert part limit dist order n labels →
      get_or labels (at order n) None ≢ None → AreLabelsUpTo mesh lengths cert part limit dist order (n + 1) labels
  labels_kept n labels was some = record {
    room = was.room;
    on_part = was.on_part;
    others = was.others;
    listed = λ i l. elim (cases_eq i n) [
      | inl same ↦ λ none. some (ap (λ j. get_or labels (at order j) None) (sym same) ∙ none)
      | inr ne ↦ was.listed i (omega (arith, l, ne))
    ];
    only = was.only;
  }

  -- a settled vertex has its distance, and another one is at the limit
  pub told : (v : ℕ) → at dist v ≢ far → distance_in limit dist v ≡ at dist v
  told v ne = rw (ne_eqb (at dist v) far ne) refl

  pub untold : (v : ℕ) → at dist v ≡ far → distance_in limit dist v ≡ limit
  untold v e = rw (eq-eqb (at dist v) far e) refl

  module _ (n : ℕ) (labels : List (Option ℕ)) (was : AreLabelsUpTo mesh lengths cert part limit dist order n labels)
      (l : n < length order) (free : get_or labels (at order n) None ≡ None) (u e : ℕ)
      (parent : IsParent mesh lengths (distance_in limit dist) (at order n) u e) (positive : 1 ≤ edge_length lengths e)
      (u_in : u < mesh.vertices) where
    v : ℕ
    v = at order n

    nearer : distance_in limit dist u + edge_length lengths e ≡ at dist (at order n)
    nearer = parent.tight.is ∙ told (at order n) (settled.settled n l)

    under : at dist (at order n) < limit
    under = settled.below (at order n) (settled.inside n l) (settled.settled n l)

    u_settled : at dist u ≢ far
    u_settled none = let a = untold u none in omega (arith, a, nearer, under)

    pub parent_labelled : get_or labels u None ≢ None
    parent_labelled =
        let there = settled.listed u u_in u_settled in
        elim (cases_lt there.0 n) [
          | inl before ↦ λ none. was.listed there.0 before (ap (λ w. get_or labels w None) there.2 ∙ none)
          | inr behind ↦
              let rise = settled.rise n there.0 behind there.1 in
              let same = ap (at dist) there.2 in
              let is = told u u_settled in
              λ none. absurd (omega (arith, rise, same, is, nearer, positive))
        ]

    apart : u ≢ at order n
    apart same = parent_labelled (ap (λ w. get_or labels w None) same ∙ free)

    abbrev label : ℕ
    label = bit_xor (label_in labels u) (edge_set mesh cert e)

    pub labels_more : AreLabelsUpTo mesh lengths cert part limit dist order (n + 1)
        (set labels (at order n) (Some (bit_xor (label_in labels u) (edge_set mesh cert e))))
    labels_more = record {
      room = length-set labels (at order n) (Some label) ∙ was.room;
      on_part = λ w on. elim (cases_eq w (at order n)) [
        | inl same ↦ absurd (some_none (get_or labels w None) (label_on mesh cert part w) (was.on_part w on)
            (ap (λ x. get_or labels x None) same ∙ free))
        | inr ne ↦ get_or-set_other labels (at order n) w (Some label) None ne ∙ was.on_part w on
      ];
      others = λ w lw off. elim (cases_eq w (at order n)) [
        | inl same ↦ inr (
          u,
          e,
          subst (λ x. IsParent mesh lengths (distance_in limit dist) x u e) (sym same) parent,
          (λ none. parent_labelled (sym (get_or-set_other labels (at order n) u (Some label) None apart) ∙ none)),
          ap (λ x. get_or (set labels (at order n) (Some label)) x None) same ∙ here
              ∙ ap (λ o. Some (bit_xor (unwrap_or o 0) (edge_set mesh cert e))) (sym (get_or-set_other labels (at order n) u (Some label) None apart)),
        )
        | inr ne ↦ elim (was.others w lw off) [
          | inl none ↦ inl (get_or-set_other labels (at order n) w (Some label) None ne ∙ none)
          | inr (x, f, up, some, is) ↦
              let other : x ≢ at order n = λ same. some (ap (λ y. get_or labels y None) same ∙ free) in
              let kept = get_or-set_other labels (at order n) x (Some label) None other in
              inr (
                x,
                f,
                up,
                (λ none. some (sym kept ∙ none)),
                get_or-set_other labels (at order n) w (Some label) None ne ∙ is
                    ∙ ap (λ o. Some (bit_xor (unwrap_or o 0) (edge_set mesh cert f))) (sym kept),
              )
        ]
      ];
      listed = λ i li. elim (cases_eq (at order i) (at order n)) [
        | inl same ↦ λ none. some_none (get_or (set labels (at order n) (Some label)) (at order i) None) label
            (ap (λ x. get_or (set labels (at order n) (Some label)) x None) same ∙ here) none
        | inr ne ↦ λ none. was.listed i (earlier i li ne)
            (sym (get_or-set_other labels (at order n) (at order i) (Some label) None ne) ∙ none)
      ];
      only = λ w lw some. elim (cases_eq w (at order n)) [
        | inl same ↦ λ none. settled.settled n l (ap (at dist) (sym same) ∙ none)
        | inr ne ↦ was.only w lw (λ none. some (get_or-set_other labels (at order n) w (Some label) None ne ∙ none))
      ];
    }
      where
        here : get_or (set labels (at order n) (Some label)) (at order n) None ≡ Some label
        here = get_or-set_same labels (at order n) (Some label) None (omega (arith, settled.inside n l, was.room))

        earlier : (i : ℕ) → i < n + 1 → at order i ≢ at order n → i < n
        earlier i li ne = elim (cases_eq i n) [ inl same ↦ absurd (ne (ap (at order) same)) | inr other ↦ omega (arith, li, other) ]

  -- ---- all

  pub labels_all : (labels : List (Option ℕ)) →
      AreLabelsUpTo mesh lengths cert part limit dist order (length order) labels →
      AreLabels mesh lengths cert part limit (distance_in limit dist) (label_in labels)
  labels_all labels are = record {
    far = λ v l at_limit. ap (λ o. unwrap_or o 0) (unlabelled v l (λ ne.
        let a = told v ne in let b = settled.below v l ne in omega (arith, a, b, at_limit)));
    on_part = λ v l below on. ap (λ o. unwrap_or o 0) (are.on_part v on);
    others = λ v l below off. elim (are.others v l off) [
      | inl none ↦ absurd (labelled v l below none)
      | inr (u, e, parent, some, is) ↦ (u, e, parent, ap (λ o. unwrap_or o 0) is)
    ];
  }
    where
      unlabelled : (v : ℕ) → v < mesh.vertices → (at dist v ≢ far → ⊥) → get_or labels v None ≡ None
      unlabelled v l not_settled = by (get_or labels v None) refl
        where
          by : (o : Option ℕ) → get_or labels v None ≡ o → get_or labels v None ≡ None
          by None is = is
          by (Some x) is = absurd (not_settled (are.only v l (λ none. some_none (get_or labels v None) x is none)))

      labelled : (v : ℕ) → v < mesh.vertices → distance_in limit dist v < limit → get_or labels v None ≡ None → ⊥
      labelled v l below none =
          let there = settled.listed v l (λ is. let a = untold v is in omega (arith, a, below)) in
          are.listed there.0 there.1 (ap (λ w. get_or labels w None) there.2 ∙ none)

-- ---- the edge by which a part comes to a place

steps_take : (u : ℕ) (rest : List ℕ) (n : ℕ) → steps_from u (take n rest) ≡ take n (steps_from u rest)
steps_take u rest zero = refl
steps_take u [] (suc n) = refl
steps_take u (v ∷ rest) (suc n) = ap (λ xs. (u, v) ∷ xs) (steps_take v rest n)

steps_front : (part : List ℕ) (n : ℕ) → steps (take (suc n) part) ≡ take n (steps part)
steps_front [] zero = refl
steps_front [] (suc n) = refl
steps_front (u ∷ rest) n = steps_take u rest n

module _ (mesh : Mesh) (cert : SheetCert) (part : List ℕ) where
  pub first_sum : (sum : ℕ) → sum ≡ walk_set mesh cert (take 0 part) → sum ≡ walk_set mesh cert (take 1 part)
  first_sum sum is = is ∙ sym (ap (λ ss. sum_of numbers (map (λ s. edge_set mesh cert (edge_number mesh s)) ss)) (steps_front part zero))

  pub next_sum : (sum n : ℕ) → n + 1 < length part → sum ≡ walk_set mesh cert (take (n + 1) part) →
      bit_xor sum (edge_set mesh cert (edge_number mesh (get_or part n 0, get_or part (n + 1) 0)))
      ≡ walk_set mesh cert (take (n + 1 + 1) part)
  next_sum sum n l is =
      let f : ℕ × ℕ → ℕ = λ s. edge_set mesh cert (edge_number mesh s) in
      let size = count_steps part (omega (arith, l)) in
      let one : n + 1 ≡ suc n = omega arith in
      let two : n + 1 + 1 ≡ suc (n + 1) = omega arith in
      ap (λ x. bit_xor x (f (get_or part n 0, get_or part (n + 1) 0)))
      (is ∙ ap (λ k. walk_set mesh cert (take k part)) one
      ∙ ap (λ ss. sum_of numbers (map f ss)) (steps_front part n))
      ∙ ap (λ s. bit_xor (sum_of numbers (map f (take n (steps part)))) (f s)) (sym (steps_at part n (0, 0) l))
      ∙ sym (sets_more f (steps part) n (0, 0) (omega (arith, l, size)))
      ∙ ap (λ ss. sum_of numbers (map f ss)) (sym (steps_front part (n + 1)))
      ∙ ap (λ k. walk_set mesh cert (take k part)) (sym two)

-- ---- parents by a table

module _ (mesh : Mesh) (lengths : List ℕ) (dist : List ℕ) (limit v : ℕ) (surface : IsSurface mesh)
    (positive : ArePositive mesh lengths) (some : at dist v ≢ far) (near : at dist v < far) (under : at dist v < limit) where
  to_table : (u e : ℕ) → IsTight mesh lengths (distance_in limit dist) v u e →
      IsTightIn (primal (cells_of mesh)) (edge_length lengths) (at dist) v u e
  to_table u e tight = elim (cases_eq (at dist u) far) [
    | inl none ↦
        let at_limit : distance_in limit dist u ≡ limit = rw (eq-eqb (at dist u) far none) refl in
        let here : distance_in limit dist v ≡ at dist v = rw (ne_eqb (at dist v) far some) refl in
        let is = tight.is in
        absurd (omega (arith, at_limit, here, is, under))
    | inr ne ↦
        let there : distance_in limit dist u ≡ at dist u = rw (ne_eqb (at dist u) far ne) refl in
        let here : distance_in limit dist v ≡ at dist v = rw (ne_eqb (at dist v) far some) refl in
        let is = tight.is in
        record { edge_in = tight.edge_in; joined = tight.joined; is = omega (arith, there, here, is) }
  ]

  from_table : (u e : ℕ) → IsTightIn (primal (cells_of mesh)) (edge_length lengths) (at dist) v u e →
      IsTight mesh lengths (distance_in limit dist) v u e
  from_table u e tight =
      let is = tight.is in
      let long = positive e tight.edge_in in
      let ne : at dist u ≢ far = λ none. absurd (omega (arith, none, is, near, long)) in
      let there : distance_in limit dist u ≡ at dist u = rw (ne_eqb (at dist u) far ne) refl in
      let here : distance_in limit dist v ≡ at dist v = rw (ne_eqb (at dist v) far some) refl in
      record { edge_in = tight.edge_in; joined = tight.joined; is = omega (arith, there, here, is) }

  pub parent_from : (u e w f : ℕ) → IsLeastTight (primal (cells_of mesh)) (edge_length lengths) (at dist) v u e →
      IsTight mesh lengths (distance_in limit dist) v w f → w < nobody →
      (u < mesh.vertices) × IsParent mesh lengths (distance_in limit dist) v u e
  parent_from u e w f least tight few =
      let up = least.least w f (to_table w f tight) in
      let found = least.tight (λ none. absurd (omega (arith, up, few, none))) in (
        found.0,
        record {
          tight = from_table u e found.1;
          least = λ x g other. least.least x g (to_table x g other);
        },
      )

-- ---- options

pub none_or_some : (o : Option ℕ) → (o ≡ None) ⊎ (o ≢ None)
none_or_some None = inl refl
none_or_some (Some x) = inr (λ none. some_none (Some x) x refl none)

pub if_ok : {A B : Type 0} (r : Result A B) (P Q : Type 0) → (P → Q) → IfOk r (λ _. P) → IfOk r (λ _. Q)
if_ok (Ok a) P Q f p = f p
if_ok (Err e) P Q f p = tt

-- ---- the label of the next vertex that is listed

pub record IsNextLabel (mesh : Mesh) (lengths : List ℕ) (cert : SheetCert) (part : List ℕ) (limit : ℕ) (dist order : List ℕ)
    (n : ℕ) (labels : List (Option ℕ)) (u e : ℕ) : Type 0 where
  pub edge_in : e < edge_count mesh
  pub vertex_in : at order n < mesh.vertices
  pub other_in : u < mesh.vertices
  pub some : get_or labels u None ≢ None
  pub more : AreLabelsUpTo mesh lengths cert part limit dist order (n + 1)
      (set labels (at order n) (Some (bit_xor (label_in labels u) (edge_set mesh cert e))))

pub next_label : (mesh : Mesh) (lengths : List ℕ) (cert : SheetCert) (part : List ℕ) (limit : ℕ) (dist order : List ℕ)
    (n : ℕ) (labels : List (Option ℕ)) (u e : ℕ) → IsSurface mesh → ArePositive mesh lengths → mesh.vertices ≤ nobody →
    (settled : AreSettled (primal (cells_of mesh)) (edge_length lengths) part limit dist order) →
    AreLabelsUpTo mesh lengths cert part limit dist order n labels → n < length order → at dist (at order n) ≤ far →
    get_or labels (at order n) None ≡ None → IsLeastTight (primal (cells_of mesh)) (edge_length lengths) (at dist) (at order n) u e →
    IsNextLabel mesh lengths cert part limit dist order n labels u e
next_label mesh lengths cert part limit dist order n labels u e surface positive few settled was l fits free least =
    let v : ℕ = at order n in
    let some = settled.settled n l in
    let inside = settled.inside n l in
    let near : at dist (at order n) < far = omega (arith, fits, some) in
    let under = settled.below (at order n) inside some in
    elim (settled.reached (at order n) inside some) [
      | inl on ↦ absurd (some_none (get_or labels (at order n) None) (label_on mesh cert part (at order n)) (was.on_part (at order n) on) free)
      | inr r ↦
          let size = r.is in
          let there = told mesh lengths cert part limit dist order settled r.before r.settled in
          let here = told mesh lengths cert part limit dist order settled (at order n) some in
          let tight : IsTight mesh lengths (distance_in limit dist) (at order n) r.before r.edge =
          record { edge_in = r.edge_in; joined = r.joined; is = omega (arith, size, there, here) } in
          let parent = parent_from mesh lengths dist limit (at order n) surface positive some near under u e r.before r.edge least tight
          (omega (arith, few, r.before_in)) in
          let long = positive e parent.1.tight.edge_in in
          record {
            edge_in = parent.1.tight.edge_in;
            vertex_in = inside;
            other_in = parent.0;
            some = parent_labelled mesh lengths cert part limit dist order settled n labels was l free u e parent.1 long parent.0;
            more = labels_more mesh lengths cert part limit dist order settled n labels was l free u e parent.1 long parent.0;
          }
    ]
