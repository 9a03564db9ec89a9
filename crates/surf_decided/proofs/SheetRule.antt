-- A part of a surface has distances and labels by the rule.
use Rattle.surf_surfaces.proofs.Common.{◌≡◌, ◌≢◌, ◌<◌, ◌≤◌, ◌+◌, ◌⊎◌, ℕ, zero, suc, Bool, true, List, [], ◌∷◌, length, refl, sym, ap, ◌∙◌, subst, arith, inl, inr, cases_eq, cases_lt, nat_lt, nat_le, lt-ltb, le-ltb, le-leb, eq-eqb, ne_eqb, ◌==◌, ◌&&◌, if◌then◌else◌, false, All, Contains, bit_xor, primal, cells_of, joins, joins_turned, joined_below, one_of, Mesh, edge_count, ends, IsSurface, ArePositive, Tree, IsTree, IsShortest}
use Rattle.std.proofs.lemmas.Bool.{lt-leb}
use Rattle.surf_surfaces.proofs.meshes.CellLaws.{surfaces_are_cells}
use Rattle.surf_surfaces.proofs.bases.ChoiceExists.{choice_exists}
use Rattle.surf_surfaces.proofs.walks.ShortestTreeLaws.{shortest_is_tree, shortest_is_shortest}
use Rattle.surf_surfaces.specs.Choice.{Trees}
use Rattle.surf_surfaces.specs.Walk.{edge_length}
use Rattle.surf_z2.proofs.Sought.{least_such}
use Rattle.surf_sheets.specs.Rows.{SheetRow, SheetCert}
use Rattle.surf_sheetcheck.specs.Cocycles.{edge_set}
use Rattle.surf_sheetcheck.specs.Parts.{part_of, limit_of}
use Rattle.surf_sheetcheck.specs.Rule.{IsTight, AreDistances, IsParent, AreLabels, FollowsRule, place_on, label_on}
use Rattle.surf_sheetcheck.proofs.LabelLaws.{place_in, on_from_place}
use Rattle.surf_decided.proofs.Deciding.{Decided, when_same, when_true, both, as_well, some_below}

and_false : (p : Bool) → (p && false) ≡ false
and_false true = refl
and_false false = refl

-- ---- the lesser of two

lesser : ℕ → ℕ → ℕ
lesser a b = if nat_lt a b then a else b

which : (a b : ℕ) → ((lesser a b ≡ a) × (a < b)) ⊎ ((lesser a b ≡ b) × (b ≤ a))
unfolding lesser
which a b = elim (cases_lt a b) [
  | inl less ↦ inl (rw (lt-ltb a b less) refl, less)
  | inr more ↦ inr (rw (le-ltb a b more) refl, more)
]

at_left : (a b : ℕ) → lesser a b ≤ a
at_left a b = elim (which a b) [
  | inl (is, less) ↦ omega (arith, is)
  | inr (is, more) ↦ omega (arith, is, more)
]

at_right : (a b : ℕ) → lesser a b ≤ b
at_right a b = elim (which a b) [
  | inl (is, less) ↦ omega (arith, is, less)
  | inr (is, more) ↦ omega (arith, is)
]

module _ (mesh : Mesh) (lengths : List ℕ) (surface : IsSurface mesh) (positive : ArePositive mesh lengths) where
  trees : ℕ → Trees
  trees = (choice_exists mesh lengths surface positive).0

  -- how far a vertex is from another one
  from : ℕ → ℕ → ℕ
  from x v = (trees x).tree.rank v

  is_shortest : (x : ℕ) → x < mesh.vertices → IsShortest (primal (cells_of mesh)) (edge_length lengths) (trees x).tree
  unfolding trees
  is_shortest x l =
      shortest_is_shortest mesh lengths x (trees x).tree surface positive ((choice_exists mesh lengths surface positive).1 x l).shortest

  is_tree : (x : ℕ) → x < mesh.vertices → IsTree (primal (cells_of mesh)) (trees x).tree
  unfolding trees
  is_tree x l =
      shortest_is_tree mesh lengths x (trees x).tree surface positive ((choice_exists mesh lengths surface positive).1 x l).shortest

  root_is : (x : ℕ) → x < mesh.vertices → (trees x).tree.root ≡ x
  unfolding trees
  root_is x l = ((choice_exists mesh lengths surface positive).1 x l).shortest.root

  none_there : (x : ℕ) → x < mesh.vertices → from x x ≡ 0
  unfolding from
  none_there x l = ap (trees x).tree.rank (sym (root_is x l)) ∙ (is_shortest x l).none_at_root

  -- the distance from the nearest of some vertices, or a limit where that is less
  pub nearest : ℕ → List ℕ → ℕ → ℕ
  nearest limit [] v = limit
  nearest limit (x ∷ xs) v = lesser (from x v) (nearest limit xs v)

  abbrev AreInside : List ℕ → Type 0
  AreInside xs = All (λ v. v < mesh.vertices) xs

  inside_behind : (x : ℕ) (xs : List ℕ) → AreInside (x ∷ xs) → AreInside xs
  inside_behind x xs all k d l = all (suc k) d (omega (arith, l))

  limited : (limit : ℕ) (xs : List ℕ) (v : ℕ) → nearest limit xs v ≤ limit
  unfolding nearest
  limited limit [] v = omega arith
  limited limit (x ∷ xs) v =
      let rest = limited limit xs v in
      let less = at_right (from x v) (nearest limit xs v) in
      omega (arith, rest, less)

  on_part : (limit : ℕ) (xs : List ℕ) → AreInside xs → (v : ℕ) → Contains xs v → nearest limit xs v ≡ 0
  unfolding nearest
  on_part limit [] inside v (k, l, is) = absurd (omega (arith, l))
  on_part limit (x ∷ xs) inside v (zero, l, is) =
      let here : from x v ≡ 0 = ap (from x) (sym is) ∙ none_there x (inside 0 x (omega arith)) in
      let less = at_left (from x v) (nearest limit xs v) in
      omega (arith, here, less)
  on_part limit (x ∷ xs) inside v (suc k, l, is) =
      let rest = on_part limit xs (inside_behind x xs inside) v (k, omega (arith, l), is) in
      let less = at_right (from x v) (nearest limit xs v) in
      omega (arith, rest, less)

  -- no farther over an edge
  abbrev GoesOver : (ℕ → ℕ) → ℕ → ℕ → ℕ → Type 0
  GoesOver d u w e = d w ≤ d u + edge_length lengths e

  over_two : (a b : ℕ → ℕ) (u w e : ℕ) → GoesOver a u w e → GoesOver b u w e → lesser (a w) (b w) ≤ lesser (a u) (b u) + edge_length lengths e
  over_two a b u w e one two = elim (which (a u) (b u)) [
    | inl (is, less) ↦ let low = at_left (a w) (b w) in omega (arith, is, low, one)
    | inr (is, more) ↦ let low = at_right (a w) (b w) in omega (arith, is, low, two)
  ]

  slack : (limit : ℕ) (xs : List ℕ) → AreInside xs → (e : ℕ) → e < edge_count mesh →
      GoesOver (nearest limit xs) (ends mesh e).1 (ends mesh e).0 e × GoesOver (nearest limit xs) (ends mesh e).0 (ends mesh e).1 e
  unfolding nearest from
  slack limit [] inside e l = (omega arith, omega arith)
  slack limit (x ∷ xs) inside e l =
      let rest = slack limit xs (inside_behind x xs inside) e l in
      let here = (is_shortest x (inside 0 x (omega arith))).no_short_cut e l in (
        over_two (from x) (nearest limit xs) (ends mesh e).1 (ends mesh e).0 e here.1 rest.0,
        over_two (from x) (nearest limit xs) (ends mesh e).0 (ends mesh e).1 e here.0 rest.1,
      )

  -- over any edge between two vertices
  goes_over : (d : ℕ → ℕ) (e : ℕ) → GoesOver d (ends mesh e).1 (ends mesh e).0 e × GoesOver d (ends mesh e).0 (ends mesh e).1 e →
      (u w : ℕ) → joins (primal (cells_of mesh)) u w e ≡ true → GoesOver d u w e
  goes_over d e both u w join = elim (one_of (primal (cells_of mesh)) u w e join) [
    | inl (is_u, is_w) ↦ subst (λ n. d n ≤ d u + edge_length lengths e) is_w (subst (λ n. d (ends mesh e).1 ≤ d n + edge_length lengths e) is_u both.1)
    | inr (is_w, is_u) ↦ subst (λ n. d n ≤ d u + edge_length lengths e) is_w (subst (λ n. d (ends mesh e).0 ≤ d n + edge_length lengths e) is_u both.0)
  ]

  -- what is nearer than the limit is on the part or has a tight edge
  abbrev IsReached : (ℕ → ℕ) → List ℕ → ℕ → Type 0
  IsReached d xs v = Contains xs v ⊎ ((u : ℕ) × (e : ℕ) × IsTight mesh lengths d v u e)

  behind_contains : (x : ℕ) (xs : List ℕ) (v : ℕ) → Contains xs v → Contains (x ∷ xs) v
  behind_contains x xs v (k, l, is) = (suc k, omega (arith, l), is)

  -- a vertex with the distance from x has it over the last edge of the way from there
  by_tree : (limit : ℕ) (x : ℕ) (xs : List ℕ) → AreInside (x ∷ xs) → (v : ℕ) → v < mesh.vertices →
      nearest limit (x ∷ xs) v ≡ from x v → IsReached (nearest limit (x ∷ xs)) (x ∷ xs) v
  unfolding nearest from
  by_tree limit x xs inside v lv is =
      let lx : x < mesh.vertices = inside 0 x (omega arith) in
      let t : Tree = (trees x).tree in
      let tree = is_tree x lx in
      elim (cases_eq v t.root) [
        | inl root ↦ inl (0, omega arith, sym (root ∙ root_is x lx))
        | inr ne ↦
            let u : ℕ = t.parent v in
            let e : ℕ = t.up v in
            let le : e < edge_count mesh = tree.up_in v lv ne in
            let join : joins (primal (cells_of mesh)) v u e ≡ true = tree.up_joins v lv ne in
            let adds : from x v ≡ from x u + edge_length lengths e = (is_shortest x lx).adds_up v lv ne in
            let d : ℕ → ℕ = nearest limit (x ∷ xs) in
            let less : d u ≤ from x u = at_left (from x u) (nearest limit xs u) in
            let over : d v ≤ d u + edge_length lengths e =
            goes_over d e (slack limit (x ∷ xs) inside e le) u v (joins_turned (primal (cells_of mesh)) v u e join) in
            inr (u, e, record { edge_in = le; joined = join; is = omega (arith, is, adds, less, over) })
      ]

  -- and so for the others
  by_others : (limit : ℕ) (x : ℕ) (xs : List ℕ) → AreInside (x ∷ xs) → (v : ℕ) → v < mesh.vertices →
      nearest limit (x ∷ xs) v ≡ nearest limit xs v → IsReached (nearest limit xs) xs v →
      IsReached (nearest limit (x ∷ xs)) (x ∷ xs) v
  unfolding nearest
  by_others limit x xs inside v lv is (inl on) = inl (behind_contains x xs v on)
  by_others limit x xs inside v lv is (inr (u, e, tight)) =
      let d : ℕ → ℕ = nearest limit (x ∷ xs) in
      let less : d u ≤ nearest limit xs u = at_right (from x u) (nearest limit xs u) in
      let over : d v ≤ d u + edge_length lengths e =
      goes_over d e (slack limit (x ∷ xs) inside e tight.edge_in) u v (joins_turned (primal (cells_of mesh)) v u e tight.joined) in
      let size = tight.is in
      inr (u, e, record { edge_in = tight.edge_in; joined = tight.joined; is = omega (arith, is, less, over, size) })

  reached : (limit : ℕ) (xs : List ℕ) → AreInside xs → (v : ℕ) → v < mesh.vertices → nearest limit xs v < limit →
      IsReached (nearest limit xs) xs v
  unfolding nearest
  reached limit [] inside v lv below = absurd (omega (arith, below))
  reached limit (x ∷ xs) inside v lv below = elim (which (from x v) (nearest limit xs v)) [
    | inl (is, less) ↦ by_tree limit x xs inside v lv is
    | inr (is, more) ↦
        by_others limit x xs inside v lv is (reached limit xs (inside_behind x xs inside) v lv (omega (arith, is, below)))
  ]

  pub distances : (limit : ℕ) (xs : List ℕ) → AreInside xs → AreDistances mesh lengths xs limit (nearest limit xs)
  distances limit xs inside = record {
    on_part = on_part limit xs inside;
    limited = λ v l. limited limit xs v;
    slack = slack limit xs inside;
    reached = reached limit xs inside;
  }

  -- ---- labels

  module _ (cert : SheetCert) (part : List ℕ) (limit : ℕ) (d : ℕ → ℕ) (are : AreDistances mesh lengths part limit d) where
    tight_decided : (v u e : ℕ) → e < edge_count mesh → Decided (IsTight mesh lengths d v u e)
    tight_decided v u e l =
        as_well (λ is. record { edge_in = l; joined = is.0; is = is.1 }) (λ tight. (tight.joined, tight.is))
        (both (when_true (joins (primal (cells_of mesh)) v u e)) (when_same (d u + edge_length lengths e) (d v)))

    abbrev HasTight : ℕ → ℕ → Type 0
    HasTight v u = (e : ℕ) × (e < edge_count mesh) × IsTight mesh lengths d v u e

    in_range : (v u e : ℕ) → IsTight mesh lengths d v u e → u < mesh.vertices
    in_range v u e tight = joined_below (primal (cells_of mesh)) (surfaces_are_cells mesh surface).complex.primal_ends u v
        (e, tight.edge_in, joins_turned (primal (cells_of mesh)) v u e tight.joined)

    -- a vertex and an edge: the parent and the edge to it, where there is one
    found : (v : ℕ) → (u : ℕ) × (e : ℕ)
        × (v < mesh.vertices → d v < limit → (Contains part v → ⊥) → IsParent mesh lengths d v u e)
    found v = elim (cases_lt v mesh.vertices) [
      | inr out ↦ (0, 0, λ l below off. absurd (omega (arith, l, out)))
      | inl l ↦
          elim (least_such mesh.vertices (HasTight v) (λ u m. some_below (edge_count mesh) (IsTight mesh lengths d v u) (tight_decided v u))) [
            | inl some ↦
                let tight = some.holds in (
                  some.at,
                  tight.0,
                  λ m below off. record {
                    tight = tight.2;
                    least = λ w f other. some.least w (in_range v w f other) (f, other.edge_in, other);
                  },
                )
            | inr none ↦ (
              0,
              0,
              λ m below off. absurd (elim (are.reached v l below) [
                | inl on ↦ off on
                | inr (u, e, tight) ↦ none u (in_range v u e tight) (e, tight.edge_in, tight)
              ]),
            )
          ]
    ]

    parent : ℕ → ℕ
    parent v = (found v).0

    edge_up : ℕ → ℕ
    edge_up v = (found v).1

    is_parent : (v : ℕ) → v < mesh.vertices → d v < limit → (Contains part v → ⊥) → IsParent mesh lengths d v (parent v) (edge_up v)
    unfolding parent edge_up
    is_parent v = (found v).2

    -- labels of the vertices that are nearer than a bound
    record AreLabelsBelow (n : ℕ) (label : ℕ → ℕ) : Type 0 where
      far : (v : ℕ) → v < mesh.vertices → d v ≡ limit → label v ≡ 0
      there : (v : ℕ) → v < mesh.vertices → d v < limit → Contains part v → label v ≡ label_on mesh cert part v
      others : (v : ℕ) → v < mesh.vertices → d v < limit → d v < n → (Contains part v → ⊥) →
          label v ≡ bit_xor (label (parent v)) (edge_set mesh cert (edge_up v))

    -- those of the part alone
    start : ℕ → ℕ
    start v = if nat_lt (d v) limit then label_on mesh cert part v else 0

    started : AreLabelsBelow 0 start
    unfolding start
    started = record {
      far = λ v l is. rw (le-ltb (d v) limit (omega (arith, is))) refl;
      there = λ v l below on. rw (lt-ltb (d v) limit below) refl;
      others = λ v l below none off. absurd (omega (arith, none));
    }

    -- and of the vertices at one distance more, if they aren't on the part
    more : ℕ → (ℕ → ℕ) → ℕ → ℕ
    more n label v =
        if (d v == n) && nat_le (length part) (place_on part v)
        then bit_xor (label (parent v)) (edge_set mesh cert (edge_up v)) else label v

    elsewhere : (n : ℕ) (label : ℕ → ℕ) (v : ℕ) → d v ≢ n → more n label v ≡ label v
    unfolding more
    elsewhere n label v ne = rw (ne_eqb (d v) n ne) refl

    on_the_part : (n : ℕ) (label : ℕ → ℕ) (v : ℕ) → Contains part v → more n label v ≡ label v
    unfolding more
    on_the_part n label v on =
        let off : nat_le (length part) (place_on part v) ≡ false = lt-leb (length part) (place_on part v) (place_in part v on) in
        rw (off, and_false (d v == n)) refl

    off_the_part : (n : ℕ) (label : ℕ → ℕ) (v : ℕ) → d v ≡ n → (Contains part v → ⊥) →
        more n label v ≡ bit_xor (label (parent v)) (edge_set mesh cert (edge_up v))
    unfolding more
    off_the_part n label v is off = elim (cases_lt (place_on part v) (length part)) [
      | inl on ↦ absurd (off (on_from_place part v on))
      | inr behind ↦ rw (eq-eqb (d v) n is, le-leb (length part) (place_on part v) behind) refl
    ]

    nearer : (v : ℕ) → v < mesh.vertices → d v < limit → (Contains part v → ⊥) → d (parent v) < d v
    nearer v l below off =
        let up = is_parent v l below off in
        let long = positive (edge_up v) up.tight.edge_in in
        let size = up.tight.is in
        omega (arith, long, size)

    one_more : (n : ℕ) (label : ℕ → ℕ) → n < limit → AreLabelsBelow n label → AreLabelsBelow (suc n) (more n label)
    one_more n label less before = record {
      far = λ v l is. elsewhere n label v (λ same. absurd (omega (arith, is, same, less))) ∙ before.far v l is;
      there = λ v l below on. on_the_part n label v on ∙ before.there v l below on;
      others = λ v l below under off.
          let near = nearer v l below off in
          let up : more n label (parent v) ≡ label (parent v) = elsewhere n label (parent v) (λ same. absurd (omega (arith, same, near, under))) in
          elim (cases_eq (d v) n) [
            | inl same ↦ off_the_part n label v same off ∙ ap (λ x. bit_xor x (edge_set mesh cert (edge_up v))) (sym up)
            | inr ne ↦
                elsewhere n label v ne ∙ before.others v l below (omega (arith, under, ne)) off
                ∙ ap (λ x. bit_xor x (edge_set mesh cert (edge_up v))) (sym up)
          ];
    }

    labels_below : (n : ℕ) → n ≤ limit → (label : ℕ → ℕ) × AreLabelsBelow n label
    labels_below zero le = (start, started)
    labels_below (suc n) le =
        let before = labels_below n (omega (arith, le)) in
        (more n before.0, one_more n before.0 (omega (arith, le)) before.1)

    pub labels : (label : ℕ → ℕ) × AreLabels mesh lengths cert part limit d label
    labels =
        let all = labels_below limit (omega arith) in (
          all.0,
          record {
            far = all.1.far;
            on_part = all.1.there;
            others = λ v l below off. (parent v, edge_up v, is_parent v l below off, all.1.others v l below below off);
          },
        )

  -- distances and labels of a sheet whose part is inside
  pub rule_exists : (cert : SheetCert) (row : SheetRow) → All (λ v. v < mesh.vertices) (part_of cert row) →
      (distance : ℕ → ℕ) × (label : ℕ → ℕ) × FollowsRule mesh lengths cert row distance label
  rule_exists cert row inside =
      let part = part_of cert row in
      let limit = limit_of mesh lengths cert row in
      let d = distances limit part inside in
      let p = labels cert part limit (nearest limit part) d in
      (nearest limit part, p.0, record { distances = d; labels = p.1 })
