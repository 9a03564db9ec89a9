-- Where χ is 2, the cut through given vertices is the union of the ways in the tree between them.
use Rattle.std.proofs.Common.{◌≡◌, ◌≢◌, ℕ, zero, suc, ◌+◌, ◌<◌, ◌≤◌, ◌⊎◌, inl, inr, sym, refl, subst, ap, ◌∙◌, Bool, true, false, not, ◌&&◌, eqb, arith, eq-eqb, ne_eqb}
use Rattle.surf_surfaces.proofs.Common.{cases_eq, cases_Bool, and_parts, and_from, not-true, eqb-false, both_ways, xor, odd_below, any_below, count_below, Chain, primal, between, Tree, IsTree, in_tree, on_path, cells_of, tree_edges, split_of, Mesh, edge_count, ends, touches, IsSurface, degree_in, Graph, leaves}
use Rattle.surf_z2.proofs.ParityLaws.{xor-same, and_comm, any_below-found, any_below-from, odd_below-same, odd_below-only, odd_below-and-xor}
use Rattle.surf_graphs.proofs.Trees.{tree_edge, path_root, path_step, one_of, up_once, path_inside, along_is, path_leaves}
use Rattle.surf_surfaces.proofs.walks.EvenLaws.{touches-xor}
use Rattle.surf_opening.specs.ChosenCut.{full_cut}
use Rattle.surf_opening.proofs.counts.CutCounts.{spheres_are_cut_along_trees}
use Rattle.surf_opening.proofs.cuts.CutLists.{full_is}
use Rattle.surf_seams.specs.Through.{HasEndsIn, IsOnWay}
use Rattle.surf_seams.specs.Laws.{CutsThroughAreWays}
use Rattle.surf_z2.proofs.Counting.{count_found, count_one, count_less}
use Rattle.surf_seams.proofs.Taking.{degree_found}
use Rattle.surf_seams.proofs.Pieces.{at_first, at_second, ends_at, ends_differ}

-- ---- which nodes have an edge on their way to the root

module _ (g : Graph) (t : Tree) (ok : IsTree g t) where
  -- no node of lesser rank
  pub low : (x : ℕ) → x < g.nodes → x ≢ t.root → (steps v : ℕ) → v < g.nodes → t.rank v < steps →
      t.rank v < t.rank x → on_path t v (t.up x) ≡ false
  low x lx nx zero v lv few less = absurd (omega arith)
  low x lx nx (suc steps) v lv few less = elim (cases_eq v t.root) [
    | inl root ↦ ap (λ v. on_path t v (t.up x)) root ∙ path_root t (t.up x)
    | inr nv ↦
        let falls : t.rank (t.parent v) < t.rank v = ok.rank_falls v lv nv in
        let differ : t.up v ≢ t.up x = λ same. (let e : v ≡ x = up_once g t ok v x lv nv lx nx same in
        less_apart (t.rank v) (t.rank x) less (ap t.rank e)) in
        path_step g t ok v (t.up x) lv nv ∙ rw (ne_eqb (t.up v) (t.up x) differ)
        (low x lx nx steps (t.parent v) (ok.parent_in v lv nv) (omega arith) (omega arith))
  ]
    where
      less_apart : (m n : ℕ) → m < n → m ≡ n → ⊥
      less_apart m n l e = omega arith

  pub lower : (x v : ℕ) → x < g.nodes → x ≢ t.root → v < g.nodes → t.rank v < t.rank x → on_path t v (t.up x) ≡ false
  lower x v lx nx lv less = low x lx nx (suc (t.rank v)) v lv (omega arith) less

  -- the node below it
  pub itself : (x : ℕ) → x < g.nodes → x ≢ t.root → on_path t x (t.up x) ≡ true
  itself x lx nx =
      path_step g t ok x (t.up x) lx nx
      ∙ rw (eq-eqb (t.up x) (t.up x) refl, lower x (t.parent x) lx nx (ok.parent_in x lx nx) (ok.rank_falls x lx nx)) refl

  -- any other node with its parent
  pub passed_up : (x v : ℕ) → x < g.nodes → x ≢ t.root → v < g.nodes → v ≢ t.root → v ≢ x →
      on_path t v (t.up x) ≡ on_path t (t.parent v) (t.up x)
  passed_up x v lx nx lv nv differ =
      path_step g t ok v (t.up x) lv nv
      ∙ rw (ne_eqb (t.up v) (t.up x) (λ same. differ (up_once g t ok v x lv nv lx nx same))) refl

  -- with an edge the one above it
  above_by : (a : ℕ) → a < g.nodes → a ≢ t.root → t.parent a ≢ t.root → (steps v : ℕ) → v < g.nodes →
      t.rank v < steps → on_path t v (t.up a) ≡ true → on_path t v (t.up (t.parent a)) ≡ true
  above_by a la na nx zero v lv few on = absurd (omega arith)
  above_by a la na nx (suc steps) v lv few on = elim (cases_eq v t.root) [
    | inl root ↦ absurd (both_ways (on_path t v (t.up a)) (ap (λ v. on_path t v (t.up a)) root ∙ path_root t (t.up a)) on)
    | inr nv ↦
        let x = t.parent a in
        let lx = ok.parent_in a la na in
        let falls : t.rank (t.parent v) < t.rank v = ok.rank_falls v lv nv in
        elim (cases_eq v a) [
          | inl same ↦ subst (λ v. on_path t v (t.up x) ≡ true) (sym same)
              (passed_up x a lx nx la na (λ e. parent_apart a la na (sym e)) ∙ itself x lx nx)
          | inr differ ↦ elim (cases_eq v x) [
            | inl is ↦ absurd (both_ways (on_path t v (t.up a))
                (lower a v la na lv (subst (λ v. t.rank v < t.rank a) (sym is) (ok.rank_falls a la na))) on)
            | inr other ↦ passed_up x v lx nx lv nv other ∙ above_by a la na nx steps (t.parent v)
                (ok.parent_in v lv nv) (omega arith) (sym (passed_up a v la na lv nv differ) ∙ on)
          ]
        ]
  ]
    where
      parent_apart : (a : ℕ) → a < g.nodes → a ≢ t.root → t.parent a ≢ a
      parent_apart a la na e =
          let falls : t.rank (t.parent a) < t.rank a = ok.rank_falls a la na in
          let same : t.rank (t.parent a) ≡ t.rank a = ap t.rank e in
          omega arith

  pub above : (a v : ℕ) → a < g.nodes → a ≢ t.root → t.parent a ≢ t.root → v < g.nodes →
      on_path t v (t.up a) ≡ true → on_path t v (t.up (t.parent a)) ≡ true
  above a v la na nx lv on = above_by a la na nx (suc (t.rank v)) v lv (omega arith) on

  -- no node has the edges of two nodes with one parent
  siblings_by : (a c : ℕ) → a < g.nodes → a ≢ t.root → c < g.nodes → c ≢ t.root → t.parent a ≡ t.parent c → a ≢ c →
      (steps v : ℕ) → v < g.nodes → t.rank v < steps → on_path t v (t.up a) ≡ true → on_path t v (t.up c) ≡ true → ⊥
  siblings_by a c la na lc nc same apart zero v lv few on_a on_c = omega arith
  siblings_by a c la na lc nc same apart (suc steps) v lv few on_a on_c = elim (cases_eq v t.root) [
    | inl root ↦ both_ways (on_path t v (t.up a)) (ap (λ v. on_path t v (t.up a)) root ∙ path_root t (t.up a)) on_a
    | inr nv ↦
        let falls : t.rank (t.parent v) < t.rank v = ok.rank_falls v lv nv in
        elim (cases_eq v a) [
          | inl is ↦ both_ways (on_path t v (t.up c))
              (passed_up c v lc nc lv nv (λ e. apart (sym is ∙ e))
              ∙ ap (λ v. on_path t (t.parent v) (t.up c)) is
              ∙ ap (λ v. on_path t v (t.up c)) same
              ∙ lower c (t.parent c) lc nc (ok.parent_in c lc nc) (ok.rank_falls c lc nc)) on_c
          | inr not_a ↦ elim (cases_eq v c) [
            | inl is ↦ both_ways (on_path t v (t.up a))
                (passed_up a v la na lv nv not_a
                ∙ ap (λ v. on_path t (t.parent v) (t.up a)) is
                ∙ ap (λ v. on_path t v (t.up a)) (sym same)
                ∙ lower a (t.parent a) la na (ok.parent_in a la na) (ok.rank_falls a la na)) on_a
            | inr not_c ↦ siblings_by a c la na lc nc same apart steps (t.parent v) (ok.parent_in v lv nv) (omega arith)
                (sym (passed_up a v la na lv nv not_a) ∙ on_a) (sym (passed_up c v lc nc lv nv not_c) ∙ on_c)
          ]
        ]
  ]

  pub siblings : (a c v : ℕ) → a < g.nodes → a ≢ t.root → c < g.nodes → c ≢ t.root → t.parent a ≡ t.parent c → a ≢ c →
      v < g.nodes → on_path t v (t.up a) ≡ true → on_path t v (t.up c) ≡ true → ⊥
  siblings a c v la na lc nc same apart lv on_a on_c =
      siblings_by a c la na lc nc same apart (suc (t.rank v)) v lv (omega arith) on_a on_c

-- no rank is above a number
most_rank : (rank : ℕ → ℕ) (n : ℕ) → (most : ℕ) × ((v : ℕ) → v < n → rank v ≤ most)
most_rank rank zero = (0, λ v h. omega arith)
most_rank rank (suc n) =
    let rest = most_rank rank n in
    let most : ℕ = rest.0 in (
      most + rank n,
      λ v h. elim (cases_eq v n) [
        | inl same ↦ let e : rank v ≡ rank n = ap rank same in omega arith
        | inr differ ↦ let l : rank v ≤ most = rest.1 v (omega arith) in omega arith
      ],
    )

-- at a vertex that has an edge, and not just one, there is another
another_at : (mesh : Mesh) (cut : Chain) (v e : ℕ) → e < edge_count mesh → cut e ≡ true → touches v (ends mesh e) ≡ true →
    degree_in mesh cut v ≢ 1 →
    (k : ℕ) × (k < edge_count mesh) × (cut k ≡ true) × (touches v (ends mesh k) ≡ true) × (k ≢ e)
another_at mesh cut v e h held end many =
    let p = λ (k : ℕ). cut k && touches v (ends mesh k) in
    let less : degree_in mesh cut v ≡ suc (count_below (edge_count mesh) (λ k. p k && not (eqb k e))) =
    count_less (edge_count mesh) e p h (and_from (cut e) (touches v (ends mesh e)) held end) in
    let k = count_found (edge_count mesh) (λ k. p k && not (eqb k e)) (omega arith) in
    let parts = and_parts (p k.0) (not (eqb k.0 e)) k.2 in
    let both = and_parts (cut k.0) (touches v (ends mesh k.0)) parts.0 in
    (k.0, k.1, both.0, both.1, eqb-false k.0 e (not-true (eqb k.0 e) parts.1))

module _ {mesh : Mesh} (surface : IsSurface mesh) {tree : Tree} (ok : IsTree (primal (cells_of mesh)) tree) where
  abbrev g : Graph
  g = primal (cells_of mesh)

  -- the ends of a tree edge are a vertex and its parent
  pub up_ends : (m v : ℕ) → m < mesh.vertices → m ≢ tree.root → touches v (ends mesh (tree.up m)) ≡ true →
      (v ≡ m) ⊎ (v ≡ tree.parent m)
  up_ends m v h n end = elim (one_of g m (tree.parent m) (tree.up m) (ok.up_joins m h n)) [
    | inl a ↦ elim (ends_at mesh v (tree.up m) end) [ inl x ↦ inl (sym x ∙ a.0) | inr y ↦ inr (sym y ∙ a.1) ]
    | inr a ↦ elim (ends_at mesh v (tree.up m) end) [ inl x ↦ inr (sym x ∙ a.0) | inr y ↦ inl (sym y ∙ a.1) ]
  ]

  up_at : (m : ℕ) → m < mesh.vertices → m ≢ tree.root → touches m (ends mesh (tree.up m)) ≡ true
  up_at m h n = elim (one_of g m (tree.parent m) (tree.up m) (ok.up_joins m h n)) [
    | inl a ↦ at_first mesh m (tree.up m) a.0
    | inr a ↦ at_second mesh m (tree.up m) a.1
  ]

  up_at_parent : (m : ℕ) → m < mesh.vertices → m ≢ tree.root → touches (tree.parent m) (ends mesh (tree.up m)) ≡ true
  up_at_parent m h n = elim (one_of g m (tree.parent m) (tree.up m) (ok.up_joins m h n)) [
    | inl a ↦ at_second mesh (tree.parent m) (tree.up m) a.1
    | inr a ↦ at_first mesh (tree.parent m) (tree.up m) a.0
  ]

  module _ (points : ℕ → Bool) (cut : Chain)
      (inside : (e : ℕ) → e < edge_count mesh → cut e ≡ true → in_tree g tree e ≡ true)
      (ends_in : HasEndsIn mesh points cut) where
    -- a point below an edge
    abbrev Below : ℕ → Type 0
    Below n = (u : ℕ) × (u < mesh.vertices) × (points u ≡ true) × (on_path tree u (tree.up n) ≡ true)

    below_by : (steps n : ℕ) → n < mesh.vertices → n ≢ tree.root → cut (tree.up n) ≡ true →
        (most_rank tree.rank mesh.vertices).0 < tree.rank n + steps → Below n
    below_by zero n h nr held far =
        let top : tree.rank n ≤ (most_rank tree.rank mesh.vertices).0 = (most_rank tree.rank mesh.vertices).1 n h in
        absurd (omega arith)
    below_by (suc steps) n h nr held far = elim (cases_Bool (points n)) [
      | inl is ↦ (n, h, is, itself g tree ok n h nr)
      | inr none ↦
          let k = another_at mesh cut n (tree.up n) (ok.up_in n h nr) held (up_at n h nr) (ends_in n h none) in
          let m = tree_edge g tree k.0 (inside k.0 k.1 k.2) in
          let on : touches n (ends mesh (tree.up m.0)) ≡ true = ap (λ e. touches n (ends mesh e)) m.3 ∙ k.3 in
          elim (up_ends m.0 n m.1 m.2 on) [
            | inl same ↦ absurd (k.4 (sym m.3 ∙ ap tree.up (sym same)))
            | inr child ↦
                let falls : tree.rank (tree.parent m.0) < tree.rank m.0 = ok.rank_falls m.0 m.1 m.2 in
                let same : tree.rank n ≡ tree.rank (tree.parent m.0) = ap tree.rank child in
                let u = below_by steps m.0 m.1 m.2 (ap cut m.3 ∙ k.2) (omega arith) in
                let nr' : tree.parent m.0 ≢ tree.root = λ e. nr (child ∙ e) in (
                  u.0,
                  u.1,
                  u.2,
                  subst (λ n. on_path tree u.0 (tree.up n) ≡ true) (sym child) (above g tree ok m.0 u.0 m.1 m.2 nr' u.1 u.3),
                )
          ]
    ]

    pub below : (n : ℕ) → n < mesh.vertices → n ≢ tree.root → cut (tree.up n) ≡ true → Below n
    below n h nr held = below_by (suc (most_rank tree.rank mesh.vertices).0) n h nr held (omega arith)

    -- not all points are below an edge
    not_all : (steps n : ℕ) → n < mesh.vertices → n ≢ tree.root → cut (tree.up n) ≡ true → tree.rank n < steps →
        ((v : ℕ) → v < mesh.vertices → points v ≡ true → on_path tree v (tree.up n) ≡ true) → ⊥
    not_all zero n h nr held few all = omega arith
    not_all (suc steps) n h nr held few all =
        let x = tree.parent n in
        let x_in = ok.parent_in n h nr in
        let falls : tree.rank (tree.parent n) < tree.rank n = ok.rank_falls n h nr in
        elim (cases_Bool (points x)) [
          | inl is ↦ both_ways (on_path tree x (tree.up n)) (lower g tree ok n x h nr x_in falls) (all x x_in is)
          | inr none ↦
              let k = another_at mesh cut x (tree.up n) (ok.up_in n h nr) held (up_at_parent n h nr) (ends_in x x_in none) in
              let m = tree_edge g tree k.0 (inside k.0 k.1 k.2) in
              let on : touches x (ends mesh (tree.up m.0)) ≡ true = ap (λ e. touches x (ends mesh e)) m.3 ∙ k.3 in
              elim (up_ends m.0 x m.1 m.2 on) [
                | inl same ↦
                    let xr : x ≢ tree.root = λ e. m.2 (sym same ∙ e) in
                    not_all steps x x_in xr (ap (λ v. cut (tree.up v)) same ∙ ap cut m.3 ∙ k.2) (omega arith)
                    (λ v v_in is. above g tree ok n v h nr xr v_in (all v v_in is))
                | inr child ↦
                    let u = below m.0 m.1 m.2 (ap cut m.3 ∙ k.2) in
                    siblings g tree ok n m.0 u.0 h nr m.1 m.2 child (λ e. k.4 (sym m.3 ∙ ap tree.up (sym e))) u.1
                    (all u.0 u.1 u.2) u.3
              ]
        ]

    -- a point below a number that has an edge not on its way, or there is none
    beside : (n l : ℕ) → ((v : ℕ) × (v < n) × (points v ≡ true) × (on_path tree v l ≡ false))
        ⊎ ((v : ℕ) → v < n → points v ≡ true → on_path tree v l ≡ true)
    beside zero l = inr (λ v h is. absurd (omega arith))
    beside (suc n) l = elim (beside n l) [
      | inl found ↦ let h : found.0 < n = found.1 in inl (found.0, omega arith, found.2, found.3)
      | inr none ↦ elim (cases_Bool (on_path tree n l)) [
        | inl on ↦ inr (λ v h is. elim (cases_eq v n) [
          | inl same ↦ ap (λ v. on_path tree v l) same ∙ on
          | inr differ ↦ none v (omega arith) is
        ])
        | inr off ↦ elim (cases_Bool (points n)) [
          | inl is ↦ inl (n, omega arith, is, off)
          | inr out ↦ inr (λ v h is. elim (cases_eq v n) [
            | inl same ↦ absurd (both_ways (points n) out (ap points (sym same) ∙ is))
            | inr differ ↦ none v (omega arith) is
          ])
        ]
      ]
    ]

    -- so each edge is on a way between two points
    pub on_way_between : (e : ℕ) → e < edge_count mesh → cut e ≡ true → IsOnWay mesh tree points e
    on_way_between e h held =
        let n = tree_edge g tree e (inside e h held) in
        let held' : cut (tree.up n.0) ≡ true = ap cut n.3 ∙ held in
        let u = below n.0 n.1 n.2 held' in
        elim (beside mesh.vertices (tree.up n.0)) [
          | inr all ↦ absurd (not_all (suc (tree.rank n.0)) n.0 n.1 n.2 held' (omega arith) all)
          | inl v ↦ (
            u.0,
            v.0,
            u.1,
            v.1,
            u.2,
            v.2,
            ap (λ e. between tree u.0 v.0 e) (sym n.3) ∙ rw (u.3, v.3) refl,
          )
        ]

  -- ---- the union of the ways

  module _ (points : ℕ → Bool) where
    abbrev from_to : ℕ → ℕ → ℕ → Bool
    from_to e u v = (points u && points v) && between tree u v e

    abbrev ways : Chain
    ways e = any_below mesh.vertices (λ u. any_below mesh.vertices (λ v. from_to e u v))

    pub ways_found : (e : ℕ) → ways e ≡ true → IsOnWay mesh tree points e
    ways_found e held =
        let u = any_below-found mesh.vertices (λ u. any_below mesh.vertices (λ v. from_to e u v)) held in
        let v = any_below-found mesh.vertices (λ v. from_to e u.0 v) u.2 in
        let parts = and_parts (points u.0 && points v.0) (between tree u.0 v.0 e) v.2 in
        let both = and_parts (points u.0) (points v.0) parts.0 in
        (u.0, v.0, u.1, v.1, both.0, both.1, parts.1)

    pub ways_from : (e : ℕ) → IsOnWay mesh tree points e → ways e ≡ true
    ways_from e on =
        any_below-from mesh.vertices (λ u. any_below mesh.vertices (λ v. from_to e u v)) on.0 on.2
        (any_below-from mesh.vertices (λ v. from_to e on.0 v) on.1 on.3
        (and_from (points on.0 && points on.1) (between tree on.0 on.1 e) (and_from (points on.0) (points on.1) on.4 on.5)
        on.6))

    pub way_inside : (e : ℕ) → IsOnWay mesh tree points e → in_tree g tree e ≡ true
    way_inside e on = elim (cases_Bool (in_tree g tree e)) [
      | inl is ↦ is
      | inr out ↦ absurd (both_ways (between tree on.0 on.1 e)
          (rw (path_inside g tree ok e out on.0 on.2, path_inside g tree ok e out on.1 on.3) refl) on.6)
    ]

    -- a way has an even number of edges at a vertex that is no end of it
    way_even : (u v w : ℕ) → u < mesh.vertices → v < mesh.vertices → u ≢ w → v ≢ w →
        odd_below (edge_count mesh) (λ k. between tree u v k && touches w (ends mesh k)) ≡ false
    way_even u v w u_in v_in not_u not_v =
        let set = λ (m : ℕ). eqb m w in
        let at_w = leaves g set in
        odd_below-same (edge_count mesh) (λ k. between tree u v k && touches w (ends mesh k))
        (λ k. at_w k && xor (on_path tree u k) (on_path tree v k))
        (λ k h. ap (λ b. between tree u v k && b) (touches-xor w (ends mesh k) (ends_differ surface k h))
        ∙ and_comm (between tree u v k) (at_w k))
        ∙ odd_below-and-xor (edge_count mesh) at_w (λ k. on_path tree u k) (λ k. on_path tree v k)
        ∙ both (odd_below (edge_count mesh) (λ k. at_w k && on_path tree u k))
        (odd_below (edge_count mesh) (λ k. at_w k && on_path tree v k)) (set u) (set v) (set tree.root)
        (sym (along_is g tree at_w u) ∙ path_leaves g tree ok set u u_in)
        (sym (along_is g tree at_w v) ∙ path_leaves g tree ok set v v_in) (ne_eqb u w not_u) (ne_eqb v w not_v)
      where
        both : (a b x y r : Bool) → a ≡ xor x r → b ≡ xor y r → x ≡ false → y ≡ false → xor a b ≡ false
        both a b x y r p q s t = rw (p, q, s, t) (xor-same r)

    pub ways_ends : HasEndsIn mesh points ways
    ways_ends w w_in out one =
        let e = degree_found mesh ways w (omega arith) in
        let on = ways_found e.0 e.2 in
        let apart : (x : ℕ) → points x ≡ true → x ≢ w = λ x is same.
        both_ways (points w) out (ap points (sym same) ∙ is) in
        let alone : (k : ℕ) → k < edge_count mesh → k ≢ e.0 →
        (between tree on.0 on.1 k && touches w (ends mesh k)) ≡ false = λ k k_in differ.
        elim (cases_Bool (between tree on.0 on.1 k && touches w (ends mesh k))) [
          | inr none ↦ none
          | inl both ↦
              let parts = and_parts (between tree on.0 on.1 k) (touches w (ends mesh k)) both in
              let also = ways_from k (on.0, on.1, on.2, on.3, on.4, on.5, parts.0) in
              absurd (differ (count_one (edge_count mesh) k e.0 (λ k. ways k && touches w (ends mesh k)) k_in e.1
              (and_from (ways k) (touches w (ends mesh k)) also parts.1)
              (and_from (ways e.0) (touches w (ends mesh e.0)) e.2 e.3) one))
        ] in
        both_ways (between tree on.0 on.1 e.0 && touches w (ends mesh e.0))
        (sym (odd_below-only (edge_count mesh) e.0 (λ k. between tree on.0 on.1 k && touches w (ends mesh k)) e.1 alone)
        ∙ way_even on.0 on.1 w on.2 on.3 (apart on.0 on.4) (apart on.1 on.5))
        (and_from (between tree on.0 on.1 e.0) (touches w (ends mesh e.0)) on.6 e.3)

pub cuts_through_are_ways : CutsThroughAreWays
cuts_through_are_ways mesh tree cotree points cut surface split flat through e h =
    let ok = split.tree_is in
    let same : (k : ℕ) → k < edge_count mesh → tree_edges mesh tree k ≡ full_cut mesh tree cotree k = λ k k_in.
    spheres_are_cut_along_trees mesh (split_of mesh tree cotree) surface split flat k k_in
    ∙ sym (full_is mesh tree cotree split k k_in) in (
      (λ held. on_way_between surface ok points cut (λ k k_in held. same k k_in ∙ through.within k k_in held)
          through.ends_in e h held),
      (λ on. through.largest (ways surface ok points)
          (λ k k_in held. sym (same k k_in) ∙ way_inside surface ok points k (ways_found surface ok points k held))
          (ways_ends surface ok points) e h (ways_from surface ok points e on)),
    )
