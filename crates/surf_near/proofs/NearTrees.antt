-- What a search of a mesh has found as far as a radius is there in each tree of shortest walks.
use Rattle.surf_near.proofs.Common.{◌≡◌, ◌≢◌, ℕ, ◌+◌, ◌*◌, ◌^◌, ◌<◌, ◌≤◌, List, length, take, refl, sym, ap, ◌∙◌, subst, arith, inl, inr, get_or, Contains, eq-eqb, ne_eqb, cases_eq, cases_lt, le-leb, lt-leb, false≢true, get_or-take, length-take-le, Contains-get_or, primal, Tree, joins_turned, joined_below, Mesh, pair, edges, ends, IsSurface, edge_length, edge_number, place_of, ArePositive, cells_of, IsShortestTree, longest, at, IsTight, Tables, NearTables, never, IsNearTo, IsNear, IsFound}
use Rattle.surf_surfaces.proofs.Common.{IsTight as IsTightIn}
use Rattle.surf_surfaces.proofs.meshes.EdgeLaws.{place_of-among, place_of-ends, among-contains, contains_from_among}
use Rattle.surf_surfaces.proofs.meshes.CellLaws.{surfaces_are_cells, ends_below, joins_from, joins_is}
use Rattle.surf_surfaces.proofs.walks.GraphWalkLaws.{joined, from_joined}
use Rattle.surf_surfaces.proofs.walks.ShortestTreeLaws.{shortest_is_tree, shortest_is_shortest}
use Rattle.surf_near.proofs.Reaching.{same_rank, settled_near}

-- what a desk shows of its tables
abbrev pub shown : ℕ → Tables → NearTables
shown base t = record {
  base = base;
  settled = take t.count t.order.items;
  distances = t.distance.items;
  parents = t.parent.items;
  ups = t.up.items;
  leasts = t.least.items;
}

module _ (mesh : Mesh) (lengths : List ℕ) (base radius : ℕ) (t : Tables) (surface : IsSurface mesh) (positive : ArePositive mesh lengths)
    (small : mesh.vertices ≤ longest) (found : IsFound (primal (cells_of mesh)) (edge_length lengths) base radius t) where
  abbrev dist : ℕ → ℕ
  dist = at t.distance.items

  short : (v : ℕ) → v < mesh.vertices → dist v ≢ never → dist v + longest < never
  short v v_in settled = let f = found.reached.fits v v_in settled in omega (arith, f, small)

  -- the parent of a settled vertex
  has_parent : (v : ℕ) → v < mesh.vertices → v ≢ base → dist v ≢ never →
      (at t.parent.items v < mesh.vertices) × IsTight (primal (cells_of mesh)) (edge_length lengths) dist v (at t.parent.items v) (at t.up.items v)
  has_parent v v_in ne settled =
      let r = found.reached.tight v v_in ne settled in
      let chosen = found.chosen v v_in settled in
      let le : at t.parent.items v ≤ r.before = chosen.parent.least r.before r.edge (record { edge_in = r.edge_in; joined = r.joined; is = sym r.is }) in
      chosen.parent.tight (λ none. absurd (omega (arith, le, none, r.before_in, small)))

  -- a tight neighbour is settled
  tight_settled : (v u e : ℕ) → v < mesh.vertices → dist v ≢ never → IsTight (primal (cells_of mesh)) (edge_length lengths) dist v u e → dist u ≢ never
  tight_settled v u e v_in settled tight none =
      let is : dist u + edge_length lengths e ≡ dist v = tight.is in
      let room = short v v_in settled in
      absurd (omega (arith, is, none, room))

  module _ (tree : Tree) (shortest : IsShortestTree mesh lengths base tree) where
    same : (v : ℕ) → v < mesh.vertices → dist v ≢ never → tree.rank v ≡ dist v
    same = same_rank (primal (cells_of mesh)) (edge_length lengths) base radius dist tree
        (shortest_is_tree mesh lengths base tree surface positive shortest)
        (shortest_is_shortest mesh lengths base tree surface positive shortest) shortest.root positive found.reached

    reach : (v : ℕ) → v < mesh.vertices → tree.rank v ≤ radius → dist v ≢ never
    reach = settled_near (primal (cells_of mesh)) (edge_length lengths) base radius dist tree
        (shortest_is_tree mesh lengths base tree surface positive shortest)
        (shortest_is_shortest mesh lengths base tree surface positive shortest) shortest.root positive found.reached

    -- a tight neighbour by the distances of the search is one by those of the tree
    to_tree : (v u e : ℕ) → v < mesh.vertices → u < mesh.vertices → dist v ≢ never →
        IsTight (primal (cells_of mesh)) (edge_length lengths) dist v u e →
        IsTightIn mesh lengths tree.rank u v × (e ≡ edge_number mesh (u, v))
    to_tree v u e v_in u_in settled tight =
        let on = joins_turned (primal (cells_of mesh)) v u e tight.joined in
        let pair_is : ends mesh e ≡ pair u v = joins_is (ends mesh e) u v (ends_below mesh surface.is_mesh e tight.edge_in).0 on in
        let number : e ≡ edge_number mesh (u, v) = sym (place_of-ends mesh e tight.edge_in) ∙ ap (λ p. place_of p (edges mesh)) pair_is in
        let has = contains_from_among (pair u v) (edges mesh) (from_joined mesh surface.is_mesh u v (e, tight.edge_in, on)) in
        let u_rank = same u u_in (tight_settled v u e v_in settled tight) in
        let v_rank = same v v_in settled in (
          (
            has,
            ap (λ n. n + edge_length lengths (edge_number mesh (u, v))) u_rank
                ∙ ap (λ n. dist u + edge_length lengths n) (sym number) ∙ tight.is ∙ sym v_rank,
          ),
          number,
        )

    -- and the other way round
    from_tree : (v u : ℕ) → v < mesh.vertices → tree.rank v ≤ radius → IsTightIn mesh lengths tree.rank u v →
        (u < mesh.vertices) × IsTight (primal (cells_of mesh)) (edge_length lengths) dist v u (edge_number mesh (u, v))
    from_tree v u v_in near tight =
        let g = primal (cells_of mesh) in
        let e = place_of (pair u v) (edges mesh) in
        let there = place_of-among (pair u v) (edges mesh) (0, 0) (among-contains (pair u v) (edges mesh) tight.0) in
        let u_in = joined_below g (surfaces_are_cells mesh surface).complex.primal_ends u v (joined mesh u v tight.0) in
        let is : tree.rank u + edge_length lengths e ≡ tree.rank v = tight.1 in
        let u_rank = same u u_in (reach u u_in (omega (arith, is, near))) in
        let v_rank = same v v_in (reach v v_in near) in (
          u_in,
          record {
            edge_in = there.0;
            joined = joins_turned g u v e (joins_from (ends mesh e) u v there.1);
            is = ap (λ n. n + edge_length lengths e) (sym u_rank) ∙ is ∙ v_rank;
          },
        )

    count_in : t.count ≤ length t.order.items
    count_in = omega (arith, found.count_in, found.room.order)

    listed_is : (i : ℕ) → i < length (take t.count t.order.items) → (i < t.count) × (get_or (take t.count t.order.items) i 0 ≡ at t.order.items i)
    listed_is i l =
        let n = length-take-le t.count t.order.items count_in in
        let li : i < t.count = omega (arith, n, l) in
        (li, get_or-take t.count t.order.items i 0 li)

    pub near_to : IsNearTo mesh lengths base radius tree (shown base t)
    near_to = record {
      tables = record {
        root = refl;
        ranks = λ v v_in near. sym (same v v_in (reach v v_in near));
        tight = λ v v_in near ne.
            let settled = reach v v_in near in
            let up = has_parent v v_in ne settled in
            (to_tree v (at t.parent.items v) (at t.up.items v) v_in up.0 settled up.1).0;
        least = λ u v v_in near ne tight.
            let from = from_tree v u v_in near tight in
            (found.chosen v v_in (reach v v_in near)).parent.least u (edge_number mesh (u, v)) from.1;
        up = λ v v_in near ne.
            let settled = reach v v_in near in
            let up = has_parent v v_in ne settled in
            (to_tree v (at t.parent.items v) (at t.up.items v) v_in up.0 settled up.1).1;
      };
      least = record {
        own = λ w w_in near. (found.chosen w w_in (reach w w_in near)).own;
        before = λ p w p_in w_in near tight.
            let from = from_tree w p w_in near tight in
            (found.chosen w w_in (reach w w_in near)).before p (edge_number mesh (p, w)) from.1;
        one = λ w w_in near.
            let settled = reach w w_in near in
            elim (found.chosen w w_in settled).one [
              | inl own ↦ inl own
              | inr (u, e, u_in, tight, is) ↦ inr (u, u_in, (to_tree w u e w_in u_in settled tight).0, is)
            ];
      };
      is_near = λ v v_in. elim (cases_eq (dist v) never) [
        | inl none ↦
            let past : radius < tree.rank v = elim (cases_lt radius (tree.rank v)) [
              | inl l ↦ l
              | inr le ↦ absurd (reach v v_in le none)
            ] in
            rw (eq-eqb (dist v) never none, lt-leb (tree.rank v) radius past) refl
        | inr settled ↦
            let is = same v v_in settled in
            let within = found.reached.within v v_in settled in
            rw (ne_eqb (dist v) never settled, le-leb (tree.rank v) radius (omega (arith, is, within))) refl
      ];
      inside = λ i l.
          let (li, is) = listed_is i l in
          let v_in = found.listed.inside i li in
          let settled = found.listed.settled i li in
          let within = found.reached.within (at t.order.items i) v_in settled in
          let rank = same (at t.order.items i) v_in settled in
          rw is (v_in, omega (arith, within, rank));
      all = λ v v_in near.
          let (i, li, is) = found.listed.all v v_in (reach v v_in near) in
          let n = length-take-le t.count t.order.items count_in in
          let there : get_or (take t.count t.order.items) i 0 ≡ v = get_or-take t.count t.order.items i 0 li ∙ is in
          subst (Contains (take t.count t.order.items)) there (Contains-get_or (take t.count t.order.items) i 0 (omega (arith, n, li)));
      order = λ i l.
          let (li, is) = listed_is i l in
          let v = at t.order.items i in
          let v_in = found.listed.inside i li in
          let settled = found.listed.settled i li in
          elim (cases_eq v base) [
            | inl at_base ↦ inl (is ∙ at_base)
            | inr ne ↦
                let up = has_parent v v_in ne settled in
                let p = at t.parent.items v in
                let e = at t.up.items v in
                let tight : dist p + edge_length lengths e ≡ dist v = up.1.is in
                let some : 1 ≤ edge_length lengths e = positive e up.1.edge_in in
                let (j, lj, at_j) = found.listed.all p up.0 (tight_settled v p e v_in settled up.1) in
                let j_rank : dist (at t.order.items j) ≡ dist p = ap dist at_j in
                let before : j < i = elim (cases_lt j i) [
                  | inl less ↦ less
                  | inr more ↦ elim (cases_eq i j) [
                    | inl both ↦ let e2 : dist v ≡ dist (at t.order.items j) = ap (λ k. dist (at t.order.items k)) both in absurd (omega arith)
                    | inr apart ↦ let up2 = found.listed.rise i j (omega arith) lj in absurd (omega (arith, up2, j_rank, tight, some))
                  ]
                ] in
                inr (j, before, get_or-take t.count t.order.items j 0 lj ∙ at_j ∙ sym (ap (at t.parent.items) is))
          ];
      rise = λ i j lt l.
          let (lj, is_j) = listed_is j l in
          let li : i < t.count = omega (arith, lt, lj) in
          let is_i : get_or (take t.count t.order.items) i 0 ≡ at t.order.items i = get_or-take t.count t.order.items i 0 li in
          let up = found.listed.rise i j lt lj in
          let rank_i = same (at t.order.items i) (found.listed.inside i li) (found.listed.settled i li) in
          let rank_j = same (at t.order.items j) (found.listed.inside j lj) (found.listed.settled j lj) in
          rw (is_i, is_j) (omega (arith, up, rank_i, rank_j));
    }

  pub near_found : mesh.vertices ≤ 2 ^ 29 → IsNear mesh lengths base radius (shown base t)
  near_found few = record {
    made = record { distances = found.room.distance; parents = found.room.parent; ups = found.room.up; leasts = found.room.least };
    base_is = refl;
    fits = λ v v_in near. elim (cases_eq (dist v) never) [
      | inl none ↦ absurd (false≢true (rw (eq-eqb (dist v) never none) at near))
      | inr settled ↦ let f : dist v + longest ≤ mesh.vertices * longest = found.reached.fits v v_in settled in omega (arith, f, few)
    ];
    near = near_to;
  }
