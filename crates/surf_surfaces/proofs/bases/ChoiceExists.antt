-- The trees that are chosen exist.
use Rattle.surf_surfaces.proofs.Common.{◌≡◌, ◌≢◌, ℕ, ◌+◌, ◌<◌, ◌≤◌, Bool, true, not, ◌&&◌, eqb, List, [], ◌∷◌, ◌++◌, refl, sym, ap, ◌∙◌, subst, arith, inl, inr, ◌⊎◌, cases_Bool, cases_lt, cases_eq, and_parts, and_from, eqb-true, eq-eqb, false≢true, nat_tests, any_below-from, primal, dual, IsJoined, edge_between, IsGraphWalk, graph_walk_length, Tree, IsTree, joined_below, Mesh, pair, edges, among, IsSurface, edge_length, edge_number, walk_length, ArePositive, cells_of, loop_length, Trees, AreChosenAt, walk-append, edge_between_is, LeadsFrom, IsDistance, IsTight, IsShortestTree}
use Rattle.surf_graphs.proofs.HeaviestTrees.{HeaviestTree, heaviest_tree}
use Rattle.surf_graphs.proofs.CellLaws.{outside_joins}
use Rattle.surf_graphs.proofs.ShortestWalks.{ShortestWalk, shortest_walk, first_passing}
use Rattle.surf_graphs.proofs.Splitting.{walk_parts}
use Rattle.surf_surfaces.specs.Cotree.{tree_edges, precedes, is_no_later, IsHeaviestCotree}
use Rattle.surf_surfaces.specs.ChoiceLaws.{ChoiceExists}
use Rattle.surf_surfaces.proofs.meshes.EdgeLaws.{among-contains, contains_from_among}
use Rattle.surf_surfaces.proofs.walks.WalkLaws.{vertices_joined}
use Rattle.surf_surfaces.proofs.meshes.CellLaws.{surfaces_are_cells}
use Rattle.surf_surfaces.proofs.walks.GraphWalkLaws.{walks_are_graph_walks, from_joined, between_is_number}
use Rattle.surf_surfaces.proofs.walks.ShortestTreeLaws.{walk_over, shortest_is_tree}
use Rattle.surf_surfaces.proofs.classes.CotreeLaws.{not-false_is, heavy_cotrees_are_heaviest}

-- ---- the heaviest tree of faces

before_total : (weight : ℕ → ℕ) (a b : ℕ) → (is_no_later weight a b ≡ true) ⊎ (is_no_later weight b a ≡ true)
before_total weight a b = elim (cases_Bool (precedes weight b a)) [
  | inl h ↦ inr (other weight a b h)
  | inr h ↦ inl (ap not h)
]
  where
    other : (weight : ℕ → ℕ) (a b : ℕ) → precedes weight b a ≡ true → not (precedes weight a b) ≡ true
    other weight a b h = grind (arith, nat_tests)

before_chain : (weight : ℕ → ℕ) (a b c : ℕ) → is_no_later weight a b ≡ true → is_no_later weight b c ≡ true →
    is_no_later weight a c ≡ true
before_chain weight a b c h k = grind (arith, nat_tests)

pub heaviest_exists : (mesh : Mesh) (lengths : List ℕ) (tree : Tree) → IsSurface mesh →
    IsTree (primal (cells_of mesh)) tree → (cotree : Tree) × IsHeaviestCotree mesh lengths tree cotree
heaviest_exists mesh lengths tree surface is_tree =
    let s = cells_of mesh in
    let cells = (surfaces_are_cells mesh surface).complex in
    let weight = loop_length mesh lengths tree in
    let found : HeaviestTree (dual s) (λ e. not (tree_edges mesh tree e)) (is_no_later weight) 0 =
    heaviest_tree (is_no_later weight) (before_total weight) (before_chain weight) (dual s)
    (λ e. not (tree_edges mesh tree e)) 0 surface.some_face cells.dual_ends
    (λ set stays. outside_joins s cells tree is_tree set (λ e l out. stays e l (ap not out))) in (
      found.tree,
      heavy_cotrees_are_heaviest mesh lengths tree found.tree surface
          (record { root = found.at_root; spans = found.is; root_depth = found.root_depth; depths = found.depths })
          (λ f l ne. not-false_is (tree_edges mesh tree (found.tree.up f)) (found.over f l ne))
          (λ l c l_in out on. found.heavy l c l_in (ap not out) on),
    )

-- ---- the tree of shortest walks

-- a function that has, below n, values that exist there
total_of : (n : ℕ) (P : ℕ → ℕ → Type 0) → ((v : ℕ) → v < n → (m : ℕ) × P v m) → (v : ℕ) → (m : ℕ) × (v < n → P v m)
total_of n P h v = elim (cases_lt v n) [
  | inl l ↦ ((h v l).0, λ k. (h v l).1)
  | inr beyond ↦ (0, λ k. absurd (omega arith))
]

list_end : (c : ℕ) (xs : List ℕ) → (front : List ℕ) × (z : ℕ) × (c ∷ xs ≡ front ++ z ∷ [])
list_end c [] = ([], c, refl)
list_end c (x ∷ xs) = let (front, z, is) = list_end x xs in (c ∷ front, z, ap (λ l. c ∷ l) is)

module _ (mesh : Mesh) (lengths : List ℕ) (base : ℕ) (surface : IsSurface mesh) (positive : ArePositive mesh lengths)
    (base_in : base < mesh.vertices) where
  -- a walk of the mesh from the base, as one of the graph
  to_graph : (v : ℕ) (walk : List ℕ) → LeadsFrom mesh base v walk →
      (rest : List ℕ) × IsGraphWalk (primal (cells_of mesh)) base rest v
      × (walk_length mesh lengths walk ≡ graph_walk_length (primal (cells_of mesh)) (edge_length lengths) base rest)
  to_graph v [] leads = absurd (omega (arith, leads.is_walk.begins))
  to_graph v (a ∷ rest) leads =
      let walks = walks_are_graph_walks mesh surface in
      let is : IsGraphWalk (primal (cells_of mesh)) a rest v =
      subst (IsGraphWalk (primal (cells_of mesh)) a rest) leads.ends (walks.walk a rest leads.is_walk) in (
        rest,
        subst (λ b. IsGraphWalk (primal (cells_of mesh)) b rest v) leads.begins is,
        walks.sizes lengths a rest leads.is_walk ∙ ap
            (λ b. graph_walk_length (primal (cells_of mesh)) (edge_length lengths) b rest) leads.begins,
      )

  shortest : (v : ℕ) → v < mesh.vertices → ShortestWalk (primal (cells_of mesh)) (edge_length lengths) base v
  shortest v v_in =
      let (walk, leads) = vertices_joined mesh surface base v base_in v_in in
      let (rest, is, size) = to_graph v walk leads in
      shortest_walk (primal (cells_of mesh)) (edge_length lengths) (surfaces_are_cells mesh surface).complex.primal_ends
      positive base v rest is

  -- the length of a shortest walk
  record IsLeast (v m : ℕ) : Type 0 where
    shortest : ShortestWalk (primal (cells_of mesh)) (edge_length lengths) base v
    size : graph_walk_length (primal (cells_of mesh)) (edge_length lengths) base shortest.walk ≡ m

  distances : (v : ℕ) → (m : ℕ) × (v < mesh.vertices → IsLeast v m)
  distances = total_of mesh.vertices IsLeast (λ v l. let s = shortest v l in
      (graph_walk_length (primal (cells_of mesh)) (edge_length lengths) base s.walk, record { shortest = s; size = refl }))

  distance : ℕ → ℕ
  distance v = (distances v).0

  is_distance : (v : ℕ) → v < mesh.vertices → IsDistance mesh lengths base v (distance v)
  unfolding distance
  is_distance v l =
      let at = (distances v).1 l in
      let s = at.shortest in
      let walks = walks_are_graph_walks mesh surface in
      let back = walks.from_walk base v s.walk base_in s.is in
      record {
        reached = (
          base ∷ s.walk,
          record { is_walk = back.0; begins = refl; ends = back.1 },
          walks.sizes lengths base s.walk back.0 ∙ at.size,
        );
        least = λ walk leads.
            let (rest, is, other) = to_graph v walk leads in
            let bound = s.least rest is in
            omega (arith, bound, at.size, other);
      }

  -- each vertex but the base has a tight neighbour
  some_tight : (v : ℕ) → v < mesh.vertices → v ≢ base →
      (u : ℕ) × (u < mesh.vertices) × IsTight mesh lengths distance u v
  unfolding distance
  some_tight v l ne =
      let at = (distances v).1 l in
      last_step at.shortest.walk at.shortest.is at.size
    where
      last_step : (w : List ℕ) → IsGraphWalk (primal (cells_of mesh)) base w v →
          graph_walk_length (primal (cells_of mesh)) (edge_length lengths) base w ≡ (distances v).0 →
          (u : ℕ) × (u < mesh.vertices) × IsTight mesh lengths (λ x. (distances x).0) u v
      last_step [] walk size = absurd (ne (sym walk))
      last_step (c ∷ xs) walk size =
          let graph = primal (cells_of mesh) in
          let len = edge_length lengths in
          let cells = surfaces_are_cells mesh surface in
          let (front, z, is) = list_end c xs in
          let (u, before, after) =
          walk_parts graph base front (z ∷ []) v (subst (λ w. IsGraphWalk graph base w v) is walk) in
          let both = walk-append graph len base front u (z ∷ []) v before after in
          let step : IsJoined graph u v = subst (IsJoined graph u) after.1 after.0 in
          let u_in = joined_below graph cells.complex.primal_ends u v step in
          let e = edge_between graph u v in
          let at = edge_between_is graph u v step in
          let same_edge : edge_between graph u z ≡ e = ap (edge_between graph u) after.1 in
          let to_u = (distances u).1 u_in in
          let to_v = (distances v).1 l in
          let low = to_u.shortest.least front before in
          let over = walk_over graph len cells.one_edge base to_u.shortest.walk u v e to_u.shortest.is at.0 at.1 in
          let high = to_v.shortest.least (to_u.shortest.walk ++ v ∷ []) over.0 in
          let whole : graph_walk_length graph len base (c ∷ xs) ≡ graph_walk_length graph len base front +
          (len (edge_between graph u z) + 0) = ap (graph_walk_length graph len base) is ∙ both.2 in
          let whole_too : len (edge_between graph u z) ≡ len e = ap len same_edge in
          let has = contains_from_among (pair u v) (edges mesh) (from_joined mesh surface.is_mesh u v step) in
          let number : e ≡ edge_number mesh (u, v) = between_is_number mesh surface.is_mesh u v has in
          let adds : (distances u).0 + len e ≡ (distances v).0 =
          omega (arith, low, high, to_u.size, to_v.size, size, whole, whole_too, over.1) in
          (u, u_in, (has, ap (λ h. (distances u).0 + len h) (sym number) ∙ adds))

  -- whether u is a tight neighbour of v
  tight_test : ℕ → ℕ → Bool
  tight_test u v = among (pair u v) (edges mesh) && eqb (distance u + edge_length lengths (edge_number mesh (u, v)))
      (distance v)

  tight_from : (u v : ℕ) → tight_test u v ≡ true → IsTight mesh lengths distance u v
  unfolding tight_test
  tight_from u v h =
      let both = and_parts (among (pair u v) (edges mesh))
      (eqb (distance u + edge_length lengths (edge_number mesh (u, v))) (distance v)) h in (
        contains_from_among (pair u v) (edges mesh) both.0,
        eqb-true (distance u + edge_length lengths (edge_number mesh (u, v))) (distance v) both.1,
      )

  to_tight : (u v : ℕ) → IsTight mesh lengths distance u v → tight_test u v ≡ true
  unfolding tight_test
  to_tight u v h = and_from (among (pair u v) (edges mesh))
      (eqb (distance u + edge_length lengths (edge_number mesh (u, v))) (distance v))
      (among-contains (pair u v) (edges mesh) h.0)
      (eq-eqb (distance u + edge_length lengths (edge_number mesh (u, v))) (distance v) h.1)

  -- the least of the tight neighbours
  first_tight : (v : ℕ) → v < mesh.vertices → v ≢ base → (u : ℕ) × IsTight mesh lengths distance u v
      × ((w : ℕ) → IsTight mesh lengths distance w v → u ≤ w)
  first_tight v l ne =
      let (u, u_in, tight) = some_tight v l ne in
      let (k, k_in, is, before) =
      first_passing mesh.vertices (λ w. tight_test w v)
      (any_below-from mesh.vertices (λ w. tight_test w v) u u_in (to_tight u v tight)) in (
        k,
        tight_from k v is,
        λ w h. elim (cases_lt w k) [
          | inl less ↦ absurd (false≢true (sym (before w less) ∙ to_tight w v h))
          | inr no_less ↦ no_less
        ],
      )

  parents : (v : ℕ) → (p : ℕ)
      × (v < mesh.vertices → v ≢ base → IsTight mesh lengths distance p v
      × ((w : ℕ) → IsTight mesh lengths distance w v → p ≤ w))
  parents v = elim (cases_lt v mesh.vertices) [
    | inr beyond ↦ (0, λ l ne. absurd (omega arith))
    | inl l ↦ elim (cases_eq v base) [
      | inl same ↦ (0, λ k ne. absurd (ne same))
      | inr ne ↦ let r = first_tight v l ne in (r.0, λ k other. (r.1, r.2))
    ]
  ]

  pub shortest_exists : (tree : Tree) × IsShortestTree mesh lengths base tree
  shortest_exists = (
    record { root = base; parent = λ v. (parents v).0; up = λ v. edge_number mesh ((parents v).0, v); rank = distance },
    record {
      base_in = base_in;
      root = refl;
      distances = is_distance;
      tight = λ v l ne. ((parents v).1 l ne).0;
      least = λ u v l ne h. ((parents v).1 l ne).1 u h;
      up = λ v l ne. refl;
    },
  )

pub choice_exists : ChoiceExists
choice_exists mesh lengths surface positive = ((λ x. (all x).0), λ x l. (all x).1 l)
  where
    nowhere : Tree
    nowhere = record { root = 0; parent = λ v. 0; up = λ v. 0; rank = λ v. 0 }

    all : (x : ℕ) → (trees : Trees) × (x < mesh.vertices → AreChosenAt mesh lengths x trees)
    all x = elim (cases_lt x mesh.vertices) [
      | inr beyond ↦ (record { tree = nowhere; cotree = nowhere }, λ l. absurd (omega arith))
      | inl l ↦
          let t = shortest_exists mesh lengths x surface positive l in
          let c = heaviest_exists mesh lengths t.0 surface (shortest_is_tree mesh lengths x t.0 surface positive t.1) in
          (record { tree = t.0; cotree = c.0 }, λ k. record { shortest = t.1; heaviest = c.1 })
    ]
