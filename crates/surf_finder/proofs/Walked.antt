-- Ways up to the base of a search, and the loops of edges by them.
use Rattle.surf_finder.proofs.Common.{◌≡◌, ◌≢◌, ◌⊎◌, inl, inr, ℕ, ◌<◌, ◌≤◌, ◌+◌, ◌/◌, ◌∷◌, ◌++◌, [], true, List, length, get_or, set, reverse, slice_index, refl, sym, ap, ◌∙◌, subst, arith, cases_eq, cases_lt, leb-true, le-leb, get_or_default, get_or-set_same, get_or-set_other, length-set, primal, Tree, IsTree, Mesh, ends, IsSurface, ArePositive, cells_of, IsShortestTree, way_up, way_down, choice_exists, shortest_trees, ends_are_near, shortest_is_tree, way_reversed, ends_in, NearTables, IsNear, is_near, Candidate, Signed, AddsWay, AreWalksOf, AreWritten, AreWrittenTo, HasReachedEnds, IsLoopWalk, IsMeasured, IsReachedTo, IsWalkOf}
use Rattle.surf_graphs.proofs.Ways.{ways_go_by_parents}
use Rattle.surf_finder.proofs.Numbered.{near_parent}
use Rattle.surf_finder.proofs.Told.{half_below}

-- what comes after a vertex on the way up
pub record IsUp (mesh : Mesh) (lengths : List ℕ) (base : ℕ) (t : NearTables) (at p : ℕ) : Type 0 where
  pub within : p < mesh.vertices
  pub near : is_near t p ≡ true
  pub nearer : slice_index t.distances p < slice_index t.distances at
  pub way : (tree : Tree) → IsShortestTree mesh lengths base tree →
      way_up tree (tree.rank at) at ≡ p ∷ way_up tree (tree.rank p) p

module _ (mesh : Mesh) (lengths : List ℕ) (surface : IsSurface mesh) (positive : ArePositive mesh lengths) (base : ℕ)
    (base_in : base < mesh.vertices) where
  is_tree : (tree : Tree) → IsShortestTree mesh lengths base tree → IsTree (primal (cells_of mesh)) tree
  is_tree tree short = shortest_is_tree mesh lengths base tree surface positive short

  one_tree : (tree : Tree) × IsShortestTree mesh lengths base tree
  one_tree = let (trees, chosen) = choice_exists mesh lengths surface positive in ((trees base).tree, (chosen base base_in).shortest)

  pub up_near : (far : ℕ) (t : NearTables) → IsNear mesh lengths base far t → (at p : ℕ) → at < mesh.vertices →
      is_near t at ≡ true → at ≢ base → p ≡ slice_index t.parents at → IsUp mesh lengths base t at p
  up_near far t near at p at_in here ne is =
      let (tree, short) = one_tree in
      let n = near.near tree short in
      let far_in = leb-true (tree.rank at) far (sym (n.is_near at at_in) ∙ here) in
      let up = near_parent mesh lengths base far tree t short n at at_in far_in ne in
      let t_is = is_tree tree short in
      let off : at ≢ tree.root = λ e. ne (e ∙ short.root) in
      let same : p ≡ tree.parent at = is ∙ up.0 in
      let parent_in : tree.parent at < mesh.vertices = t_is.parent_in at at_in off in
      let falls : tree.rank (tree.parent at) < tree.rank at = t_is.rank_falls at at_in off in
      let p_in : p < mesh.vertices = omega (arith, same, parent_in) in
      let rank_is : tree.rank p ≡ tree.rank (tree.parent at) = ap tree.rank same in
      let p_far : tree.rank p ≤ far = omega (arith, rank_is, falls, far_in) in
      let low : slice_index t.distances p ≡ tree.rank p = n.tables.ranks p p_in p_far in
      let high : slice_index t.distances at ≡ tree.rank at = n.tables.ranks at at_in far_in in
      record {
        within = p_in;
        near = n.is_near p p_in ∙ le-leb (tree.rank p) far p_far;
        nearer = omega (arith, low, high, rank_is, falls);
        way = λ other also.
            (let m = near.near other also in
            let within = leb-true (other.rank at) far (sym (m.is_near at at_in) ∙ here) in
            let parent = near_parent mesh lengths base far other t also m at at_in within ne in
            let by = ways_go_by_parents (primal (cells_of mesh)) other (is_tree other also) in
            by.up_step at at_in (λ e. ne (e ∙ also.root))
            ∙ ap (λ x. x ∷ way_up other (other.rank x) x) (sym (is ∙ parent.0)));
      }

  -- nothing comes after the base
  pub up_done : (at : ℕ) → at ≡ base → (tree : Tree) → IsShortestTree mesh lengths base tree → way_up tree (tree.rank at) at ≡ []
  up_done at same tree short =
      let by = ways_go_by_parents (primal (cells_of mesh)) tree (is_tree tree short) in
      subst (λ x. way_up tree (tree.rank x) x ≡ []) (sym (same ∙ sym short.root)) by.up_root

  -- the way up from one end turned, and then that from the other
  pub near_listed : (e u v : ℕ) (l0 l1 l2 l3 : List ℕ) → u < mesh.vertices → u ≡ (ends mesh e).0 → v ≡ (ends mesh e).1 →
      l0 ≡ [] → AddsWay mesh lengths base u l0 l1 → l2 ≡ reverse l1 → AddsWay mesh lengths base v l2 l3 →
      IsLoopWalk mesh lengths base e l3
  near_listed e u v l0 l1 l2 l3 u_in is_u is_v none first turned second tree short =
      let start : l1 ≡ u ∷ way_up tree (tree.rank u) u = first tree short ∙ ap (λ xs. xs ++ u ∷ way_up tree (tree.rank u) u) none in
      let back : l2 ≡ tree.root ∷ way_down tree (tree.rank u) u =
      turned ∙ ap reverse start ∙ way_reversed (primal (cells_of mesh)) tree (is_tree tree short) u u_in in
      second tree short ∙ ap (λ xs. xs ++ v ∷ way_up tree (tree.rank v) v) back
      ∙ ap (λ n. tree.root ∷ way_down tree (tree.rank n) n ++ (v ∷ way_up tree (tree.rank v) v)) is_u
      ∙ ap (λ n. tree.root ∷ way_down tree (tree.rank (ends mesh e).0) (ends mesh e).0 ++ (n ∷ way_up tree (tree.rank n) n)) is_v

-- a search goes as far by the links' own mesh
pub reached_there : (mesh own : Mesh) (lengths : List ℕ) (base far : ℕ) (t : NearTables) → own ≡ mesh →
    IsReachedTo own lengths base far t → IsReachedTo mesh lengths base far t
reached_there mesh own lengths base far t same r = subst (λ m. IsReachedTo m lengths base far t) same r

-- the ends of the edge of a candidate are reached by a search that goes half its length, or farther
pub ends_reached : (mesh : Mesh) (lengths : List ℕ) → IsSurface mesh → ArePositive mesh lengths → (c : Candidate) (greatest went : ℕ) (t : NearTables) →
    IsMeasured mesh lengths c → c.length ≤ greatest → greatest / 2 ≤ went → IsNear mesh lengths c.base went t → HasReachedEnds mesh t c.edge
ends_reached mesh lengths surface positive c greatest went t m no_longer enough near =
    let (trees, chosen) = choice_exists mesh lengths surface positive in
    let tree = (trees c.base).tree in
    let short = (chosen c.base m.base_in).shortest in
    let n = near.near tree short in
    let half = ends_are_near mesh lengths (λ x. (trees x).tree) c.base c.edge (shortest_trees mesh lengths surface positive trees chosen)
    m.base_in m.edge_in in
    let (u_in, v_in) = ends_in mesh surface c.edge m.edge_in in
    let size = m.size tree short in
    let u_half = half_below (tree.rank (ends mesh c.edge).0) greatest (omega (arith, half.0, size, no_longer)) in
    let v_half = half_below (tree.rank (ends mesh c.edge).1) greatest (omega (arith, half.1, size, no_longer)) in
    record {
      edge_in = m.edge_in;
      low = n.is_near (ends mesh c.edge).0 u_in ∙ le-leb (tree.rank (ends mesh c.edge).0) went (omega (arith, u_half, enough));
      high = n.is_near (ends mesh c.edge).1 v_in ∙ le-leb (tree.rank (ends mesh c.edge).1) went (omega (arith, v_half, enough));
    }

-- ---- the walks of several loops

-- a number below the next one is below it or the same
before : (j k : ℕ) → j < k + 1 → j ≢ k → j < k
before j k lt ne = elim (cases_lt j k) [
  | inl less ↦ less
  | inr more ↦ let same : j ≡ k = omega (arith, lt, more) in absurd (ne same)
]

module _ (mesh : Mesh) (lengths : List ℕ) (kept : List Signed) where
  -- what is read at a place, by any default
  base_there : (k : ℕ) (s t : Signed) → k < length kept → s ≡ get_or kept k s → (get_or kept k t).candidate.base ≡ s.candidate.base
  base_there k s t l is = ap (λ (x : Signed). x.candidate.base) (get_or_default kept k t s l ∙ sym is)

  base_same : (j k : ℕ) (s t : Signed) → j ≡ k → k < length kept → s ≡ get_or kept k s → (get_or kept j t).candidate.base ≡ s.candidate.base
  base_same j k s t same l is = ap (λ n. (get_or kept n t).candidate.base) same ∙ base_there k s t l is

  module _ (base : ℕ) (old : List (List ℕ)) where
    -- at first nothing is written
    pub written_first : AreWritten mesh lengths kept base 0 old old
    written_first = record {
      count = refl;
      here = λ j t lt l at. absurd (omega (arith, lt));
      others = λ j t l off. refl;
    }

    -- the walk of a candidate at the base is written
    pub written_more : (k : ℕ) (s : Signed) (now next : List (List ℕ)) (walk : List ℕ) → AreWritten mesh lengths kept base k old now →
        length old ≡ length kept → k < length kept → s ≡ get_or kept k s → s.candidate.base ≡ base → IsWalkOf mesh lengths s walk →
        next ≡ set now k walk → AreWritten mesh lengths kept base (k + 1) old next
    written_more k s now next walk w size l is at own e = record {
      count = ap (λ (ws : List (List ℕ)). length ws) e ∙ length-set now k walk ∙ w.count;
      here = λ j t lt j_in there. elim (cases_eq j k) [
        | inl same ↦
            let inside : k < length now = omega (arith, l, size, w.count) in
            let candidate : get_or kept j t ≡ s = ap (λ n. get_or kept n t) same ∙ get_or_default kept k t s l ∙ sym is in
            let written : get_or next j [] ≡ walk =
            ap (λ (ws : List (List ℕ)). get_or ws j []) e ∙ ap (λ n. get_or (set now k walk) n []) same ∙ get_or-set_same now k walk [] inside in
            subst (λ (x : Signed). IsWalkOf mesh lengths x (get_or next j [])) (sym candidate)
            (subst (IsWalkOf mesh lengths s) (sym written) own)
        | inr ne ↦
            subst (IsWalkOf mesh lengths (get_or kept j t)) (sym (elsewhere j ne)) (w.here j t (before j k lt ne) j_in there)
      ];
      others = λ j t j_in off. elim (cases_eq j k) [
        | inl same ↦ absurd (off (base_same j k s t same l is ∙ at))
        | inr ne ↦ elsewhere j ne ∙ w.others j t j_in off
      ];
    }
      where
        elsewhere : (j : ℕ) → (j ≡ k → ⊥) → get_or next j [] ≡ get_or now j []
        elsewhere j ne = ap (λ (ws : List (List ℕ)). get_or ws j []) e ∙ get_or-set_other now k j walk [] ne

    -- a candidate at another base is passed over
    pub written_past : (k : ℕ) (s : Signed) (now : List (List ℕ)) → AreWritten mesh lengths kept base k old now → k < length kept →
        s ≡ get_or kept k s → s.candidate.base ≢ base → AreWritten mesh lengths kept base (k + 1) old now
    written_past k s now w l is off = record {
      count = w.count;
      here = λ j t lt j_in there. elim (cases_eq j k) [
        | inl same ↦ absurd (off (sym (base_same j k s t same l is) ∙ there))
        | inr ne ↦ w.here j t (before j k lt ne) j_in there
      ];
      others = w.others;
    }

    -- after a search from the base of a candidate the candidates before it have their walks still, and it has its own
    pub written_from : (k : ℕ) (s : Signed) (new : List (List ℕ)) → AreWrittenTo mesh lengths kept k old →
        AreWritten mesh lengths kept base (length kept) old new → k < length kept → s ≡ get_or kept k s → s.candidate.base ≡ base →
        AreWrittenTo mesh lengths kept (k + 1) new
    written_from k s new h w l is at = record {
      count = w.count ∙ h.count;
      either = λ j t j_in. elim (cases_eq (get_or kept j t).candidate.base base) [
        | inl there ↦ inr (w.here j t j_in j_in there)
        | inr off ↦ subst (λ (x : List ℕ). (x ≡ []) ⊎ IsWalkOf mesh lengths (get_or kept j t) x) (sym (w.others j t j_in off)) (h.either j t j_in)
      ];
      written = λ j t lt j_in. elim (cases_eq (get_or kept j t).candidate.base base) [
        | inl there ↦ w.here j t j_in j_in there
        | inr off ↦
            let ne : j ≡ k → ⊥ = λ same. off (base_same j k s t same l is ∙ at) in
            subst (IsWalkOf mesh lengths (get_or kept j t)) (sym (w.others j t j_in off)) (h.written j t (before j k lt ne) j_in)
      ];
    }

  -- a candidate that has a walk has its own
  pub written_there : (k : ℕ) (walks : List (List ℕ)) → AreWrittenTo mesh lengths kept k walks → get_or walks k [] ≢ [] →
      AreWrittenTo mesh lengths kept (k + 1) walks
  written_there k walks h some = record {
    count = h.count;
    either = h.either;
    written = λ j t lt j_in. elim (cases_eq j k) [
      | inl same ↦ elim (h.either j t j_in) [
        | inl none ↦ absurd (some (ap (λ n. get_or walks n []) (sym same) ∙ none))
        | inr is ↦ is
      ]
      | inr ne ↦ h.written j t (before j k lt ne) j_in
    ];
  }

  -- all of them
  pub all_written : (k : ℕ) (walks : List (List ℕ)) → AreWrittenTo mesh lengths kept k walks → length kept ≤ k → AreWalksOf mesh lengths kept walks
  all_written k walks h past = record {
    count = h.count;
    each = λ j t j_in. h.written j t (omega (arith, j_in, past)) j_in;
  }
