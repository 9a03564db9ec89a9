-- Closed walks over what a sheet serves.
use Rattle.surf_surfaces.proofs.Common.{◌≡◌, ℕ, ◌+◌, ◌*◌, ◌<◌, ◌≤◌, Bool, true, false, ◌&&◌, List, [], ◌∷◌, ◌++◌, refl, sym, ap, ◌∙◌, arith, inl, inr, cases_Bool, and_parts, false≢true, Contains, All-contains, length, xor, xor_comm, xor-same, odd_below-none, Chain, Graph, IsGraphWalk, IsJoined, edge_between, walk_chain, graph_walk_length, leaves, primal, cells_of, walk-append, walk_parts, Mesh, edge_count, ends, edge_length, walk_length}
use Rattle.surf_z2.proofs.ParityLaws.{odd_below-and-xor, odd_below-found}
use Rattle.surf_graphs.proofs.Graphs.{edge_between_is, walk_leaves}
use Rattle.surf_graphs.proofs.Trees.{one_of}
use Rattle.surf_graphs.proofs.Walks.{walk_has_ends}
use Rattle.surf_surfaces.proofs.walks.GraphWalkLaws.{graph_walk}
use Rattle.surf_sheets.specs.Sheets.{walk_at, Sheet, IsSheet, Serves, IsServed, AreShown}
use Rattle.surf_sheets.specs.Laws.{OddWalksAreNoShorter}
use Rattle.surf_sheets.proofs.Oddness.{odd_in, odd_step, odd_same, odd_graph_walk}

-- no edge is a short cut
abbrev pub HasSlack : Graph → (ℕ → ℕ) → (ℕ → ℕ) → Type 0
HasSlack g len far = (e : ℕ) → e < g.edges → (far (g.from e) ≤ far (g.to e) + len e) × (far (g.to e) ≤ far (g.from e) + len e)

module _ (g : Graph) (len far : ℕ → ℕ) (slack : HasSlack g len far) where
  -- along a step, either way
  pub step_slack : (a c : ℕ) → IsJoined g a c →
      (far a ≤ far c + len (edge_between g a c)) × (far c ≤ far a + len (edge_between g a c))
  step_slack a c joined =
      let m = edge_between g a c in
      let is = edge_between_is g a c joined in
      let both = slack m is.0 in
      let one : far (g.from m) ≤ far (g.to m) + len m = both.0 in
      let two : far (g.to m) ≤ far (g.from m) + len m = both.1 in
      elim (one_of g a c m is.1) [
        | inl at ↦
            let tail : far (g.from m) ≡ far a = ap far at.0 in
            let head : far (g.to m) ≡ far c = ap far at.1 in
            (omega arith, omega arith)
        | inr at ↦
            let tail : far (g.from m) ≡ far c = ap far at.0 in
            let head : far (g.to m) ≡ far a = ap far at.1 in
            (omega arith, omega arith)
      ]

  -- along a walk
  pub walk_slack : (a : ℕ) (w : List ℕ) (b : ℕ) → IsGraphWalk g a w b → far a ≤ far b + graph_walk_length g len a w
  walk_slack a [] b walk = let same : far a ≡ far b = ap far walk in omega arith
  walk_slack a (c ∷ w) b walk =
      let step = (step_slack a c walk.0).0 in
      let rest = walk_slack c w b walk.1 in
      omega arith

  module _ (set : Chain) (need : ℕ)
      (each : (e : ℕ) → e < g.edges → set e ≡ true → need ≤ far (g.from e) + len e + far (g.to e)) where
    step_need : (a c : ℕ) → IsJoined g a c → set (edge_between g a c) ≡ true →
        need ≤ far a + len (edge_between g a c) + far c
    step_need a c joined on =
        let m = edge_between g a c in
        let is = edge_between_is g a c joined in
        let bound = each m is.0 on in
        elim (one_of g a c m is.1) [
          | inl at ↦
              let tail : far (g.from m) ≡ far a = ap far at.0 in
              let head : far (g.to m) ≡ far c = ap far at.1 in
              omega arith
          | inr at ↦
              let tail : far (g.from m) ≡ far c = ap far at.0 in
              let head : far (g.to m) ≡ far a = ap far at.1 in
              omega arith
        ]

    -- a walk that is odd on the set runs one of its edges
    pub walk_need : (a : ℕ) (w : List ℕ) (b : ℕ) → IsGraphWalk g a w b → odd_in g.edges set (walk_chain g a w) ≡ true →
        need ≤ far a + graph_walk_length g len a w + far b
    walk_need a [] b walk on = absurd (false≢true (sym (odd_below-none g.edges (λ e. false) (λ e l. refl)) ∙ on))
    walk_need a (c ∷ w) b walk on = elim (cases_Bool (set (edge_between g a c))) [
      | inl here_on ↦
          let bound = step_need a c walk.0 here_on in
          let rest = walk_slack c w b walk.1 in
          omega arith
      | inr off ↦
          let later : odd_in g.edges set (walk_chain g c w) ≡ true =
          ap (λ t. xor t (odd_in g.edges set (walk_chain g c w))) (sym off) ∙ sym (odd_step g set a c w walk.0) ∙ on in
          let bound = walk_need c w b walk.1 later in
          let step = (step_slack a c walk.0).1 in
          omega arith
    ]

-- round a closed walk the labels cancel
pub crossed_round : (g : Graph) (set : Chain) (label : ℕ → Bool) (x : ℕ) (w : List ℕ) → IsGraphWalk g x w x →
    odd_in g.edges (λ e. xor (leaves g label e) (set e)) (walk_chain g x w) ≡ odd_in g.edges set (walk_chain g x w)
crossed_round g set label x w walk =
    odd_below-and-xor g.edges (walk_chain g x w) (leaves g label) set
    ∙ ap (λ b. xor b (odd_in g.edges set (walk_chain g x w)))
    (walk_leaves g label x w x walk ∙ xor-same (label x))

module _ (mesh : Mesh) (lengths : List ℕ) (walks : List (List ℕ)) (cocycles : ℕ → Chain) (sheets : List Sheet)
    (shown : AreShown mesh lengths walks cocycles sheets) where
  -- a closed walk at a vertex that is served
  served_long : (sheet : Sheet) (i x : ℕ) (w : List ℕ) → IsSheet mesh lengths walks cocycles sheet → i < length walks → Serves sheet i x →
      IsGraphWalk (primal (cells_of mesh)) x w x →
      odd_in (edge_count mesh) (cocycles i) (walk_chain (primal (cells_of mesh)) x w) ≡ true →
      walk_length mesh lengths (walk_at walks i) ≤ graph_walk_length (primal (cells_of mesh)) (edge_length lengths) x w
  served_long sheet i x w is i_in serves walk on =
      let g = primal (cells_of mesh) in
      let bound = walk_need g (edge_length lengths) sheet.distance is.slack
      (λ e. xor (leaves g (sheet.label i) e) (cocycles i e)) (walk_length mesh lengths (walk_at walks i) + 2 * sheet.margin)
      (λ e l crossed. is.long i e serves.in_range i_in l crossed) x w x walk
      (crossed_round g (cocycles i) (sheet.label i) x w walk ∙ on) in
      let near = serves.near in
      omega arith

  -- one over such a vertex, turned to begin there
  over_served : (i a x : ℕ) (w : List ℕ) → i < length walks → IsServed sheets i x → IsGraphWalk (primal (cells_of mesh)) a w a →
      Contains (a ∷ w) x → odd_in (edge_count mesh) (cocycles i) (walk_chain (primal (cells_of mesh)) a w) ≡ true →
      walk_length mesh lengths (walk_at walks i) ≤ graph_walk_length (primal (cells_of mesh)) (edge_length lengths) a w
  over_served i a x w i_in (sheet, among, serves) walk over on =
      let g = primal (cells_of mesh) in
      let len = edge_length lengths in
      let (first, second, is, there, back) = walk_parts g a w a x walk over in
      let straight = walk-append g len a first x second a there back in
      let turned = walk-append g len x second a first x back there in
      let whole : graph_walk_length g len a w ≡ graph_walk_length g len a first + graph_walk_length g len x second =
      ap (graph_walk_length g len a) is ∙ straight.2 in
      let other_way : graph_walk_length g len x (second ++ first)
      ≡ graph_walk_length g len x second + graph_walk_length g len a first = turned.2 in
      let same : (e : ℕ) → walk_chain g x (second ++ first) e ≡ walk_chain g a w e =
      λ e. turned.1 e ∙ xor_comm (walk_chain g x second e) (walk_chain g a first e) ∙ sym (straight.1 e)
      ∙ ap (λ v. walk_chain g a v e) (sym is) in
      let long = served_long sheet i x (second ++ first)
      (All-contains (IsSheet mesh lengths walks cocycles) sheets sheet shown.are_sheets among) i_in serves turned.0
      (odd_same (edge_count mesh) (cocycles i) (walk_chain g x (second ++ first)) (walk_chain g a w) (λ e l. same e) ∙ on) in
      omega (arith, long, whole, other_way)

  -- a closed walk that is odd on a cocycle runs one of its edges, of which an end is served
  pub odd_long : (i a : ℕ) (w : List ℕ) → i < length walks → IsGraphWalk (primal (cells_of mesh)) a w a →
      odd_in (edge_count mesh) (cocycles i) (walk_chain (primal (cells_of mesh)) a w) ≡ true →
      walk_length mesh lengths (walk_at walks i) ≤ graph_walk_length (primal (cells_of mesh)) (edge_length lengths) a w
  odd_long i a w i_in walk on =
      let g = primal (cells_of mesh) in
      let (e, e_in, both) = odd_below-found (edge_count mesh) (λ e. walk_chain g a w e && cocycles i e) on in
      let parts = and_parts (walk_chain g a w e) (cocycles i e) both in
      let over = walk_has_ends g a w a e walk parts.0 in
      elim (shown.served i e i_in e_in parts.1) [
        | inl serves ↦ over_served i a (ends mesh e).0 w i_in serves walk over.0 on
        | inr serves ↦ over_served i a (ends mesh e).1 w i_in serves walk over.1 on
      ]

pub odd_walks_are_no_shorter : OddWalksAreNoShorter
odd_walks_are_no_shorter mesh lengths walks cocycles sheets surface shown i i_in [] closed on =
    absurd (omega (arith, closed.is_walk.begins))
odd_walks_are_no_shorter mesh lengths walks cocycles sheets surface shown i i_in (u ∷ rest) closed on =
    let w = graph_walk mesh surface lengths (u ∷ rest) closed in
    let long = odd_long mesh lengths walks cocycles sheets shown i u rest i_in w.closed
    (sym (odd_graph_walk mesh surface (cocycles i) u rest closed) ∙ on) in
    let size = w.size in
    omega (arith, long, size)
