-- The ways from a single vertex are a sheet.
use Rattle.surf_surfaces.proofs.Common.{◌≡◌, ℕ, ◌+◌, ◌<◌, ◌≤◌, ◌⊎◌, Bool, true, List, [], ◌∷◌, ◌++◌, length, get_or, refl, sym, ap, ◌∙◌, arith, inl, inr, xor, xor_comm, xor_assoc, Chain, Graph, IsGraphWalk, IsJoined, edge_between, walk_chain, graph_walk_length, primal, cells_of, walk-append, joins_turned, joins_ends, edge_between_is, IsSimple, Mesh, edge_count, ends, edge_length, walk_length, IsSurface, IsClosed, ArePositive, xor-false, eqb}
use Rattle.surf_surfaces.specs.Homology.{IsLeastBasis}
use Rattle.surf_surfaces.proofs.meshes.CellLaws.{surfaces_are_cells}
use Rattle.surf_surfaces.proofs.walks.GraphWalkLaws.{walks_are_graph_walks}
use Rattle.surf_z2.proofs.ParityLaws.{odd_below-xor-and, odd_below-at}
use Rattle.surf_sheets.specs.Sheets.{IsCocycle, is_odd_on, ArePaired, AreByLength, Sheet, IsInRange, is_crossed, HasNoShortCut}
use Rattle.surf_sheets.proofs.Oddness.{odd_in, odd_same, odd_graph_walk}
use Rattle.surf_paired.specs.Paired.{HasWayTo, IsFarOff}
use Rattle.surf_paired.specs.Laws.{VerticesAreSheets}
use Rattle.surf_paired.proofs.LeastWalks.{odd_walks_are_no_shorter_than_least}

-- a walk with its chain and its length
pub record Way (g : Graph) (len : ℕ → ℕ) (a b : ℕ) (chain : ℕ → Bool) (size : ℕ) : Type 0 where
  pub over : List ℕ
  pub runs : IsGraphWalk g a over b
  pub chain_is : (e : ℕ) → walk_chain g a over e ≡ chain e
  pub size_is : graph_walk_length g len a over ≡ size

module _ (g : Graph) (len : ℕ → ℕ) (simple : IsSimple g) where
  between_turned : (a c : ℕ) → IsJoined g a c → edge_between g c a ≡ edge_between g a c
  between_turned a c j =
      let there = edge_between_is g a c j in
      let back = edge_between_is g c a (j.0, j.1, joins_turned g a c j.0 j.2) in
      simple c a (edge_between g c a) (edge_between g a c) back.0 there.0 back.1
      (joins_turned g a c (edge_between g a c) there.1)

  -- over one edge
  pub step : (a c : ℕ) → IsJoined g a c → Way g len a c (eqb (edge_between g a c)) (len (edge_between g a c))
  step a c j = record {
    over = c ∷ [];
    runs = (j, refl);
    chain_is = λ e. xor-false (eqb (edge_between g a c) e);
    size_is = omega arith;
  }

  -- one after the other
  pub after : (a b c : ℕ) (x y : ℕ → Bool) (m n : ℕ) → Way g len a b x m → Way g len b c y n →
      Way g len a c (λ e. xor (x e) (y e)) (m + n)
  after a b c x y m n p q =
      let both = walk-append g len a p.over b q.over c p.runs q.runs in
      record {
        over = p.over ++ q.over;
        runs = both.0;
        chain_is = λ e. both.1 e ∙ ap (λ t. xor t (walk_chain g b q.over e)) (p.chain_is e) ∙ ap (xor (x e)) (q.chain_is e);
        size_is = both.2 ∙ ap (λ k. k + graph_walk_length g len b q.over) p.size_is ∙ ap (λ k. m + k) q.size_is;
      }

  -- the other way round
  back : (a : ℕ) (w : List ℕ) (b : ℕ) → IsGraphWalk g a w b →
      Way g len b a (walk_chain g a w) (graph_walk_length g len a w)
  back a [] b h = record { over = []; runs = sym h; chain_is = λ e. refl; size_is = refl }
  back a (c ∷ w) b h =
      let j = h.0 in
      let turned : IsJoined g c a = (j.0, j.1, joins_turned g a c j.0 j.2) in
      let same : edge_between g c a ≡ edge_between g a c = between_turned a c j in
      let whole = after b c a (walk_chain g c w) (eqb (edge_between g c a)) (graph_walk_length g len c w)
      (len (edge_between g c a)) (back c w b h.1) (step c a turned) in
      let length_same : len (edge_between g c a) ≡ len (edge_between g a c) = ap len same in
      record {
        over = whole.over;
        runs = whole.runs;
        chain_is = λ e. whole.chain_is e ∙ ap (λ m. xor (walk_chain g c w e) (eqb m e)) same
            ∙ xor_comm (walk_chain g c w e) (eqb (edge_between g a c) e);
        size_is = whole.size_is ∙ ap (λ k. graph_walk_length g len c w + k) length_same
            ∙ omega arith;
      }

  -- to an end of an edge, over it and back from its other end
  pub round : (x e : ℕ) → e < g.edges → (w v : List ℕ) → IsGraphWalk g x w (g.from e) → IsGraphWalk g x v (g.to e) →
      Way g len x x (λ f. xor (walk_chain g x w f) (xor (eqb e f) (walk_chain g x v f)))
      (graph_walk_length g len x w + (len e + graph_walk_length g len x v))
  round x e l w v there other =
      let j : IsJoined g (g.from e) (g.to e) = (e, l, joins_ends g e) in
      let is = edge_between_is g (g.from e) (g.to e) j in
      let same : edge_between g (g.from e) (g.to e) ≡ e =
      simple (g.from e) (g.to e) (edge_between g (g.from e) (g.to e)) e is.0 l is.1 (joins_ends g e) in
      let m = edge_between g (g.from e) (g.to e) in
      let out : Way g len x (g.from e) (walk_chain g x w) (graph_walk_length g len x w) =
      record { over = w; runs = there; chain_is = λ f. refl; size_is = refl } in
      let home = after (g.from e) (g.to e) x (eqb m) (walk_chain g x v) (len m) (graph_walk_length g len x v)
      (step (g.from e) (g.to e) j) (back x v (g.to e) other) in
      let whole = after x (g.from e) x (walk_chain g x w) (λ f. xor (eqb m f) (walk_chain g x v f))
      (graph_walk_length g len x w) (len m + graph_walk_length g len x v) out home in
      record {
        over = whole.over;
        runs = whole.runs;
        chain_is = λ f. whole.chain_is f
            ∙ ap (λ k. xor (walk_chain g x w f) (xor (eqb k f) (walk_chain g x v f))) same;
        size_is = whole.size_is ∙ ap (λ k. graph_walk_length g len x w + (len k + graph_walk_length g len x v)) same;
      }

module _ (mesh : Mesh) (lengths : List ℕ) (walks : List (List ℕ)) (cocycles : ℕ → Chain) (sheet : Sheet) (x : ℕ)
    (surface : IsSurface mesh) (positive : ArePositive mesh lengths) (least : IsLeastBasis mesh lengths walks)
    (by_length : AreByLength mesh lengths walks)
    (are_cocycles : (i : ℕ) → i < length walks → IsCocycle mesh (cocycles i)) (paired : ArePaired mesh walks cocycles)
    (x_in : x < mesh.vertices) (slack : HasNoShortCut mesh lengths sheet.distance) where
  -- the way over an edge between two vertices that have ways
  over_edge : (i e : ℕ) → IsInRange sheet i → i < length walks → e < edge_count mesh →
      is_crossed mesh (cocycles i) (sheet.label i) e ≡ true → HasWayTo mesh lengths cocycles sheet x (ends mesh e).0 →
      HasWayTo mesh lengths cocycles sheet x (ends mesh e).1 →
      walk_length mesh lengths (get_or walks i [])
      ≤ sheet.distance (ends mesh e).0 + edge_length lengths e + sheet.distance (ends mesh e).1
  over_edge i e in_range i_in e_in crossed p q =
      let g = primal (cells_of mesh) in
      let E = edge_count mesh in
      let len = edge_length lengths in
      let set = cocycles i in
      let way = round g len (surfaces_are_cells mesh surface).one_edge x e e_in p.over q.over p.runs q.runs in
      let from = (walks_are_graph_walks mesh surface).from_walk x x way.over x_in way.runs in
      let closed : IsClosed mesh (x ∷ way.over) = record { is_walk = from.0; returns = sym from.1 } in
      let a = sheet.label i (ends mesh e).0 in
      let b = sheet.label i (ends mesh e).1 in
      let parts : odd_in E set (λ f. xor (walk_chain g x p.over f) (xor (eqb e f) (walk_chain g x q.over f)))
      ≡ xor a (xor (set e) b) =
      odd_below-xor-and E (walk_chain g x p.over) (λ f. xor (eqb e f) (walk_chain g x q.over f)) set
      ∙ ap (λ t. xor t (odd_in E set (λ f. xor (eqb e f) (walk_chain g x q.over f)))) (p.odd i in_range)
      ∙ ap (xor a) (odd_below-xor-and E (λ f. eqb e f) (walk_chain g x q.over) set
      ∙ ap (λ t. xor t (odd_in E set (walk_chain g x q.over))) (odd_below-at E e set e_in)
      ∙ ap (xor (set e)) (q.odd i in_range)) in
      let turned : xor a (xor (set e) b) ≡ is_crossed mesh set (sheet.label i) e =
      ap (xor a) (xor_comm (set e) b) ∙ sym (xor_assoc a b (set e)) in
      let on : is_odd_on mesh set (x ∷ way.over) ≡ true =
      odd_graph_walk mesh surface set x way.over closed
      ∙ odd_same E set (walk_chain g x way.over)
      (λ f. xor (walk_chain g x p.over f) (xor (eqb e f) (walk_chain g x q.over f))) (λ f l. way.chain_is f)
      ∙ parts ∙ turned ∙ crossed in
      let long = odd_walks_are_no_shorter_than_least mesh lengths walks cocycles surface positive least by_length are_cocycles
      paired i i_in (x ∷ way.over) closed on in
      let size : walk_length mesh lengths (x ∷ way.over) ≡ graph_walk_length g len x way.over =
      (walks_are_graph_walks mesh surface).sizes lengths x way.over from.0 in
      let whole : graph_walk_length g len x way.over
      ≡ graph_walk_length g len x p.over + (len e + graph_walk_length g len x q.over) = way.size_is in
      let one : graph_walk_length g len x p.over ≡ sheet.distance (ends mesh e).0 = p.size in
      let two : graph_walk_length g len x q.over ≡ sheet.distance (ends mesh e).1 = q.size in
      omega (arith, long, size, whole, one, two)

  pub long_over : ((v : ℕ) → v < mesh.vertices → HasWayTo mesh lengths cocycles sheet x v ⊎ IsFarOff mesh lengths walks sheet v) →
      (i e : ℕ) → IsInRange sheet i → i < length walks → e < edge_count mesh →
      is_crossed mesh (cocycles i) (sheet.label i) e ≡ true →
      walk_length mesh lengths (get_or walks i [])
      ≤ sheet.distance (ends mesh e).0 + edge_length lengths e + sheet.distance (ends mesh e).1
  long_over each i e in_range i_in e_in crossed =
      let inside = (surfaces_are_cells mesh surface).complex.primal_ends e e_in in
      let both = slack e e_in in
      let one : sheet.distance (ends mesh e).0 ≤ sheet.distance (ends mesh e).1 + edge_length lengths e = both.0 in
      let two : sheet.distance (ends mesh e).1 ≤ sheet.distance (ends mesh e).0 + edge_length lengths e = both.1 in
      elim (each (ends mesh e).0 inside.0) [
        | inr far ↦ let bound = far i in_range i_in in omega (arith, bound, one)
        | inl p ↦ elim (each (ends mesh e).1 inside.1) [
          | inr far ↦ let bound = far i in_range i_in in omega (arith, bound, two)
          | inl q ↦ over_edge i e in_range i_in e_in crossed p q
        ]
      ]

pub vertices_are_sheets : VerticesAreSheets
vertices_are_sheets mesh lengths walks cocycles sheet x surface positive least by_length are_cocycles paired x_in no_margin slack
    each = record {
      slack = slack;
      long = λ i e in_range i_in e_in crossed.
          let bound = long_over mesh lengths walks cocycles sheet x surface positive least by_length are_cocycles paired x_in slack
          each i e in_range i_in e_in crossed in
          omega (arith, bound, no_margin);
    }
