-- Simple cycles, and which of them separate.
use Rattle.surf_surfaces.proofs.Common.{◌≡◌, ◌≢◌, ℕ, suc, ◌+◌, ◌<◌, ◌≤◌, true, false, List, [], ◌∷◌, ◌++◌, length, get_or, map, refl, sym, ap, ◌∙◌, arith, AllPairs, subst, AllByRecursion, list_any, true≢false, false_from_ne_true, length-append, get_or_default, xor, odd, xor-same, xor_equal, IsGraphWalk, walk_chain, Mesh, pair_of, pair_eq, steps, steps_from, edge_count, ends, faces_of, IsSurface, IsClosed, last_from, parity, IsNull, cells_of}
use Rattle.surf_graphs.specs.Cycles.{IsOff, IsDistinct, IsSimpleGraphCycle}
use Rattle.surf_graphs.specs.Cells.{Cells, primal, IsNullChain}
use Rattle.surf_graphs.proofs.Cycles.{null_separates, separates_null}
use Rattle.surf_surfaces.specs.Cycle.{RunsAlong, Separation}
use Rattle.surf_surfaces.specs.CycleLaws.{NullCyclesSeparate}
use Rattle.surf_surfaces.proofs.meshes.PairLaws.{pair_eq-true, pair_eq-same}
use Rattle.surf_surfaces.proofs.meshes.EdgeLaws.{list_any_at, list_any_from}
use Rattle.surf_surfaces.proofs.meshes.FaceLaws.{Distinct, Once, distinct_from_AllPairs, sides_once, once_odd, among-map, map-map}
use Rattle.surf_surfaces.proofs.meshes.CellLaws.{surfaces_are_cells}
use Rattle.surf_surfaces.proofs.walks.GraphWalkLaws.{walks_are_graph_walks}

-- the list of a cycle as the list of a face
off_from : (m : ℕ) (xs : List ℕ) → AllByRecursion (λ w. m ≢ w) xs → IsOff m xs
off_from m [] h = tt
off_from m (x ∷ xs) h = (h.0, off_from m xs h.1)

graph_distinct : (xs : List ℕ) → Distinct xs → IsDistinct xs
graph_distinct [] h = tt
graph_distinct (x ∷ xs) h = (off_from x xs h.0, graph_distinct xs h.1)

split_last : (v : ℕ) (xs : List ℕ) → (front : List ℕ) × (v ∷ xs ≡ front ++ last_from v xs ∷ [])
split_last v [] = ([], refl)
split_last v (w ∷ xs) = let r = split_last w xs in (v ∷ r.0, ap (λ l. v ∷ l) r.1)

last_apart : (xs : List ℕ) (z : ℕ) → Distinct (xs ++ z ∷ []) → AllByRecursion (λ w. z ≢ w) xs × Distinct xs
last_apart [] z h = (tt, tt)
last_apart (x ∷ xs) z h =
    let later = last_apart xs z h.1 in
    let parts = front_all (λ w. x ≢ w) xs z h.0 in
    (((λ e. parts.1 (sym e)), later.0), (parts.0, later.1))
  where
    front_all : (P : ℕ → Type 0) (ys : List ℕ) (z : ℕ) → AllByRecursion P (ys ++ z ∷ []) → AllByRecursion P ys × P z
    front_all P [] z h = (tt, h.0)
    front_all P (y ∷ ys) z h = let r = front_all P ys z h.1 in ((h.0, r.0), r.1)

cycle_once : (u : ℕ) (rest : List ℕ) → 3 ≤ length rest → Distinct rest → last_from u rest ≡ u →
    Once (map pair_of (steps_from u rest))
cycle_once u [] long h back = tt
cycle_once u (w ∷ xs) long h back =
    let r = split_last w xs in
    let front = r.0 in
    let is : w ∷ xs ≡ front ++ u ∷ [] = r.1 ∙ ap (λ z. front ++ z ∷ []) back in
    let apart = last_apart front u (subst Distinct is h) in
    let sized : length (front ++ u ∷ []) ≡ length front + 1 = length-append front (u ∷ []) in
    let long_front : 3 ≤ length (front ++ u ∷ []) = subst (λ l. 3 ≤ length l) is long in
    subst (λ l. Once (map pair_of (steps_from u l))) (sym is) (sides_once (u ∷ front) (omega arith) (apart.0, apart.1))

-- a simple cycle runs an edge an odd number of times where some step is along it
parity_any : (mesh : Mesh) (u : ℕ) (rest : List ℕ) → Once (map pair_of (steps_from u rest)) → (e : ℕ) →
    parity mesh (u ∷ rest) e ≡ list_any (λ s. pair_eq (ends mesh e) (pair_of s)) (steps_from u rest)
parity_any mesh u rest once e =
    let ss = steps_from u rest in
    ap odd (sym (map-map (ends mesh e) ss)) ∙ sym (once_odd (ends mesh e) (map pair_of ss) once) ∙ among-map
    (ends mesh e) ss

pub length-steps : (u : ℕ) (rest : List ℕ) → length (steps_from u rest) ≡ length rest
length-steps u [] = refl
length-steps u (w ∷ rest) = ap suc (length-steps w rest)

module _ (mesh : Mesh) (surface : IsSurface mesh) (u : ℕ) (rest : List ℕ) (closed : IsClosed mesh (u ∷ rest)) where
  pub graph_closed : IsGraphWalk (primal (cells_of mesh)) u rest u
  graph_closed = let walks = walks_are_graph_walks mesh surface in
      subst (IsGraphWalk (primal (cells_of mesh)) u rest) (sym closed.returns) (walks.walk u rest closed.is_walk)

  pub chain_is : (e : ℕ) → e < edge_count mesh → parity mesh (u ∷ rest) e ≡ walk_chain (primal (cells_of mesh)) u rest e
  chain_is = let walks = walks_are_graph_walks mesh surface in walks.parities u rest closed.is_walk

  pub null_to_graph : IsNull mesh (u ∷ rest) → IsNullChain (cells_of mesh) (walk_chain (primal (cells_of mesh)) u rest)
  null_to_graph null = (null.0, (λ e in'. sym (chain_is e in') ∙ null.1 e in'))

  pub null_from_graph : IsNullChain (cells_of mesh) (walk_chain (primal (cells_of mesh)) u rest) →
      IsNull mesh (u ∷ rest)
  null_from_graph null = (null.0, (λ e in'. chain_is e in' ∙ null.1 e in'))

  graph_cycle : 3 ≤ length (steps (u ∷ rest)) → AllPairs (λ v w. v ≢ w) rest →
      IsSimpleGraphCycle (primal (cells_of mesh)) u rest
  graph_cycle long apart = let n = length-steps u rest in
      (graph_closed, omega arith, graph_distinct rest (distinct_from_AllPairs rest apart))

  once : 3 ≤ length (steps (u ∷ rest)) → AllPairs (λ v w. v ≢ w) rest → Once (map pair_of (steps_from u rest))
  once long apart = let n = length-steps u rest in cycle_once u rest (omega arith) (distinct_from_AllPairs rest apart)
      (sym closed.returns)

  along_where_odd : 3 ≤ length (steps (u ∷ rest)) → AllPairs (λ v w. v ≢ w) rest → (e : ℕ) →
      parity mesh (u ∷ rest) e ≡ true → RunsAlong mesh (u ∷ rest) e
  along_where_odd long apart e h =
      let r = list_any_at (λ s. pair_eq (ends mesh e) (pair_of s)) (steps_from u rest) (0, 0)
      (sym (parity_any mesh u rest (once long apart) e) ∙ h) in
      let s = get_or (steps_from u rest) r.0 (0, 0) in (
        s,
        (r.0, r.1, get_or_default (steps_from u rest) r.0 s (0, 0) r.1),
        sym (pair_eq-true (ends mesh e) (pair_of s) r.2),
      )

  odd_where_along : 3 ≤ length (steps (u ∷ rest)) → AllPairs (λ v w. v ≢ w) rest → (e : ℕ) →
      RunsAlong mesh (u ∷ rest) e → parity mesh (u ∷ rest) e ≡ true
  odd_where_along long apart e (s, at, is) =
      parity_any mesh u rest (once long apart) e
      ∙ list_any_from (λ t. pair_eq (ends mesh e) (pair_of t)) (steps_from u rest) s at.0 at.1
      (pair_eq-same (ends mesh e) (pair_of (get_or (steps_from u rest) at.0 s)) (sym is ∙ ap pair_of (sym at.2)))

pub null_cycles_separate : NullCyclesSeparate
null_cycles_separate mesh surface [] cycle = absurd (let c = cycle.three_steps in omega arith)
null_cycles_separate mesh surface (u ∷ rest) cycle = (to, from)
  where
    s : Cells
    s = cells_of mesh

    to : IsNull mesh (u ∷ rest) → Separation mesh (u ∷ rest)
    to null =
        let parted = null_separates (cells_of mesh) (surfaces_are_cells mesh surface).complex u rest
        (graph_cycle mesh surface u rest cycle.closed cycle.three_steps cycle.distinct)
        (null_to_graph mesh surface u rest cycle.closed null) in
        record {
          class = parted.0;
          some_in = parted.2;
          some_out = parted.3;
          same_off = λ e in' off.
              let out : parity mesh (u ∷ rest) e ≡ false =
              false_from_ne_true (parity mesh (u ∷ rest) e)
              (λ h. off (along_where_odd mesh surface u rest cycle.closed cycle.three_steps cycle.distinct e h)) in
              xor_equal (parted.0 (faces_of mesh e).0) (parted.0 (faces_of mesh e).1)
              (parted.1 e in' (sym (chain_is mesh surface u rest cycle.closed e in') ∙ out));
        }

    from : Separation mesh (u ∷ rest) → IsNull mesh (u ∷ rest)
    from parted =
        let stays : (e : ℕ) → e < edge_count mesh → walk_chain (primal (cells_of mesh)) u rest e ≡ false →
        xor (parted.class (faces_of mesh e).0) (parted.class (faces_of mesh e).1) ≡ false = λ e in' out.
        let off : RunsAlong mesh (u ∷ rest) e → ⊥ =
        λ along. true≢false (sym
        (odd_where_along mesh surface u rest cycle.closed cycle.three_steps cycle.distinct e along) ∙ chain_is mesh
        surface u rest cycle.closed e in' ∙ out) in
        ap (λ t. xor t (parted.class (faces_of mesh e).1)) (parted.same_off e in' off)
        ∙ xor-same (parted.class (faces_of mesh e).1) in
        null_from_graph mesh surface u rest cycle.closed
        (separates_null (cells_of mesh) (surfaces_are_cells mesh surface).complex u rest
        (graph_cycle mesh surface u rest cycle.closed cycle.three_steps cycle.distinct)
        (parted.class, stays, parted.some_in, parted.some_out))
