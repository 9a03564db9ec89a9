-- Each closed walk is a sum of loops at the bases that are no longer.
use Rattle.surf_surfaces.proofs.Common.{◌≡◌, ℕ, zero, suc, ◌<◌, ◌≤◌, Bool, true, false, List, [], ◌∷◌, length, map, get_or, All, Contains, refl, sym, ap, ◌∙◌, subst, arith, AllByRecursion, length-map, get_or-map, recursion_from_All, All-from_recursion, numbers, chosen, SpannedUpToWeight, primal, Split, IsSplit, IsEven, IsGraphWalk, walk_chain, graph_walk_length, Mesh, edge_count, IsSurface, IsClosed, edge_length, first, parity, walk_length, ArePositive, cells_of, class_of, weighed_walk, loop_walk, loop_length, split_of, IsNonDecreasing, weighed, signed, loop_chain, even_same, Trees, AreChosen, Loop, walks, loops_at, loops_below, candidates}
use Rattle.surf_z2.proofs.Ranks.{spanned_among}
use Rattle.surf_graphs.proofs.Independence.{spanned_other, walk_spanned}
use Rattle.surf_surfaces.proofs.meshes.CellLaws.{surfaces_are_cells}
use Rattle.surf_surfaces.proofs.walks.GraphWalkLaws.{graph_walk, closed_parity_even}
use Rattle.surf_surfaces.proofs.classes.ClassLaws.{runs_loop, closed_walk_spanned}
use Rattle.surf_surfaces.proofs.classes.LeastLaws.{all_each, all_mapped, weighed_same, left_spans}
use Rattle.surf_surfaces.proofs.bases.LoopsAtLaws.{IsLoopAt, loops_each, loops_walks, edges_permute, tree_is, tree_short}
use Rattle.surf_surfaces.proofs.bases.LoopsAtLaws.{split_is, heaviest_is}
use Rattle.surf_surfaces.proofs.bases.CandidateLaws.{IsLoopBelow, below-sorted, below_each, below_contains, rising}
use Rattle.surf_surfaces.proofs.bases.GreedyChoiceLaws.{AreClosed}

pub all_chosen : {X : Type 0} (P : X → Type 0) (choice : List Bool) (xs : List X) → AllByRecursion P xs →
    AllByRecursion P (chosen choice xs)
all_chosen P [] xs h = tt
all_chosen P (b ∷ bs) [] h = tt
all_chosen P (true ∷ bs) (x ∷ xs) h = (h.0, all_chosen P bs xs h.1)
all_chosen P (false ∷ bs) (x ∷ xs) h = all_chosen P bs xs h.1

pub contains-map : {X Y : Type 0} (f : X → Y) (xs : List X) (x : X) → Contains xs x → Contains (map f xs) (f x)
contains-map f xs x (k, l, e) = (k, omega (arith, length-map xs f), get_or-map f xs k x (f x) l ∙ ap f e)

module _ (mesh : Mesh) (lengths : List ℕ) (trees : ℕ → Trees) (surface : IsSurface mesh)
    (positive : ArePositive mesh lengths) (chosen_trees : AreChosen mesh lengths trees) where
  -- a loop at a base is a closed walk of its length
  pub runs : (n : ℕ) → n ≤ mesh.vertices → (c : Loop) → IsLoopBelow mesh lengths trees n c →
      IsClosed mesh c.walk × (walk_length mesh lengths c.walk ≡ c.size)
  runs n le c h =
      let x = c.base in
      let at = chosen_trees x (omega (arith, h.base_in)) in
      let is = h.of.is in
      let walk : c.walk ≡ loop_walk mesh (trees x).tree c.edge = ap (λ e. e.walk) is in
      let size : c.size ≡ loop_length mesh lengths (trees x).tree c.edge = ap (λ e. e.size) is in
      let loop = runs_loop mesh lengths surface (trees x).tree (tree_is mesh lengths x (trees x) surface positive at)
      (tree_short mesh lengths x (trees x) surface positive at) c.edge h.of.edge_in in (
        subst (IsClosed mesh) (sym walk) loop.closed.is_closed,
        ap (walk_length mesh lengths) walk ∙ loop.size ∙ sym size,
      )

  pub below_closed : (n : ℕ) → n ≤ mesh.vertices → AreClosed mesh (loops_below mesh lengths trees n)
  below_closed n le = all_each (IsLoopBelow mesh lengths trees n) (λ c. IsClosed mesh c.walk)
      (loops_below mesh lengths trees n) (λ c h. (runs n le c h).0) (below_each mesh lengths trees n)

  pub below_sized : (n : ℕ) → n ≤ mesh.vertices →
      AllByRecursion (λ c. walk_length mesh lengths c.walk ≡ c.size) (loops_below mesh lengths trees n)
  below_sized n le = all_each (IsLoopBelow mesh lengths trees n) (λ c. walk_length mesh lengths c.walk ≡ c.size)
      (loops_below mesh lengths trees n) (λ c h. (runs n le c h).1) (below_each mesh lengths trees n)

  module _ (d : Split) (split : IsSplit (cells_of mesh) d) where
    -- loops with their lengths and classes, whichever way they are seen
    pub weighed_loops : (loops : List Loop) → AllByRecursion (λ c. walk_length mesh lengths c.walk ≡ c.size) loops →
        map (signed (cells_of mesh) d) (map (weighed_walk mesh lengths) (walks loops))
        ≡ weighed (λ c. c.size) (λ c. class_of mesh d c.walk) loops
    weighed_loops [] h = refl
    weighed_loops (c ∷ cs) h =
        ap (λ x. x ∷ map (signed (cells_of mesh) d) (map (weighed_walk mesh lengths) (walks cs)))
        (weighed_same (signed (cells_of mesh) d (weighed_walk mesh lengths c.walk))
        (record { weight = c.size; vector = class_of mesh d c.walk }) h.0 refl)
        ∙ ap (λ xs. record { weight = c.size; vector = class_of mesh d c.walk } ∷ xs) (weighed_loops cs h.1)

    -- the loop of each edge at each base is a sum of loops that are chosen there and are no longer
    pub loops_covered_at : (x e : ℕ) → x < mesh.vertices → e < edge_count mesh →
        SpannedUpToWeight numbers
        (map (signed (cells_of mesh) d) (map (weighed_walk mesh lengths) (walks (loops_at mesh lengths x (trees x)))))
        (signed (cells_of mesh) d (loop_chain (primal (cells_of mesh)) (edge_length lengths) (trees x).tree e))
    loops_covered_at x e x_in e_in =
        let s = cells_of mesh in
        let at = chosen_trees x x_in in
        let tree = (trees x).tree in
        let here = split_of mesh tree (trees x).cotree in
        let is_tree = tree_is mesh lengths x (trees x) surface positive at in
        let short = tree_short mesh lengths x (trees x) surface positive at in
        let here_split = split_is mesh lengths x (trees x) surface positive at in
        let loops = loops_at mesh lengths x (trees x) in
        let y = loop_chain (primal s) (edge_length lengths) tree e in
        let one = left_spans mesh lengths here (map (λ c. c.edge) loops) surface here_split short
        (edges_permute mesh lengths x (trees x)) (heaviest_is mesh lengths x (trees x) surface positive at) e e_in in
        let two : SpannedUpToWeight numbers (map (signed s here) (map (weighed_walk mesh lengths) (walks loops)))
        (signed s here y) =
        subst (λ ws. SpannedUpToWeight numbers (map (signed s here) (map (weighed_walk mesh lengths) ws))
        (signed s here y)) (sym (loops_walks mesh lengths x (trees x))) one in
        let loop_run = runs_loop mesh lengths surface tree is_tree short e e_in in
        let even : IsEven (primal s) y.vector = even_same (primal s) y.vector (parity mesh (loop_walk mesh tree e))
        (λ h l. sym (loop_run.parities h l))
        (closed_parity_even mesh surface (loop_walk mesh tree e) loop_run.closed.is_closed) in
        spanned_other s here d (surfaces_are_cells mesh surface).complex here_split split
        (map (weighed_walk mesh lengths) (walks loops)) y
        (all_mapped (λ w. IsEven (primal s) w.vector) (weighed_walk mesh lengths) (walks loops)
        (all_mapped (λ w. IsEven (primal s) (parity mesh w)) (λ c. c.walk) loops
        (all_each (IsLoopAt mesh lengths x (trees x)) (λ c. IsEven (primal s) (parity mesh c.walk)) loops (λ c h.
        let run = runs_loop mesh lengths surface tree is_tree short c.edge h.edge_in in
        closed_parity_even mesh surface c.walk
        (subst (IsClosed mesh) (sym (ap (λ k. k.walk) h.is)) run.closed.is_closed))
        (loops_each mesh lengths x (trees x))))) even two

    -- and so of candidates that are no longer
    pub loops_covered : (x e : ℕ) → x < mesh.vertices → e < edge_count mesh →
        SpannedUpToWeight numbers
        (map (signed (cells_of mesh) d) (map (weighed_walk mesh lengths) (walks (candidates mesh lengths trees))))
        (signed (cells_of mesh) d (loop_chain (primal (cells_of mesh)) (edge_length lengths) (trees x).tree e))
    loops_covered x e x_in e_in =
        let s = cells_of mesh in
        let loops = loops_at mesh lengths x (trees x) in
        let y = loop_chain (primal s) (edge_length lengths) (trees x).tree e in
        spanned_among numbers (map (signed s d) (map (weighed_walk mesh lengths) (walks loops)))
        (map (signed s d) (map (weighed_walk mesh lengths) (walks (candidates mesh lengths trees)))) (signed s d y)
        (contained loops (λ c h. below_contains mesh lengths trees mesh.vertices x x_in c h))
        (loops_covered_at x e x_in e_in)
      where
        -- members of both, whichever way they are seen
        contained : (loops : List Loop) → ((c : Loop) → Contains loops c → Contains (candidates mesh lengths trees) c) →
            All (Contains (map (signed (cells_of mesh) d)
            (map (weighed_walk mesh lengths) (walks (candidates mesh lengths trees)))))
            (map (signed (cells_of mesh) d) (map (weighed_walk mesh lengths) (walks loops)))
        contained loops sub =
            let s = cells_of mesh in
            let all = map (signed s d) (map (weighed_walk mesh lengths) (walks (candidates mesh lengths trees))) in
            All-from_recursion (Contains all) (map (signed s d) (map (weighed_walk mesh lengths) (walks loops)))
            (all_mapped (Contains all) (signed s d) (map (weighed_walk mesh lengths) (walks loops))
            (all_mapped (λ w. Contains all (signed s d w)) (weighed_walk mesh lengths) (walks loops)
            (all_mapped (λ w. Contains all (signed s d (weighed_walk mesh lengths w))) (λ c. c.walk) loops
            (recursion_from_All (λ c. Contains
            (map (signed (cells_of mesh) d) (map (weighed_walk mesh lengths) (walks (candidates mesh lengths trees))))
            (signed (cells_of mesh) d (weighed_walk mesh lengths c.walk))) loops (λ k n l.
            let c = get_or loops k n in
            contains-map (signed (cells_of mesh) d)
            (map (weighed_walk mesh lengths) (walks (candidates mesh lengths trees))) (weighed_walk mesh lengths c.walk)
            (contains-map (weighed_walk mesh lengths) (walks (candidates mesh lengths trees)) c.walk
            (contains-map (λ x. x.walk) (candidates mesh lengths trees) c (sub c (k, l, same loops k n c l)))))))))
          where
            same : (loops : List Loop) (k : ℕ) (n c : Loop) → k < length loops → get_or loops k (get_or loops k n)
                ≡ get_or loops k n
            same [] k n c l = absurd (omega arith)
            same (x ∷ xs) zero n c l = refl
            same (x ∷ xs) (suc k) n c l = same xs k n c (omega arith)

    -- each closed walk of the graph is a sum of candidates that are no longer
    pub graph_walk_covered : (a : ℕ) (w : List ℕ) → a < mesh.vertices → IsGraphWalk (primal (cells_of mesh)) a w a →
        SpannedUpToWeight numbers (weighed (λ c. c.size) (λ c. class_of mesh d c.walk) (candidates mesh lengths trees))
        (signed (cells_of mesh) d
        (record {
          weight = graph_walk_length (primal (cells_of mesh)) (edge_length lengths) a w;
          vector =
              walk_chain (primal (cells_of mesh)) a w;
        }))
    graph_walk_covered a w a_in walk =
        let at = chosen_trees a a_in in
        let short = tree_short mesh lengths a (trees a) surface positive at in
        subst (λ xs. SpannedUpToWeight numbers xs
        (signed (cells_of mesh) d
        (record {
          weight = graph_walk_length (primal (cells_of mesh)) (edge_length lengths) a w;
          vector =
              walk_chain (primal (cells_of mesh)) a w;
        })))
        (weighed_loops (candidates mesh lengths trees) (below_sized mesh.vertices (omega arith)))
        (walk_spanned (cells_of mesh) (edge_length lengths) d (surfaces_are_cells mesh surface).complex
        (trees a).tree short (map (weighed_walk mesh lengths) (walks (candidates mesh lengths trees)))
        (λ e l. loops_covered a e a_in l)
        a (ap (λ v. (trees a).tree.rank v) (sym at.shortest.root) ∙ short.none_at_root) w walk)

    -- and so is each closed walk of the mesh
    pub walk_covered : (walk : List ℕ) → IsClosed mesh walk →
        SpannedUpToWeight numbers (weighed (λ c. c.size) (λ c. class_of mesh d c.walk) (candidates mesh lengths trees))
        (signed (cells_of mesh) d (weighed_walk mesh lengths walk))
    walk_covered walk closed =
        let w = graph_walk mesh surface lengths walk closed in
        let at = chosen_trees (first walk) w.start_in in
        subst (λ xs. SpannedUpToWeight numbers xs (signed (cells_of mesh) d (weighed_walk mesh lengths walk)))
        (weighed_loops (candidates mesh lengths trees) (below_sized mesh.vertices (omega arith)))
        (closed_walk_spanned mesh lengths d surface (trees (first walk)).tree
        (tree_short mesh lengths (first walk) (trees (first walk)) surface positive at)
        (map (weighed_walk mesh lengths) (walks (candidates mesh lengths trees)))
        (λ e l. loops_covered (first walk) e w.start_in l) walk closed (sym at.shortest.root))

    pub candidates_rise : IsNonDecreasing (map (λ c. c.size) (candidates mesh lengths trees))
    candidates_rise = rising mesh lengths trees (candidates mesh lengths trees)
        (below-sorted mesh lengths trees mesh.vertices)
