-- Searches that bar vertices which were searched as far.
use Rattle.surf_surfaces.proofs.Common.{◌≡◌, ℕ, suc, ◌+◌, ◌*◌, ◌<◌, ◌≤◌, Bool, true, false, not, ◌&&◌, ◌||◌, ◌==◌, leb, any_below, cases_Bool, cases_eq, eq-eqb, ne_eqb, false≢true, and_from, List, [], ◌∷◌, ◌++◌, map, filter, All, Contains, bit_xor, sym, ap, ◌∙◌, subst, arith, inl, inr, AllByRecursion, or_cases, and_parts, leb-true, nat_tests, map-map, All-from_recursion, All-contains, numbers, difference, Spanned, xor_comm, InSpan, add_in, in_from_spanned, primal, Split, IsSplit, IsGraphWalk, walk_chain, graph_walk_length, signature_of, Tree, loop, Mesh, edge_count, IsSurface, IsNull, edge_length, ArePositive, cells_of, class_of, AreShortestTrees, loop_walk, loop_length, over_in, in_wider, some_or_none, walk-append, walk_parts, Place, is_no_later, place_at, least_base, Found, is_within, walks_found, DependsAtPlace}
use Rattle.surf_z2.proofs.ParityLaws.{any_below-found, any_below-none}
use Rattle.surf_graphs.proofs.Lengths.{loop_bound}
use Rattle.surf_graphs.proofs.Independence.{signature_of-same, signature_of-linear, walk_sums}
use Rattle.surf_graphs.proofs.Walks.{walk_in, same_off}
use Rattle.surf_surfaces.proofs.meshes.CellLaws.{surfaces_are_cells}
use Rattle.surf_surfaces.proofs.classes.ClassLaws.{some_split, null_by_class}
use Rattle.surf_surfaces.proofs.bases.FewBasesLaws.{no_later_from, least_base_on_way, loop_class}
use Rattle.surf_surfaces.proofs.bases.FirstFoundLaws.{loop_closed}
use Rattle.surf_surfaces.proofs.bases.GreedyChoiceLaws.{spanned_from_depends}
use Rattle.surf_firsts.specs.Near.{is_shorter_by, AgreeOff, IsSoughtFromStart}
use Rattle.surf_firsts.proofs.Parts.{IsOver, two_parts_over}
use Rattle.surf_caps.specs.Barred.{DependOnShorterOr, BarredSearchesSuffice, BarredLoopsComeNoSooner, NearPlacesNeedNoMore}
use Rattle.surf_caps.specs.Caps.{Sought, AreSoughtFromStart, IsFoundBy, AreEnoughFor}
use Rattle.surf_caps.proofs.Covers.{no_longer_by, positive_by, all_closed_by}
use Rattle.surf_caps.proofs.Grow.{caps_grow_enough}
use Rattle.surf_caps.proofs.Over.{within, depends_within, within_depends, seen_within, over_by, over_vertex}

-- a loop is the sum of two closed walks over its root and its least base
module _ (mesh : Mesh) (lengths : List ℕ) (trees : ℕ → Tree) (surface : IsSurface mesh)
    (positive : ArePositive mesh lengths) (shortest : AreShortestTrees mesh lengths trees) (d : Split)
    (split : IsSplit (cells_of mesh) d) (found : List Found) (loops : All (IsFoundBy mesh lengths) found) where
  loop_of_parts : (y e : ℕ) → y < mesh.vertices → e < edge_count mesh →
      ((w : List ℕ) → least_base mesh trees y e < mesh.vertices →
      IsOver (primal (cells_of mesh)) (edge_length lengths) (least_base mesh trees y e) y
      (loop_length mesh lengths (trees y) e) w →
      InSpan numbers (within mesh d surface split (place_at mesh lengths trees y e) found)
      (signature_of (cells_of mesh) d (walk_chain (primal (cells_of mesh)) (least_base mesh trees y e) w))) →
      DependsAtPlace mesh lengths trees found y e
  loop_of_parts y e y_in e_in each =
      let s = cells_of mesh in
      let g = primal s in
      let cells = surfaces_are_cells mesh surface in
      let place = place_at mesh lengths trees y e in
      let x = least_base mesh trees y e in
      let walk = loop_walk mesh (trees y) e in
      let xs = within mesh d surface split place found in
      let on_way = least_base_on_way mesh lengths trees surface positive shortest y e y_in e_in in
      let parts = two_parts_over g (edge_length lengths) cells.complex.primal_ends cells.one_edge trees shortest.root
      shortest.is_tree shortest.shortest x y e on_way.0 y_in e_in on_way.1 in
      let one = each parts.first on_way.0 parts.first_over in
      let two = each parts.second on_way.0 parts.second_over in
      let sum_is : signature_of s d (loop g (trees y) e)
      ≡ bit_xor (signature_of s d (walk_chain g x parts.first)) (signature_of s d (walk_chain g x parts.second)) =
      signature_of-same s d (loop g (trees y) e) (difference (walk_chain g x parts.first) (walk_chain g x parts.second))
      (λ h l. parts.edges h)
      ∙ (signature_of-linear s d).add (walk_chain g x parts.first) (walk_chain g x parts.second) in
      depends_within mesh d surface split found
      (all_closed_by mesh lengths trees surface positive shortest found loops) place walk
      (loop_closed mesh lengths trees surface shortest y e y_in e_in)
      (subst (InSpan numbers xs) (sym (loop_class mesh lengths trees surface positive shortest d split y e y_in e_in ∙ sum_is))
      (add_in numbers xs (signature_of s d (walk_chain g x parts.first)) (signature_of s d (walk_chain g x parts.second))
      one two))

module _ (mesh : Mesh) (lengths other : List ℕ) (trees others : ℕ → Tree) (sought : Sought) (set : ℕ → Bool) (z : ℕ)
    (here : Place → Bool) (found : List Found) (surface : IsSurface mesh) (positive : ArePositive mesh lengths)
    (positive_too : ArePositive mesh other) (shortest : AreShortestTrees mesh lengths trees)
    (shortest_too : AreShortestTrees mesh other others) (agree : AgreeOff mesh lengths other set)
    (z_in : z < mesh.vertices) (enough : AreEnoughFor mesh lengths trees sought found)
    (starts : AreSoughtFromStart sought) (start : IsSoughtFromStart here)
    (as_far : (n : ℕ) (place : Place) → set n ≡ true → here place ≡ true → sought n place ≡ true)
    (depend : (e : ℕ) → e < edge_count mesh → here (place_at mesh other others z e) ≡ true →
    DependsAtPlace mesh other others found z e) (d : Split) (split : IsSplit (cells_of mesh) d) where
  -- a closed walk over z that keeps off the set is a sum of those found that come no later
  off_set : (x size : ℕ) (w : List ℕ) → x < mesh.vertices → here (size, x) ≡ true →
      IsGraphWalk (primal (cells_of mesh)) x w x → Contains (x ∷ w) z →
      graph_walk_length (primal (cells_of mesh)) (edge_length lengths) x w ≤ size →
      AllByRecursion (λ n. set n ≡ false) (x ∷ w) →
      InSpan numbers (within mesh d surface split (size, x) found)
      (signature_of (cells_of mesh) d (walk_chain (primal (cells_of mesh)) x w))
  off_set x size w x_in is_here closed over no_longer off =
      let g = primal (cells_of mesh) in
      let as_long : graph_walk_length g (edge_length other) x w ≡ graph_walk_length g (edge_length lengths) x w =
      same_off g (edge_length lengths) (edge_length other) set agree x w x closed off in
      over_by mesh other others surface positive_too shortest_too d split (within mesh d surface split (size, x) found)
      x size z w x_in z_in closed over (omega (arith, as_long, no_longer)) (λ e e_in no_later.
      seen_within mesh other others surface positive_too shortest_too d split found (size, x) z e no_later
      (depend e e_in (start (place_at mesh other others z e) (size, x) no_later is_here)))

  -- and so is each closed walk over z
  over_z : (x size : ℕ) (w : List ℕ) → x < mesh.vertices → here (size, x) ≡ true →
      IsOver (primal (cells_of mesh)) (edge_length lengths) x z size w →
      InSpan numbers (within mesh d surface split (size, x) found)
      (signature_of (cells_of mesh) d (walk_chain (primal (cells_of mesh)) x w))
  over_z x size w x_in is_here part =
      let g = primal (cells_of mesh) in
      let cells = surfaces_are_cells mesh surface in
      elim (some_or_none set (x ∷ w)) [
        | inl r ↦
            let n_in : r.0 < mesh.vertices = All-contains (λ m. m < mesh.vertices) (x ∷ w) r.0
            (All-from_recursion (λ m. m < mesh.vertices) (x ∷ w)
            (walk_in g cells.complex.primal_ends x w x x_in part.closed)) r.1 in
            over_vertex mesh lengths trees surface positive shortest d split sought starts found enough x size r.0 w x_in
            n_in (as_far r.0 (size, x) r.2 is_here) part.closed r.1 part.no_longer
        | inr off ↦ off_set x size w x_in is_here part.closed part.over part.no_longer off
      ]

  loop_depends : (e : ℕ) → e < edge_count mesh → here (place_at mesh lengths trees z e) ≡ true →
      DependsAtPlace mesh lengths trees found z e
  loop_depends e e_in is_here =
      loop_of_parts mesh lengths trees surface positive shortest d split found enough.loops z e z_in e_in
      (λ w x_in part. over_z (least_base mesh trees z e) (loop_length mesh lengths (trees z) e) w x_in is_here part)

-- other lengths that are nowhere less
module _ (mesh : Mesh) (lengths other : List ℕ) (trees others : ℕ → Tree) (surface : IsSurface mesh)
    (positive : ArePositive mesh lengths) (shortest : AreShortestTrees mesh lengths trees)
    (shortest_too : AreShortestTrees mesh other others)
    (no_less : (h : ℕ) → h < edge_count mesh → edge_length lengths h ≤ edge_length other h) (d : Split)
    (split : IsSplit (cells_of mesh) d) (z e : ℕ) (z_in : z < mesh.vertices) (e_in : e < edge_count mesh) where
  -- a loop of the mesh's lengths that isn't null and comes no later than that of e by the others
  comes_before : ℕ → Bool
  comes_before f = not (class_of mesh d (loop_walk mesh (trees z) f) == 0)
      && is_no_later (place_at mesh lengths trees z f) (place_at mesh other others z e)

  -- where there is none, the loop of e is null: both closed walks of which it is the sum are sums of null loops
  null_if_none : ((f : ℕ) → f < edge_count mesh → comes_before f ≡ false) → IsNull mesh (loop_walk mesh (others z) e)
  unfolding comes_before
  null_if_none none =
      let positive_too = positive_by mesh lengths trees surface positive shortest other no_less in
      let size = loop_length mesh other (others z) e in
      let x = least_base mesh others z e in
      let walk = loop_walk mesh (others z) e in
      let closed = loop_closed mesh other others surface shortest_too z e z_in e_in in
      let each : (f : ℕ) → f < edge_count mesh → is_no_later (place_at mesh lengths trees z f) (size, x) ≡ true →
      class_of mesh d (loop_walk mesh (trees z) f) ≡ 0 = λ f f_in no_later.
      zero_or (class_of mesh d (loop_walk mesh (trees z) f)) (is_no_later (place_at mesh lengths trees z f) (size, x))
      (none f f_in) no_later in
      let depends : DependsAtPlace mesh other others [] z e =
      loop_of_parts mesh other others surface positive_too shortest_too d split [] (λ k b l. absurd (omega arith)) z e z_in e_in
      (λ w x_in part. over_by mesh lengths trees surface positive shortest d split [] x size z w x_in z_in part.closed part.over
      (let less = no_longer_by (primal (cells_of mesh)) (edge_length lengths) (edge_length other) no_less x w x part.closed in
      let long = part.no_longer in omega (arith, less, long)) each) in
      (null_by_class mesh d surface split walk closed).1 (within_depends mesh d surface split [] (size, x) walk depends)
    where
      zero_or : (v : ℕ) (b : Bool) → (not (v == 0) && b) ≡ false → b ≡ true → v ≡ 0
      zero_or v b off on = elim (cases_eq v 0) [
        | inl zero_is ↦ zero_is
        | inr some ↦ absurd (false≢true (sym off ∙ and_from (not (v == 0)) b (ap not (ne_eqb v 0 some)) on))
      ]

  none_sooner : (IsNull mesh (loop_walk mesh (others z) e) → ⊥) →
      (f : ℕ) × (f < edge_count mesh) × (IsNull mesh (loop_walk mesh (trees z) f) → ⊥)
      × (is_no_later (place_at mesh lengths trees z f) (place_at mesh other others z e) ≡ true)
  unfolding comes_before
  none_sooner some = elim (cases_Bool (any_below (edge_count mesh) comes_before)) [
    | inr none ↦ absurd (some (null_if_none (any_below-none (edge_count mesh) comes_before none)))
    | inl found ↦
        let (f, f_in, is) = any_below-found (edge_count mesh) comes_before found in
        let walk = loop_walk mesh (trees z) f in
        let parts = and_parts (not (class_of mesh d walk == 0))
        (is_no_later (place_at mesh lengths trees z f) (place_at mesh other others z e)) is in (
          f,
          f_in,
          (λ null. false≢true (sym (ap not (eq-eqb (class_of mesh d walk) 0
              ((null_by_class mesh d surface split walk (loop_closed mesh lengths trees surface shortest z f z_in f_in)).0 null)))
              ∙ parts.0)),
          parts.1,
        )
  ]

-- what is shorter than a loop at z by more than two ways is shorter than a loop that is longer by no more than these
shorter_within : (k : Found) (far size other base : ℕ) → size ≤ other + 2 * far →
    is_shorter_by (suc (2 * far)) size k ≡ true → is_within (other, base) k ≡ true
shorter_within k far size other base no_longer h =
    let n : k.size + suc (2 * far) ≤ size = leb-true (k.size + suc (2 * far)) size h in
    let less : k.size < other = omega arith in
    grind (arith, nat_tests)

shorter_or_within : (k : Found) (far size other base least : ℕ) → size ≤ other + 2 * far → least < other →
    (is_shorter_by (suc (2 * far)) size k || leb k.size least) ≡ true → is_within (other, base) k ≡ true
shorter_or_within k far size other base least no_longer more h =
    elim (or_cases (is_shorter_by (suc (2 * far)) size k) (leb k.size least) h) [
      | inl one ↦ shorter_within k far size other base no_longer one
      | inr low ↦
          let le = leb-true k.size least low in
          no_later_from k.size k.through other base (omega arith) (λ same. absurd (omega arith))
    ]

module _ (mesh : Mesh) (lengths other : List ℕ) (trees others : ℕ → Tree) (sought : Sought) (set : ℕ → Bool)
    (z far least most : ℕ) (here : Place → Bool) (found : List Found) (surface : IsSurface mesh)
    (positive : ArePositive mesh lengths) (positive_too : ArePositive mesh other)
    (shortest : AreShortestTrees mesh lengths trees) (shortest_too : AreShortestTrees mesh other others)
    (agree : AgreeOff mesh lengths other set) (z_in : z < mesh.vertices)
    (enough : AreEnoughFor mesh lengths trees sought found) (starts : AreSoughtFromStart sought)
    (as_far : (n : ℕ) (place : Place) → set n ≡ true → here place ≡ true → sought n place ≡ true)
    (bound : (place : Place) → here place ≡ true → (least < place.0) × (place.0 ≤ most))
    (short : DependOnShorterOr mesh other others z (most + 2 * far) (suc (2 * far)) least found) (d : Split)
    (split : IsSplit (cells_of mesh) d) where
  -- a loop at z that isn't longer by more than two ways is a sum of those that come no later than a place
  loop_within : (size base e : ℕ) → e < edge_count mesh → least < size → size ≤ most →
      loop_length mesh other (others z) e ≤ size + 2 * far →
      InSpan numbers (within mesh d surface split (size, base) found) (class_of mesh d (loop_walk mesh (others z) e))
  loop_within size base e e_in more le no_longer =
      let long = loop_length mesh other (others z) e in
      let v = class_of mesh d (loop_walk mesh (others z) e) in
      let passes = λ (k : Found). is_shorter_by (suc (2 * far)) long k || leb k.size least in
      let shorter = filter passes found in
      in_wider numbers (λ k. class_of mesh d k.walk) passes (is_within (size, base))
      (λ k h. shorter_or_within k far long size base least no_longer more h) found v
      (in_from_spanned numbers (map (λ k. class_of mesh d k.walk) shorter) v
      (subst (λ vs. Spanned numbers vs v) (map-map (class_of mesh d) (λ k. k.walk) shorter)
      (spanned_from_depends mesh d surface split (walks_found shorter) (loop_walk mesh (others z) e)
      (short e e_in (omega arith)))))

  -- so is a closed walk at y, no longer by the other lengths than a size
  walk_near : (y size base : ℕ) (w : List ℕ) → IsGraphWalk (primal (cells_of mesh)) y w y → (others z).rank y ≤ far →
      least < size → size ≤ most → graph_walk_length (primal (cells_of mesh)) (edge_length other) y w ≤ size →
      InSpan numbers (within mesh d surface split (size, base) found)
      (signature_of (cells_of mesh) d (walk_chain (primal (cells_of mesh)) y w))
  walk_near y size base w closed near more le no_longer =
      let s = cells_of mesh in
      let cells = surfaces_are_cells mesh surface in
      let xs = within mesh d surface split (size, base) found in
      subst (InSpan numbers xs) (sym (walk_sums s d cells.complex (others z) y w closed))
      (over_in numbers xs s.edges (walk_chain (primal s) y w) (λ e. signature_of s d (loop (primal s) (others z) e))
      (λ e e_in on.
      subst (InSpan numbers xs) (loop_class mesh other others surface positive_too shortest_too d split z e z_in e_in)
      (loop_within size base e e_in more le
      (let bound = loop_bound (primal s) (edge_length other) (others z) (shortest_too.shortest z z_in) y w y e closed on in
      omega (arith, bound, no_longer, near)))))

  -- and so is one at x over y that keeps off the set
  near_off : (x y size : ℕ) (w : List ℕ) → IsGraphWalk (primal (cells_of mesh)) x w x → Contains (x ∷ w) y →
      graph_walk_length (primal (cells_of mesh)) (edge_length lengths) x w ≤ size →
      AllByRecursion (λ n. set n ≡ false) (x ∷ w) → (others z).rank y ≤ far → least < size → size ≤ most →
      InSpan numbers (within mesh d surface split (size, x) found)
      (signature_of (cells_of mesh) d (walk_chain (primal (cells_of mesh)) x w))
  near_off x y size w closed over no_longer off near more le =
      let s = cells_of mesh in
      let g = primal s in
      let off_len = edge_length other in
      let (first, second, is, there, back) = walk_parts g x w x y closed over in
      let straight = walk-append g off_len x first y second x there back in
      let turned = walk-append g off_len y second x first y back there in
      let as_long : graph_walk_length g off_len x w ≡ graph_walk_length g (edge_length lengths) x w =
      same_off g (edge_length lengths) off_len set agree x w x closed off in
      let whole : graph_walk_length g off_len x w ≡ graph_walk_length g off_len x first + graph_walk_length g off_len y second =
      ap (graph_walk_length g off_len x) is ∙ straight.2 in
      let other_way : graph_walk_length g off_len y (second ++ first)
      ≡ graph_walk_length g off_len y second + graph_walk_length g off_len x first = turned.2 in
      let same : (e : ℕ) → walk_chain g x w e ≡ walk_chain g y (second ++ first) e =
      λ e. ap (λ v. walk_chain g x v e) is ∙ straight.1 e
      ∙ xor_comm (walk_chain g x first e) (walk_chain g y second e) ∙ sym (turned.1 e) in
      subst (InSpan numbers (within mesh d surface split (size, x) found))
      (sym (signature_of-same s d (walk_chain g x w) (walk_chain g y (second ++ first)) (λ e l. same e)))
      (walk_near y size x (second ++ first) turned.0 near more le (omega (arith, as_long, whole, other_way, no_longer)))

  near_walk : (x y size : ℕ) (w : List ℕ) → x < mesh.vertices → here (size, x) ≡ true → (others z).rank y ≤ far →
      IsOver (primal (cells_of mesh)) (edge_length lengths) x y size w →
      InSpan numbers (within mesh d surface split (size, x) found)
      (signature_of (cells_of mesh) d (walk_chain (primal (cells_of mesh)) x w))
  near_walk x y size w x_in is_here near part =
      let g = primal (cells_of mesh) in
      let cells = surfaces_are_cells mesh surface in
      elim (some_or_none set (x ∷ w)) [
        | inl r ↦
            let n_in : r.0 < mesh.vertices = All-contains (λ m. m < mesh.vertices) (x ∷ w) r.0
            (All-from_recursion (λ m. m < mesh.vertices) (x ∷ w)
            (walk_in g cells.complex.primal_ends x w x x_in part.closed)) r.1 in
            over_vertex mesh lengths trees surface positive shortest d split sought starts found enough x size r.0 w x_in
            n_in (as_far r.0 (size, x) r.2 is_here) part.closed r.1 part.no_longer
        | inr off ↦ near_off x y size w part.closed part.over part.no_longer off near
            (bound (size, x) is_here).0 (bound (size, x) is_here).1
      ]

  near_depends : (y e : ℕ) → y < mesh.vertices → e < edge_count mesh → (others z).rank y ≤ far →
      here (place_at mesh lengths trees y e) ≡ true → DependsAtPlace mesh lengths trees found y e
  near_depends y e y_in e_in near is_here =
      loop_of_parts mesh lengths trees surface positive shortest d split found enough.loops y e y_in e_in
      (λ w x_in part.
      near_walk (least_base mesh trees y e) y (loop_length mesh lengths (trees y) e) w x_in is_here near part)

pub barred_searches_suffice : BarredSearchesSuffice
barred_searches_suffice mesh lengths other trees others sought set z here found surface positive positive_too shortest
    shortest_too agree z_in enough starts start as_far depend =
    let (d, split) = some_split mesh surface in
    (caps_grow_enough mesh lengths trees surface positive shortest).more sought z here found enough
    (loop_depends mesh lengths other trees others sought set z here found surface positive positive_too shortest
    shortest_too agree z_in enough starts start as_far depend d split)

pub barred_loops_come_no_sooner : BarredLoopsComeNoSooner
barred_loops_come_no_sooner mesh lengths other trees others z e surface positive shortest shortest_too no_less z_in e_in some =
    let (d, split) = some_split mesh surface in
    none_sooner mesh lengths other trees others surface positive shortest shortest_too no_less d split z e z_in e_in some

pub near_places_need_no_more : NearPlacesNeedNoMore
near_places_need_no_more mesh lengths other trees others sought set z far least most here found surface positive positive_too
    shortest shortest_too agree z_in enough starts as_far bound short =
    let (d, split) = some_split mesh surface in
    record {
      loops = enough.loops;
      depend = λ y e y_in e_in is_sought.
          let place = place_at mesh lengths trees y e in
          elim (or_cases (sought y place) (leb ((others z).rank y) far && here place) is_sought) [
            | inl old ↦ enough.depend y e y_in e_in old
            | inr new ↦
                let parts = and_parts (leb ((others z).rank y) far) (here place) new in
                near_depends mesh lengths other trees others sought set z far least most here found surface positive positive_too
                shortest shortest_too agree z_in enough starts as_far bound short d split y e y_in e_in
                (leb-true ((others z).rank y) far parts.0) parts.1
          ];
    }
