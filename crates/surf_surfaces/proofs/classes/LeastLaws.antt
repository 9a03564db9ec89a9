-- Least loop systems and least bases.
use Rattle.surf_surfaces.proofs.Common.{◌≡◌, ℕ, suc, ◌<◌, List, [], ◌∷◌, length, get_or, map, All, IsPermutation, refl, sym, ap, ◌∙◌, subst, arith, AllByRecursion, map-map, length-map, recursion_from_All, All-from_recursion, Contains-get_or, numbers, Independent, Weighed, SpannedUpToWeight, IsEven, IsShortest, loop, left_edges, Mesh, edge_count, IsSurface, cells_of, loop_walk, IsPermutation-map, IsPermutation-sym, Contains-permutation, length_permutation, independence_law, signature_of, signed, loop_chain, primal, Split, IsSplit, IsHeaviest, even_same, IsClosedAt, edge_length, first, parity}
use Rattle.surf_z2.proofs.Ranks.{spanned_among}
use Rattle.surf_graphs.proofs.Independence.{signature_of-same, signatures_from_independent, left_independent, loop_spanned}
use Rattle.surf_surfaces.specs.Homology.{IsIndependent, IsLoopSystem, IsLoopCount}
use Rattle.surf_surfaces.specs.Class.{class_of, weighed_walk, LeftLoopsAreLeast, CoveringBasesAreLeast}
use Rattle.surf_surfaces.proofs.meshes.CellLaws.{surfaces_are_cells}
use Rattle.surf_surfaces.proofs.walks.GraphWalkLaws.{graph_walk, closed_parity_even}
use Rattle.surf_surfaces.proofs.classes.ClassLaws.{RunsLoop, runs_loop, independent_by_classes, spanned_walks_least, closed_walk_spanned}

pub map-same : {X Y : Type 0} (f g : X → Y) (xs : List X) → AllByRecursion (λ x. f x ≡ g x) xs → map f xs ≡ map g xs
map-same f g [] h = refl
map-same f g (x ∷ xs) h = ap (λ y. y ∷ map f xs) h.0 ∙ ap (λ ys. g x ∷ ys) (map-same f g xs h.1)

pub all_each : {X : Type 0} (P Q : X → Type 0) (xs : List X) → ((x : X) → P x → Q x) → AllByRecursion P xs →
    AllByRecursion Q xs
all_each P Q [] f h = tt
all_each P Q (x ∷ xs) f h = (f x h.0, all_each P Q xs f h.1)

pub all_mapped : {X Y : Type 0} (P : Y → Type 0) (f : X → Y) (xs : List X) → AllByRecursion (λ x. P (f x)) xs →
    AllByRecursion P (map f xs)
all_mapped P f [] h = tt
all_mapped P f (x ∷ xs) h = (h.0, all_mapped P f xs h.1)

-- what is spanned by a list is spanned by the list in another order
spanned_permuted : (xs ys : List (Weighed ℕ)) (y : Weighed ℕ) → IsPermutation xs ys → SpannedUpToWeight numbers xs y →
    SpannedUpToWeight numbers ys y
spanned_permuted xs ys y p h =
    spanned_among numbers xs ys y (λ k d l. Contains-permutation xs ys (get_or xs k d) p (Contains-get_or xs k d l)) h

abbrev weighed : ℕ → ℕ → Weighed ℕ
weighed a u = record { weight = a; vector = u }

pub weighed_same : (x y : Weighed ℕ) → x.weight ≡ y.weight → x.vector ≡ y.vector → x ≡ y
weighed_same x y e f = ap (λ a. weighed a x.vector) e ∙ ap (weighed y.weight) f

module _ (mesh : Mesh) (lengths : List ℕ) (d : Split) (left : List ℕ) (surface : IsSurface mesh)
    (split : IsSplit (cells_of mesh) d)
    (short : IsShortest (primal (cells_of mesh)) (edge_length lengths) d.tree) (same : IsPermutation d.left left) where
  pub left_below : AllByRecursion (λ l. l < edge_count mesh) left
  left_below = recursion_from_All (λ l. l < edge_count mesh) left (λ k n l.
      let (i, i_in, is) = Contains-permutation left d.left (get_or left k n) (IsPermutation-sym d.left left same)
      (Contains-get_or left k n l) in
      subst (λ e. e < edge_count mesh) is (in_at i (get_or left k n) i_in))
    where
      in_at : (i n : ℕ) → i < length d.left → get_or d.left i n < edge_count mesh
      in_at i n l = let h : All (λ e. e < edge_count mesh) d.left = All-from_zero d.left split.left_in in h i n l
        where
          All-from_zero : (xs : List ℕ) → ((k : ℕ) → k < length xs → get_or xs k 0 < edge_count mesh) →
              All (λ e. e < edge_count mesh) xs
          All-from_zero [] h = λ k n l. absurd (omega arith)
          All-from_zero (x ∷ xs) h =
              All-from_recursion (λ e. e < edge_count mesh) (x ∷ xs) (
                h 0 (omega arith),
                recursion_from_All (λ e. e < edge_count mesh) xs
                    (All-from_zero xs (λ k l. h (suc k) (omega arith))),
              )

  pub runs : (l : ℕ) → l < edge_count mesh → RunsLoop mesh lengths d.tree l
  runs = runs_loop mesh lengths surface d.tree split.tree_is short

  left_walks : List (List ℕ)
  left_walks = map (loop_walk mesh d.tree) left

  left_closed : All (IsClosedAt mesh d.tree.root) (map (loop_walk mesh d.tree) left)
  left_closed = All-from_recursion (IsClosedAt mesh d.tree.root) (map (loop_walk mesh d.tree) left)
      (all_mapped (IsClosedAt mesh d.tree.root) (loop_walk mesh d.tree) left
      (all_each (λ l. l < edge_count mesh) (λ l. IsClosedAt mesh d.tree.root (loop_walk mesh d.tree l)) left
      (λ l h. (runs l h).closed) left_below))

  -- the class of a loop
  loop_class : (l : ℕ) → l < edge_count mesh → class_of mesh d (loop_walk mesh d.tree l)
      ≡ signature_of (cells_of mesh) d (loop (primal (cells_of mesh)) d.tree l)
  loop_class l h = signature_of-same (cells_of mesh) d (parity mesh (loop_walk mesh d.tree l))
      (loop (primal (cells_of mesh)) d.tree l) (runs l h).parities

  pub left_loops_independent : IsIndependent mesh (map (loop_walk mesh d.tree) left)
  left_loops_independent =
      let s = cells_of mesh in
      let cells = (surfaces_are_cells mesh surface).complex in
      let at : ℕ → ℕ = λ l. signature_of s d (loop (primal s) d.tree l) in
      let one : Independent numbers (map at d.left) =
      subst (Independent numbers) (map-map (signature_of s d) (loop (primal s) d.tree) d.left)
      (signatures_from_independent s d cells split (map (loop (primal s) d.tree) d.left)
      (All-from_recursion (IsEven (primal s)) (map (loop (primal s) d.tree) d.left)
      (all_mapped (IsEven (primal s)) (loop (primal s) d.tree) d.left evens)) (left_independent s d cells split)) in
      let two : Independent numbers (map at left) = (independence_law numbers).order (map at d.left) (map at left) one
      (IsPermutation-map at d.left left same) in
      let is : map (class_of mesh d) (map (loop_walk mesh d.tree) left) ≡ map at left =
      map-map (class_of mesh d) (loop_walk mesh d.tree) left ∙ map-same (λ l. class_of mesh d (loop_walk mesh d.tree l))
      at left (all_each (λ l. l < edge_count mesh) (λ l. class_of mesh d (loop_walk mesh d.tree l) ≡ at l) left
      loop_class left_below) in
      (independent_by_classes mesh d surface split (map (loop_walk mesh d.tree) left)
      (λ k n l. (left_closed k n l).is_closed)).1 (subst (Independent numbers) (sym is) two)
    where
      even : (l : ℕ) → l < edge_count mesh → IsEven (primal (cells_of mesh)) (loop (primal (cells_of mesh)) d.tree l)
      even l h = even_same (primal (cells_of mesh)) (loop (primal (cells_of mesh)) d.tree l)
          (parity mesh (loop_walk mesh d.tree l)) (λ e below. sym ((runs l h).parities e below))
          (closed_parity_even mesh surface (loop_walk mesh d.tree l) (runs l h).closed.is_closed)

      each_below : (xs : List ℕ) → ((k : ℕ) → k < length xs → get_or xs k 0 < edge_count mesh) →
          AllByRecursion (λ l. IsEven (primal (cells_of mesh)) (loop (primal (cells_of mesh)) d.tree l)) xs
      each_below [] h = tt
      each_below (x ∷ xs) h = (even x (h 0 (omega arith)), each_below xs (λ k l. h (suc k) (omega arith)))

      evens : AllByRecursion (λ l. IsEven (primal (cells_of mesh)) (loop (primal (cells_of mesh)) d.tree l)) d.left
      evens = each_below d.left split.left_in

  pub left_count : IsLoopCount mesh (length (map (loop_walk mesh d.tree) left))
  left_count = let n = length-map left (loop_walk mesh d.tree) in let m = length_permutation d.left left same in
      let count = left_edges (cells_of mesh) d split in omega arith

  -- the left loops with their classes and lengths, whichever way they are seen
  pub weighed_left : map (signed (cells_of mesh) d) (map (weighed_walk mesh lengths) (map (loop_walk mesh d.tree) left))
      ≡ map (λ l. signed (cells_of mesh) d (loop_chain (primal (cells_of mesh)) (edge_length lengths) d.tree l)) left
  weighed_left =
      map-map (signed (cells_of mesh) d) (weighed_walk mesh lengths) (map (loop_walk mesh d.tree) left)
      ∙ map-map (λ w. signed (cells_of mesh) d (weighed_walk mesh lengths w)) (loop_walk mesh d.tree) left
      ∙ map-same (λ l. signed (cells_of mesh) d (weighed_walk mesh lengths (loop_walk mesh d.tree l)))
      (λ l. signed (cells_of mesh) d (loop_chain (primal (cells_of mesh)) (edge_length lengths) d.tree l)) left
      (all_each (λ l. l < edge_count mesh)
      (λ l. signed (cells_of mesh) d (weighed_walk mesh lengths (loop_walk mesh d.tree l))
      ≡ signed (cells_of mesh) d (loop_chain (primal (cells_of mesh)) (edge_length lengths) d.tree l)) left
      (λ l h. weighed_same _ _ (runs l h).size (loop_class l h)) left_below)

  -- where the cotree is heaviest, they span each loop by no longer ones
  pub left_spans : IsHeaviest (cells_of mesh) (edge_length lengths) d → (e : ℕ) → e < edge_count mesh →
      SpannedUpToWeight numbers
      (map (signed (cells_of mesh) d) (map (weighed_walk mesh lengths) (map (loop_walk mesh d.tree) left)))
      (signed (cells_of mesh) d (loop_chain (primal (cells_of mesh)) (edge_length lengths) d.tree e))
  left_spans heavy e l =
      let s = cells_of mesh in
      let at : ℕ → Weighed ℕ = λ h. signed s d (loop_chain (primal s) (edge_length lengths) d.tree h) in
      let y = at e in
      let one : SpannedUpToWeight numbers (map at d.left) y =
      subst (λ xs. SpannedUpToWeight numbers xs y)
      (map-map (signed s d) (loop_chain (primal s) (edge_length lengths) d.tree) d.left)
      (loop_spanned s (edge_length lengths) d (surfaces_are_cells mesh surface).complex split heavy e l) in
      subst (λ xs. SpannedUpToWeight numbers xs y) (sym weighed_left)
      (spanned_permuted (map at d.left) (map at left) y (IsPermutation-map at d.left left same) one)

  left_system : IsLoopSystem mesh d.tree.root (map (loop_walk mesh d.tree) left)
  left_system = record { at_base = left_closed; count = left_count; independent = left_loops_independent }

pub left_loops_are_least : LeftLoopsAreLeast
left_loops_are_least mesh lengths d left surface split short heavy same = record {
  is_system = left_system mesh lengths d left surface split short same;
  least = λ others system.
      let walks = map (loop_walk mesh d.tree) left in
      let a = system.count in
      let b = left_count mesh lengths d left surface split short same in
      spanned_walks_least mesh lengths d surface split walks others (omega arith)
      (λ k n l. (system.at_base k n l).is_closed)
      (λ k n l. closed_walk_spanned mesh lengths d surface d.tree short (map (weighed_walk mesh lengths) walks)
      (left_spans mesh lengths d left surface split short same heavy) (get_or others k n)
      (system.at_base k n l).is_closed (system.at_base k n l).at_base)
      system.independent;
}

pub covering_bases_are_least : CoveringBasesAreLeast
covering_bases_are_least mesh lengths d trees walks surface split short basis covers = record {
  is_basis = basis;
  least = λ others other.
      let a = other.count in
      let b = basis.count in
      spanned_walks_least mesh lengths d surface split walks others (omega arith) other.closed
      (λ k n l.
      let walk = get_or others k n in
      let base_in : first walk < mesh.vertices = (graph_walk mesh surface lengths walk (other.closed k n l)).start_in in
      closed_walk_spanned mesh lengths d surface (trees (first walk)) (short.shortest (first walk) base_in)
      (map (weighed_walk mesh lengths) walks) (λ e below. covers (first walk) e base_in below) walk (other.closed k n l)
      (sym (short.root (first walk) base_in)))
      other.independent;
}
