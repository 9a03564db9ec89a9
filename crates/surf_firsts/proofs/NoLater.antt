-- The loop of each edge at a base is a sum of chosen loops there that come no later.
use Rattle.std.proofs.Common.{◌≡◌, ℕ, ◌<◌, true, false, not, eqb-true, List, length, get_or, map, Contains, refl, sym, ap, ◌∙◌, subst, arith, inl, inr}
use Rattle.surf_surfaces.proofs.Common.{AllByRecursion, cases_Bool, false≢true, nat_tests, map-map, Contains-get_or, Contains-permutation, same_from, InSpan, in_from_spanned, spanned_from_in, primal, dual, Split, IsSplit, signature, chain_signature, signature_of, loop, in_tree, Mesh, edge_count, IsSurface, IsClosed, ArePositive, parity, cells_of, class_of, loop_walk, loop_length, Trees, AreChosenAt, Loop, comes_before, walks, loop_at, loops_at, DependsOn, Chain, chains, numbers, sorted-permutes, all_filtered, member_in}
use Rattle.surf_z2.proofs.Linear.{sum_over, over_in, linear-sum_over}
use Rattle.surf_graphs.proofs.Independence.{signature_of-same, signature_of-linear, over_signature}
use Rattle.surf_graphs.proofs.Lengths.{loop_signature, sum_of_left}
use Rattle.surf_surfaces.specs.Cotree.{is_left, left_edges, split_of, precedes}
use Rattle.surf_surfaces.proofs.bases.CoveredLaws.{contains-map}
use Rattle.surf_surfaces.proofs.meshes.CellLaws.{surfaces_are_cells}
use Rattle.surf_surfaces.proofs.classes.ClassLaws.{RunsLoop, runs_loop}
use Rattle.surf_surfaces.proofs.bases.GreedyChoiceLaws.{AreClosed, spanned_from_depends, depends_from_spanned}
use Rattle.surf_surfaces.proofs.classes.LeastLaws.{all_each, all_mapped}
use Rattle.surf_surfaces.proofs.bases.LoopsAtLaws.{IsLoopAt, comes_before-strict, loops_each, tree_is, tree_short, split_is}
use Rattle.surf_firsts.specs.Firsts.{is_no_later, loops_no_later, LoopsDependOnNoLater}

-- what precedes by weight and number doesn't come later as a loop
sooner_loop : (weight : ℕ → ℕ) (l e base : ℕ) (v w : List ℕ) → precedes weight l e ≡ true →
    comes_before (record { size = weight e; base = base; edge = e; walk = v })
    (record { size = weight l; base = base; edge = l; walk = w }) ≡ false
sooner_loop weight l e base v w h = grind (arith, nat_tests)

module _ (mesh : Mesh) (lengths : List ℕ) (base : ℕ) (trees : Trees) (surface : IsSurface mesh)
    (positive : ArePositive mesh lengths) (chosen : AreChosenAt mesh lengths base trees) where
  abbrev own : Split
  own = split_of mesh trees.tree trees.cotree

  abbrev at : ℕ → Loop
  at = loop_at mesh lengths base trees.tree

  split : IsSplit (cells_of mesh) (split_of mesh trees.tree trees.cotree)
  split = split_is mesh lengths base trees surface positive chosen

  pub loop_runs_at : (e : ℕ) → e < edge_count mesh → RunsLoop mesh lengths trees.tree e
  loop_runs_at = runs_loop mesh lengths surface trees.tree (tree_is mesh lengths base trees surface positive chosen)
      (tree_short mesh lengths base trees surface positive chosen)

  pub at_closed : AreClosed mesh (loops_at mesh lengths base trees)
  at_closed = all_each (IsLoopAt mesh lengths base trees) (λ c. IsClosed mesh c.walk) (loops_at mesh lengths base trees)
      (λ c h. subst (IsClosed mesh) (sym (ap (λ k. k.walk) h.is)) (loop_runs_at c.edge h.edge_in).closed.is_closed)
      (loops_each mesh lengths base trees)

  -- the loop of a left edge is among those that are chosen
  pub left_contained : (k : ℕ) → k < length (left_edges mesh trees.tree trees.cotree) →
      Contains (loops_at mesh lengths base trees) (at (get_or (left_edges mesh trees.tree trees.cotree) k 0))
  left_contained k l =
      let left = left_edges mesh trees.tree trees.cotree in
      Contains-permutation (map at left) (loops_at mesh lengths base trees) (at (get_or left k 0))
      (sorted-permutes comes_before (map at left)) (contains-map at left (get_or left k 0) (Contains-get_or left k 0 l))

  -- where an edge's signature has a left edge, the loop of this comes no later
  sooner : (e k : ℕ) → e < edge_count mesh → k < length (left_edges mesh trees.tree trees.cotree) →
      signature (cells_of mesh) (split_of mesh trees.tree trees.cotree) e k ≡ true →
      is_no_later (at (get_or (left_edges mesh trees.tree trees.cotree) k 0)) (at e) ≡ true
  sooner e k e_in lk on =
      let s = cells_of mesh in
      let l = get_or (left_edges mesh trees.tree trees.cotree) k 0 in
      elim (cases_Bool (in_tree (primal s) trees.tree e)) [
        | inl yes_t ↦ absurd (false≢true (rw yes_t at on))
        | inr no_t ↦ elim (cases_Bool (in_tree (dual s) trees.cotree e)) [
          | inl yes_c ↦
              let left : is_left mesh trees.tree trees.cotree l ≡ true =
              rw (split.left_outside k lk, split.left_outside_dual k lk) refl in
              let before = chosen.heaviest.heaviest l e (split.left_in k lk) left (rw (no_t, yes_c) at on) in
              ap not (sooner_loop (loop_length mesh lengths trees.tree) l e base (loop_walk mesh trees.tree e)
              (loop_walk mesh trees.tree l) before)
          | inr no_c ↦
              let same : l ≡ e = eqb-true l e (rw (no_t, no_c) at on) in
              subst (λ x. is_no_later (at x) (at e) ≡ true) (sym same) (ap not (comes_before-strict (at e)))
        ]
      ]

  own_class : (e : ℕ) → e < edge_count mesh →
      class_of mesh (split_of mesh trees.tree trees.cotree) (loop_walk mesh trees.tree e)
      ≡ signature_of (cells_of mesh) (split_of mesh trees.tree trees.cotree) (loop (primal (cells_of mesh)) trees.tree e)
  own_class e e_in =
      signature_of-same (cells_of mesh) (split_of mesh trees.tree trees.cotree) (parity mesh (loop_walk mesh trees.tree e))
      (loop (primal (cells_of mesh)) trees.tree e) (loop_runs_at e e_in).parities

  -- by the signatures of the two trees
  own_span : (e : ℕ) → e < edge_count mesh →
      InSpan numbers (map (λ c. class_of mesh (split_of mesh trees.tree trees.cotree) c.walk)
      (loops_no_later mesh lengths base trees e))
      (class_of mesh (split_of mesh trees.tree trees.cotree) (loop_walk mesh trees.tree e))
  own_span e e_in =
      let s = cells_of mesh in
      let d = split_of mesh trees.tree trees.cotree in
      let cells = (surfaces_are_cells mesh surface).complex in
      let m = length d.left in
      let vector : Loop → ℕ = λ c. class_of mesh d c.walk in
      let within = map vector (loops_no_later mesh lengths base trees e) in
      let left : ℕ → Chain = λ k. loop (primal s) d.tree (get_or d.left k 0) in
      let sums : signature_of s d (loop (primal s) d.tree e)
      ≡ sum_over numbers m (signature s d e) (λ k. signature_of s d (left k)) =
      same_from m (chain_signature s d (loop (primal s) d.tree e))
      (chain_signature s d (sum_over chains m (signature s d e) left)) (λ j lj.
      loop_signature s d cells split e j e_in ∙ sym (sum_of_left s d cells split (signature s d e) j lj)
      ∙ sym (over_signature s d m (signature s d e) left j))
      ∙ linear-sum_over chains numbers (signature_of s d) (signature_of-linear s d) m (signature s d e) left in
      subst (InSpan numbers within) (sym (own_class e e_in ∙ sums))
      (over_in numbers within m (signature s d e) (λ k. signature_of s d (left k)) (λ k lk on.
      let l = get_or d.left k 0 in
      subst (InSpan numbers within) (own_class l (split.left_in k lk))
      (member_in numbers vector (λ c. is_no_later c (at e)) (loops_at mesh lengths base trees) (at l) (left_contained k lk)
      (sooner e k e_in lk on))))

  no_later_closed : (e : ℕ) → AllByRecursion (IsClosed mesh) (walks (loops_no_later mesh lengths base trees e))
  no_later_closed e = all_mapped (IsClosed mesh) (λ c. c.walk) (loops_no_later mesh lengths base trees e)
      (all_filtered (λ c. is_no_later c (at e)) (λ c. IsClosed mesh c.walk) (loops_at mesh lengths base trees) at_closed)

  pub depends_no_later : (e : ℕ) → e < edge_count mesh →
      DependsOn mesh (walks (loops_no_later mesh lengths base trees e)) (loop_walk mesh trees.tree e)
  depends_no_later e e_in =
      let d = split_of mesh trees.tree trees.cotree in
      let some = loops_no_later mesh lengths base trees e in
      let walk = loop_walk mesh trees.tree e in
      depends_from_spanned mesh d surface split (walks some) walk (no_later_closed e)
      (loop_runs_at e e_in).closed.is_closed
      (spanned_from_in numbers (map (class_of mesh d) (walks some)) (class_of mesh d walk)
      (subst (λ vs. InSpan numbers vs (class_of mesh d walk)) (sym (map-map (class_of mesh d) (λ c. c.walk) some))
      (own_span e e_in)))

  -- by all signatures
  pub spanned_no_later : (d : Split) → IsSplit (cells_of mesh) d → (e : ℕ) → e < edge_count mesh →
      InSpan numbers (map (λ c. class_of mesh d c.walk) (loops_no_later mesh lengths base trees e))
      (class_of mesh d (loop_walk mesh trees.tree e))
  spanned_no_later d ok e e_in =
      let some = loops_no_later mesh lengths base trees e in
      let walk = loop_walk mesh trees.tree e in
      subst (λ vs. InSpan numbers vs (class_of mesh d walk)) (map-map (class_of mesh d) (λ c. c.walk) some)
      (in_from_spanned numbers (map (class_of mesh d) (walks some)) (class_of mesh d walk)
      (spanned_from_depends mesh d surface ok (walks some) walk (depends_no_later e e_in)))

pub loops_depend_on_no_later : LoopsDependOnNoLater
loops_depend_on_no_later mesh lengths base trees e surface positive chosen e_in =
    depends_no_later mesh lengths base trees surface positive chosen e e_in
