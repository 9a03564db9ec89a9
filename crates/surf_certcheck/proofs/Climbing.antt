-- The coordinates of ways up a tree, and of loops through it.
use Rattle.surf_treecheck.proofs.Common.{unwrap_or, ◌≡◌, ◌≢◌, ℕ, ◌<◌, Some, None, List, length, get_or, IsPermutation, Contains, bit_xor, slice_index, sym, ap, ◌∙◌, subst, arith, range_with_len, length-range_with_len, get_or-range_with_len, All-permutation, Contains-permutation, Split, loop_walk, Mesh, edge_signature, walk_signature, edge_count, ends, IsSurface, xor_zero_l, runs_loop, TreeRows, certified_tree, distance_at, parent_at, IsParent}
use Rattle.std.specs.Int.Bits.{xor_assoc, xor_comm}
use Rattle.surf_certcheck.proofs.Common.{way_class, AreTaken, IsClimbed}
use Rattle.surf_surfaces.proofs.classes.SignatureLaws.{signatures_are_classes}
use Rattle.surf_signatures.proofs.WayLaws.{way_none, way_more, loop_class}

-- ---- all vertices in some order

pub order_in : (n k d : ℕ) (order : List ℕ) → IsPermutation (range_with_len 0 n) order → k < length order → get_or order k d < n
order_in n k d order all l = All-permutation (λ v. v < n) (range_with_len 0 n) order all (λ i e m.
    let inside : i < n = omega (arith, m, length-range_with_len 0 n) in
    omega (arith, inside, get_or-range_with_len 0 n i e inside)) k d l

pub listed : (n v : ℕ) (order : List ℕ) → IsPermutation (range_with_len 0 n) order → v < n → Contains order v
listed n v order all l =
    let here : get_or (range_with_len 0 n) v v ≡ v = omega (arith, get_or-range_with_len 0 n v v l) in
    Contains-permutation (range_with_len 0 n) order v all (v, omega (arith, l, length-range_with_len 0 n), here)

-- ---- ways

-- a vertex with a parent is not the base, and its parent is one step nearer
pub record IsStep (mesh : Mesh) (rows : TreeRows) (at parent : ℕ) : Type 0 where
  pub apart : at ≢ rows.base
  pub within : parent < mesh.vertices
  pub nearer : distance_at rows parent < distance_at rows at
  pub parent_is : (certified_tree mesh rows).parent at ≡ parent
  pub edge_in : (certified_tree mesh rows).up at < edge_count mesh

pub step_up : (mesh : Mesh) (rows : TreeRows) (at parent : ℕ) → IsClimbed mesh rows → at < mesh.vertices →
    parent_at rows at ≡ Some parent → IsStep mesh rows at parent
step_up mesh rows at parent climbed l is =
    let ne : at ≢ rows.base = (subst (IsParent mesh rows.base at) is (climbed.valid.parents at l)).0 in
    let same : (certified_tree mesh rows).parent at ≡ parent = ap (λ o. unwrap_or o 0) is in
    record {
      apart = ne;
      within = subst (λ p. p < mesh.vertices) same (climbed.tree.parent_in at l ne);
      nearer = subst (λ p. distance_at rows p < distance_at rows at) same (climbed.tree.rank_falls at l ne);
      parent_is = same;
      edge_in = climbed.tree.up_in at l ne;
    }

-- one without a parent is the base
pub at_base : (mesh : Mesh) (rows : TreeRows) (at : ℕ) → IsClimbed mesh rows → at < mesh.vertices →
    parent_at rows at ≡ None → at ≡ rows.base
at_base mesh rows at climbed l is = subst (IsParent mesh rows.base at) is (climbed.valid.parents at l)

module _ (mesh : Mesh) (d : Split) (to : ℕ → ℕ) (sets : List ℕ) (taken : AreTaken mesh d to sets) (rows : TreeRows)
    (climbed : IsClimbed mesh rows) where
  -- the way of the parent and the edge to it
  pub way_summed : (at edge parent above added sum : ℕ) → at < mesh.vertices → IsStep mesh rows at parent →
      edge ≡ (certified_tree mesh rows).up at → added ≡ slice_index sets edge → above ≡ to (way_class mesh d (certified_tree mesh rows) parent) →
      sum ≡ bit_xor (bit_xor 0 above) added → sum ≡ to (way_class mesh d (certified_tree mesh rows) at)
  way_summed at edge parent above added sum l step is_edge is before summed =
      let t = certified_tree mesh rows in
      let way = way_class mesh d t in
      let own = edge_signature mesh d (t.up at) in
      let one : added ≡ to own = is ∙ ap (slice_index sets) is_edge ∙ taken.each (t.up at) step.edge_in in
      let more : to (way at) ≡ bit_xor (to own) (to (way parent)) =
      ap to (way_more mesh d t climbed.tree at l step.apart) ∙ taken.linear.add own (way (t.parent at))
      ∙ ap (λ p. bit_xor (to own) (to (way p))) step.parent_is in
      summed ∙ ap (λ x. bit_xor x added) (xor_zero_l above ∙ before) ∙ ap (bit_xor (to (way parent))) one
      ∙ xor_comm (to (way parent)) (to own) ∙ sym more

  -- that of the base is empty
  pub way_empty : (at sum : ℕ) → at ≡ rows.base → sum ≡ 0 → sum ≡ to (way_class mesh d (certified_tree mesh rows) at)
  way_empty at sum same none =
      none ∙ sym (ap (λ n. to (way_class mesh d (certified_tree mesh rows) n)) same
      ∙ ap to (way_none mesh d (certified_tree mesh rows)) ∙ taken.linear.zero)

  -- the way to one end, the edge, and the way to the other
  pub loop_summed : (surface : IsSurface mesh) (e u v near far added all : ℕ) → e < edge_count mesh →
      u ≡ (ends mesh e).0 → v ≡ (ends mesh e).1 → near ≡ to (way_class mesh d (certified_tree mesh rows) u) →
      far ≡ to (way_class mesh d (certified_tree mesh rows) v) → added ≡ slice_index sets e →
      all ≡ bit_xor (bit_xor (bit_xor 0 near) added) far →
      all ≡ to (walk_signature mesh d (loop_walk mesh (certified_tree mesh rows) e))
  loop_summed surface e u v near far added all l is_u is_v one two is summed =
      let t = certified_tree mesh rows in
      let way = way_class mesh d t in
      let a = way (ends mesh e).0 in
      let b = way (ends mesh e).1 in
      let own = edge_signature mesh d e in
      let runs = runs_loop mesh climbed.lengths surface t climbed.tree climbed.short e l in
      let class : walk_signature mesh d (loop_walk mesh t e) ≡ bit_xor own (bit_xor a b) =
      signatures_are_classes mesh d surface (loop_walk mesh t e) runs.closed.is_closed.is_walk
      ∙ loop_class mesh climbed.lengths d t e surface climbed.tree climbed.short l in
      let near_is : bit_xor 0 near ≡ to a = xor_zero_l near ∙ one ∙ ap (λ n. to (way n)) is_u in
      let far_is : far ≡ to b = two ∙ ap (λ n. to (way n)) is_v in
      let added_is : added ≡ to own = is ∙ taken.each e l in
      let both_is : bit_xor (bit_xor 0 near) added ≡ bit_xor (to own) (to a) =
      ap (λ x. bit_xor x added) near_is ∙ ap (bit_xor (to a)) added_is ∙ xor_comm (to a) (to own) in
      summed ∙ ap (λ x. bit_xor x far) both_is ∙ ap (bit_xor (bit_xor (to own) (to a))) far_is
      ∙ xor_assoc (to own) (to a) (to b) ∙ ap (bit_xor (to own)) (sym (taken.linear.add a b))
      ∙ sym (taken.linear.add own (bit_xor a b)) ∙ ap to (sym class)
