-- Each vertex is reached with each set.
use Rattle.surf_surfaces.proofs.Common.{◌≡◌, ℕ, zero, suc, ◌+◌, ◌<◌, ◌≤◌, true, false, ◌&&◌, eqb, ltb, List, [], ◌∷◌, ◌++◌, length, get_or, bit_xor, refl, sym, ap, ◌∙◌, subst, arith, inl, inr, cases_eq, cases_lt, cases_Bool, eq-eqb, ne_eqb, lt-ltb, le-ltb, xor, Chain, numbers, difference, has, primal, Split, IsSplit, signature, IsJoined, edge_between, in_tree, edge_between_is, joins_ends, Mesh, ends, IsSurface, edge_length, cells_of, edge_signature, bit_at_above, number_of, add_zero, up_in_tree, down_tree}
use Rattle.surf_z2.proofs.Below.{below_law, same_from, same_from_has, number_of-none, number_of-sum}
use Rattle.surf_graphs.proofs.CellLaws.{left_once}
use Rattle.surf_surfaces.proofs.meshes.CellLaws.{surfaces_are_cells}
use Rattle.surf_classes.specs.Cover.{IsSet}
use Rattle.surf_classes.specs.ShortestLaws.{SignedDistancesExist}
use Rattle.surf_classes.proofs.SignedWalks.{turned, goes_over, goes-append}
use Rattle.surf_classes.proofs.Rounds.{Signed, turn}
use Rattle.surf_classes.proofs.SignedSteps.{nearest_exists, nearest_to}

-- a walk of some length with a signature
pub record Way (mesh : Mesh) (lengths : List ℕ) (d : Split) (a b s : ℕ) : Type 0 where
  pub walk : List ℕ
  pub size : ℕ
  pub goes : Signed mesh lengths d a walk b size s

module _ (mesh : Mesh) (lengths : List ℕ) (d : Split) (surface : IsSurface mesh) (split : IsSplit (cells_of mesh) d) where
  way_same : (a b s t : ℕ) → Way mesh lengths d a b s → s ≡ t → Way mesh lengths d a b t
  way_same a b s t w same = subst (Way mesh lengths d a b) same w

  way_none : (a : ℕ) → Way mesh lengths d a a 0
  way_none a = record { walk = []; size = 0; goes = record { walk = refl; size = refl; sum = refl } }

  way-append : (a b c s t : ℕ) → Way mesh lengths d a b s → Way mesh lengths d b c t →
      Way mesh lengths d a c (bit_xor s t)
  way-append a b c s t p q = record {
    walk = p.walk ++ q.walk;
    size = p.size + q.size;
    goes = goes-append (primal (cells_of mesh)) (edge_length lengths) (edge_signature mesh d) a p.walk b q.walk c p.size
        q.size s t p.goes q.goes;
  }

  -- over an edge
  way_over : (a b e : ℕ) → (j : IsJoined (primal (cells_of mesh)) a b) → edge_between (primal (cells_of mesh)) a b ≡ e →
      Way mesh lengths d a b (edge_signature mesh d e)
  way_over a b e j is =
      let over = goes_over (primal (cells_of mesh)) (edge_length lengths) (edge_signature mesh d) a b [] b 0 0 j
      (record { walk = refl; size = refl; sum = refl }) in
      way_same a b (bit_xor (edge_signature mesh d (edge_between (primal (cells_of mesh)) a b)) 0) (edge_signature mesh d e)
      (record { walk = b ∷ []; size = edge_length lengths (edge_between (primal (cells_of mesh)) a b) + 0; goes = over })
      (add_zero numbers (edge_signature mesh d (edge_between (primal (cells_of mesh)) a b)) ∙ ap (edge_signature mesh d) is)

  way_turned : (a b s : ℕ) → Way mesh lengths d a b s → Way mesh lengths d b a s
  way_turned a b s w = record {
    walk = turned a w.walk;
    size = w.size;
    goes = turn mesh lengths d surface a w.walk b w.size s w.goes;
  }

  -- an edge of the tree has no signature
  tree_none : (e : ℕ) → in_tree (primal (cells_of mesh)) d.tree e ≡ true → edge_signature mesh d e ≡ 0
  tree_none e on = same_from (length d.left) (signature (cells_of mesh) d e) (λ k. false) (λ k l. rw on)
      ∙ number_of-none (length d.left)

  pub between_one : (a b e : ℕ) → (j : IsJoined (primal (cells_of mesh)) a b) → j.0 ≡ e →
      edge_between (primal (cells_of mesh)) a b ≡ e
  between_one a b e j is =
      let g = primal (cells_of mesh) in
      let there = edge_between_is g a b j in
      (surfaces_are_cells mesh surface).one_edge a b (edge_between g a b) j.0 there.0 j.1 there.1 j.2 ∙ is

  -- up the tree
  way_up : (n : ℕ) → n < mesh.vertices → Way mesh lengths d n d.tree.root 0
  way_up = down_tree (primal (cells_of mesh)) d.tree split.tree_is (λ n. Way mesh lengths d n d.tree.root 0)
      (way_none d.tree.root)
      (λ n l ne above.
      let p = d.tree.parent n in
      let e = d.tree.up n in
      let j : IsJoined (primal (cells_of mesh)) n p = (e, split.tree_is.up_in n l ne, split.tree_is.up_joins n l ne) in
      way_same n d.tree.root (bit_xor (edge_signature mesh d e) 0) 0
      (way-append n p d.tree.root (edge_signature mesh d e) 0 (way_over n p e j (between_one n p e j refl)) above)
      (add_zero numbers (edge_signature mesh d e) ∙ tree_none e (up_in_tree (primal (cells_of mesh)) d.tree n l ne)))

  -- round the loop of a left edge
  way_round : (k : ℕ) → k < length d.left →
      Way mesh lengths d d.tree.root d.tree.root (edge_signature mesh d (get_or d.left k 0))
  way_round k l =
      let g = primal (cells_of mesh) in
      let e = get_or d.left k 0 in
      let r = d.tree.root in
      let a = (ends mesh e).0 in
      let b = (ends mesh e).1 in
      let sig = edge_signature mesh d e in
      let both = (surfaces_are_cells mesh surface).complex.primal_ends e (split.left_in k l) in
      let j : IsJoined g a b = (e, split.left_in k l, joins_ends g e) in
      way_same r r (bit_xor 0 (bit_xor sig 0)) sig
      (way-append r a r 0 (bit_xor sig 0) (way_turned a r 0 (way_up a both.0))
      (way-append a b r sig 0 (way_over a b e j (between_one a b e j refl)) (way_up b both.1)))
      (numbers.unit (bit_xor sig 0) ∙ add_zero numbers sig)

  -- the signature of the j-th left edge
  left_bit : (j k : ℕ) → j < length d.left → k < length d.left →
      signature (cells_of mesh) d (get_or d.left j 0) k ≡ eqb k j
  left_bit j k lj lk =
      let e = get_or d.left j 0 in
      let one : in_tree (primal (cells_of mesh)) d.tree e ≡ false = split.left_outside j lj in
      let two = split.left_outside_dual j lj in
      rw (one, two) (elim (cases_eq k j) [
        | inl same ↦ eq-eqb (get_or d.left k 0) e (ap (λ i. get_or d.left i 0) same) ∙ sym (eq-eqb k j same)
        | inr ne ↦ ne_eqb (get_or d.left k 0) e (λ same. ne (left_once (cells_of mesh) d split k j lk lj same))
            ∙ sym (ne_eqb k j ne)
      ])

  -- the members of a set below j
  abbrev below : Chain → ℕ → Chain
  below t j k = ltb k j && t k

  one_more : (t : Chain) (j k : ℕ) → t j ≡ true → xor (eqb k j) (below t j k) ≡ below t (suc j) k
  one_more t j k on = elim (cases_eq k j) [
    | inl same ↦
        let under : k < suc j = omega arith in
        let not_under : j ≤ k = omega arith in
        let on_k : t k ≡ true = ap t same ∙ on in
        rw (eq-eqb k j same, le-ltb k j not_under, lt-ltb k (suc j) under, on_k) refl
    | inr ne ↦ elim (cases_lt k j) [
      | inl under ↦ rw (ne_eqb k j ne, lt-ltb k j under, lt-ltb k (suc j) (omega arith)) refl
      | inr above ↦ rw (ne_eqb k j ne, le-ltb k j above, le-ltb k (suc j) (omega arith)) refl
    ]
  ]

  no_more : (t : Chain) (j k : ℕ) → t j ≡ false → below t j k ≡ below t (suc j) k
  no_more t j k off = elim (cases_eq k j) [
    | inl same ↦
        let under : k < suc j = omega arith in
        let not_under : j ≤ k = omega arith in
        let off_k : t k ≡ false = ap t same ∙ off in
        rw (le-ltb k j not_under, lt-ltb k (suc j) under, off_k) refl
    | inr ne ↦ elim (cases_lt k j) [
      | inl under ↦ rw (lt-ltb k j under, lt-ltb k (suc j) (omega arith)) refl
      | inr above ↦ rw (le-ltb k j above, le-ltb k (suc j) (omega arith)) refl
    ]
  ]

  way_set : (t : Chain) (j : ℕ) → j ≤ length d.left →
      Way mesh lengths d d.tree.root d.tree.root (number_of (length d.left) (below t j))
  way_set t zero l =
      let n = length d.left in
      way_same d.tree.root d.tree.root 0 (number_of n (below t zero)) (way_none d.tree.root)
      (sym (same_from n (below t zero) (λ k. false) (λ k lk. rw (le-ltb k 0 (omega arith)) refl) ∙ number_of-none n))
  way_set t (suc j) l =
      let n = length d.left in
      let r = d.tree.root in
      let rest = way_set t j (omega arith) in
      elim (cases_Bool (t j)) [
        | inr off ↦ way_same r r (number_of n (below t j)) (number_of n (below t (suc j))) rest
            (same_from n (below t j) (below t (suc j)) (λ k lk. no_more t j k off))
        | inl on ↦
            let e = get_or d.left j 0 in
            let sig : Chain = signature (cells_of mesh) d e in
            way_same r r (bit_xor (number_of n sig) (number_of n (below t j))) (number_of n (below t (suc j)))
            (way-append r r r (number_of n sig) (number_of n (below t j)) (way_round j (omega arith)) rest)
            (sym (number_of-sum n sig (below t j))
            ∙ same_from n (difference sig (below t j)) (below t (suc j))
            (λ k lk. ap (λ b. xor b (below t j k)) (left_bit j k (omega arith) lk) ∙ one_more t j k on))
      ]

  set_number : (s : ℕ) → IsSet d s → number_of (length d.left) (below (has s) (length d.left)) ≡ s
  set_number s is_set =
      let n = length d.left in
      same_from_has (number_of n (below (has s) n)) s (λ k. elim (cases_lt k n) [
        | inl under ↦ below_law.member n (below (has s) n) k under ∙ ap (λ b. b && has s k) (lt-ltb k n under)
        | inr above ↦ below_law.no_member n (below (has s) n) k above
            ∙ sym (ap (λ b. eqb b 1) (bit_at_above s n k is_set above))
      ])

  pub way_to : (x v s : ℕ) → x < mesh.vertices → v < mesh.vertices → IsSet d s → Way mesh lengths d v x s
  way_to x v s x_in v_in is_set =
      let n = length d.left in
      let r = d.tree.root in
      let t = number_of n (below (has s) n) in
      way_same v x (bit_xor 0 (bit_xor t 0)) s
      (way-append v r x 0 (bit_xor t 0) (way_up v v_in)
      (way-append r r x t 0 (way_set (has s) n (omega arith)) (way_turned x r 0 (way_up x x_in))))
      (numbers.unit (bit_xor t 0) ∙ add_zero numbers t ∙ set_number s is_set)

pub signed_distances_exist : SignedDistancesExist
signed_distances_exist mesh lengths d surface positive split x v s x_in v_in is_set =
    let way = way_to mesh lengths d surface split x v s x_in v_in is_set in
    let (m, near) = nearest_exists mesh lengths d surface positive x v s way.size way.walk way.goes in
    (m, nearest_to mesh lengths d surface x v s m x_in near)
