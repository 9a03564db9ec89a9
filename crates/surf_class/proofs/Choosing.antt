-- The chosen evidence.
use Rattle.surf_cert.proofs.Common.{◌≡◌, ℕ, ◌<◌, Bool, true, false, List, length, get_or, map, filter, Option, refl, sym, ap, ◌∙◌, subst, arith, unwrap_or, range_with_len, Chain, has, dual, chain_signature, signature, IsSplit, Tree, signature_of, Mesh, face_count, edge_count, ends, IsSurface, cells_of, edge_signature, leaves_joined, IsBoundary, boundary, below_law, surfaces_are_cells}
use Rattle.surf_class.proofs.Common.{xor_comm, CotreeTables, split_with, cotree_of, AreFlags, has_left, passing_same, joint_parity, AreClosed, IsChosenNull, IsChosenOdd, is_listed, odd_choice_is_filtered, joint_even, IsParted, AreAllSidesOf, differs, is_inside}
use Rattle.surf_z2.specs.Parity.{xor}
use Rattle.surf_graphs.proofs.Trees.{along, along_root, along_step}
use Rattle.surf_classes.proofs.NullChoice.{null_choice_is_filtered, null_choice_is_one}
use Rattle.surf_graphs.proofs.CellLaws.{signature_null, signature_is, chain_signature_is}

module _ (mesh : Mesh) (surface : IsSurface mesh) (tree : Tree) (t : CotreeTables) (split : IsSplit (cells_of mesh) (split_with tree t))
    (walk : List ℕ) (other : Option (List ℕ)) (closed : AreClosed mesh walk other) (flags : List Bool)
    (are : AreFlags (edge_count mesh) (joint_parity mesh walk other) flags) where
  -- the faces with an odd number of flagged edges on their way to face 0
  pub odd_ways : ℕ → Bool
  odd_ways = along (dual (cells_of mesh)) (cotree_of t) (joint_parity mesh walk other)

  pub ways_part : IsParted mesh t flags odd_ways
  unfolding odd_ways
  ways_part =
      let g = dual (cells_of mesh) in
      let chain = joint_parity mesh walk other in
      record {
        without_first = along_root g (cotree_of t) chain;
        parts = λ f l ne.
            let up = get_or t.ups f 0 in
            let above = along g (cotree_of t) chain (get_or t.parents f 0) in
            along_step g (cotree_of t) split.cotree_is chain f l ne ∙ xor_comm (chain up) above
            ∙ ap (xor above) (sym (are.each up (split.cotree_is.up_in f l ne)));
      }

  -- at a left edge the faces differ from the walks where their signature has its place
  at_left : (k : ℕ) → k < length t.left → differs mesh flags odd_ways (get_or t.left k 0) ≡ chain_signature (cells_of mesh) (split_with tree t) (joint_parity mesh walk other) k
  unfolding odd_ways
  at_left k l =
      let s = cells_of mesh in
      let d = split_with tree t in
      let chain = joint_parity mesh walk other in
      let edge = get_or t.left k 0 in
      ap (λ b. xor b (boundary mesh (along (dual s) (cotree_of t) chain) edge)) (are.each edge (split.left_in k l))
      ∙ sym (chain_signature_is s d (surfaces_are_cells mesh surface).complex split chain k l)

  at_place : (k : ℕ) → k < length t.left → has (signature_of (cells_of mesh) (split_with tree t) (joint_parity mesh walk other)) k ≡ differs mesh flags odd_ways (get_or t.left k 0)
  at_place k l =
      below_law.member (length t.left) (chain_signature (cells_of mesh) (split_with tree t) (joint_parity mesh walk other)) k l
      ∙ sym (at_left k l)

  -- the edges whose signature has the place of a left edge
  with_place : (k e : ℕ) → k < length t.left → e < edge_count mesh →
      has_left (dual (cells_of mesh)) (cotree_of t) (get_or t.left k 0) e ≡ has (edge_signature mesh (split_with tree t) e) k
  with_place k e l le =
      let s = cells_of mesh in
      let d = split_with tree t in
      sym (below_law.member (length t.left) (signature s d e) k l
      ∙ signature_is s d (surfaces_are_cells mesh surface).complex split e k le l)

  pub odd_chosen : (k : ℕ) (pairs : List (ℕ × ℕ)) → k < length t.left → differs mesh flags odd_ways (get_or t.left k 0) ≡ true →
      ((j : ℕ) → j < k → differs mesh flags odd_ways (get_or t.left j 0) ≡ false) →
      pairs ≡ map (ends mesh) (filter (has_left (dual (cells_of mesh)) (cotree_of t) (get_or t.left k 0)) (range_with_len 0 (edge_count mesh))) →
      IsChosenOdd mesh (split_with tree t) (joint_parity mesh walk other) pairs
  odd_chosen k pairs l on least is =
      let d = split_with tree t in
      let E = edge_count mesh in
      let parting = has_left (dual (cells_of mesh)) (cotree_of t) (get_or t.left k 0) in
      let same : filter parting (range_with_len 0 E) ≡ filter (λ e. has (edge_signature mesh d e) k) (range_with_len 0 E) =
      passing_same parting (λ e. has (edge_signature mesh d e) k) 0 E (λ e le. with_place k e l (omega (arith, le))) in
      subst (λ (ps : List (ℕ × ℕ)). IsChosenOdd mesh d (joint_parity mesh walk other) ps) (sym (is ∙ ap (map (ends mesh)) same))
      (odd_choice_is_filtered mesh d (joint_parity mesh walk other) k (at_place k l ∙ on)
      (λ j lj. at_place j (omega (arith, lj, l)) ∙ least j lj))

  -- where they differ at no left edge, the chain is a boundary
  pub bounds_something : ((k : ℕ) → k < length t.left → differs mesh flags odd_ways (get_or t.left k 0) ≡ false) →
      IsBoundary mesh (joint_parity mesh walk other)
  bounds_something none =
      signature_null (cells_of mesh) (split_with tree t) (surfaces_are_cells mesh surface).complex split
      (joint_parity mesh walk other) (joint_even mesh surface walk other closed) (λ k l. sym (at_left k l) ∙ none k l)

module _ (mesh : Mesh) (surface : IsSurface mesh) (tree : Tree) (t : CotreeTables) (split : IsSplit (cells_of mesh) (split_with tree t))
    (chain : Chain) (flags : List Bool) (are : AreFlags (edge_count mesh) chain flags) (some : IsBoundary mesh chain) where
  pub inside : ℕ → Bool
  inside = is_listed (null_choice_is_one mesh surface chain some).0

  chosen : IsChosenNull mesh chain (null_choice_is_one mesh surface chain some).0
  chosen = (null_choice_is_one mesh surface chain some).1

  pub is_parted : IsParted mesh t flags inside
  unfolding inside
  is_parted =
      let is_tree = split.cotree_is in
      record {
        without_first = chosen.without_first;
        parts = λ f l ne.
            let e = get_or t.ups f 0 in
            let p = get_or t.parents f 0 in
            let in' = is_tree.up_in f l ne in
            let edge : chain e ≡ xor (inside f) (inside p) =
            sym (chosen.evidence.bounds e in') ∙ leaves_joined (dual (cells_of mesh)) inside f p e (is_tree.up_joins f l ne) in
            other_side (inside f) (inside p) (get_or flags e false) (are.each e in' ∙ edge);
      }
    where
      other_side : (a b c : Bool) → c ≡ xor a b → a ≡ xor b c
      other_side true true c is = rw is refl
      other_side true false c is = rw is refl
      other_side false true c is = rw is refl
      other_side false false c is = rw is refl

  pub null_chosen : (sides : List (Option Bool)) (faces : List ℕ) → length sides ≡ face_count mesh → AreAllSidesOf inside sides →
      faces ≡ filter (is_inside sides) (range_with_len 0 (face_count mesh)) → IsChosenNull mesh chain faces
  unfolding inside
  null_chosen sides faces count all is =
      let F = face_count mesh in
      let same : filter (is_inside sides) (range_with_len 0 F) ≡ filter inside (range_with_len 0 F) =
      passing_same (is_inside sides) inside 0 F (λ f l. ap (λ (o : Option Bool). unwrap_or o false) (all f (omega (arith, l, count)))) in
      subst (λ (fs : List ℕ). IsChosenNull mesh chain fs) (sym (is ∙ same))
      (null_choice_is_filtered mesh surface chain inside (λ e l. chosen.evidence.bounds e l) chosen.without_first)

  pub null_found : (sides lent : List (Option Bool)) (faces : List ℕ) → lent ≡ sides → length sides ≡ face_count mesh →
      ((set : ℕ → Bool) → IsParted mesh t flags set → AreAllSidesOf set sides) →
      faces ≡ filter (is_inside lent) (range_with_len 0 (face_count mesh)) → IsChosenNull mesh chain faces
  null_found sides lent faces same count all is =
      null_chosen sides faces count (all inside is_parted)
      (is ∙ ap (λ (xs : List (Option Bool)). filter (is_inside xs) (range_with_len 0 (face_count mesh))) same)
