-- What a signed tree of faces has, and the steps of a walk from a place on.
use Rattle.surf_cotree.proofs.Common.{◌≡◌, ℕ, suc, ◌+◌, ◌^◌, ◌<◌, ◌≤◌, List, ◌∷◌, length, get_or, slice_index, drop, map, All, sym, ap, ◌∙◌, subst, arith, range_with_len, pow-le-pow_right, get_or-map-range_with_len, length-map-range_with_len, IsSplit, Tree, left_edges, Mesh, steps, edge_count, face_count, loop_count, cells_of, edge_signature, drop-cons, IsGrownOn, AreCotreeTables, parent_edge_of, CotreeTables, split_with}
use Rattle.surf_cover.proofs.Common.{set_count, edge_set, sets_of, IsSigned}

module _ (mesh : Mesh) (t : CotreeTables) (signed : IsSigned mesh t) where
  -- there are as many left edges as loops
  pub sets_are : (tree : Tree) → IsSplit (cells_of mesh) (split_with tree t) → sets_of mesh ≡ set_count (split_with tree t)
  sets_are tree split =
      let count : length t.left + (mesh.vertices + face_count mesh) ≡ edge_count mesh + 2 = left_edges (cells_of mesh) (split_with tree t) split in
      let same : loop_count mesh ≡ length t.left = omega arith in
      ap (λ n. 2 ^ n) same

  pub sign_is : (tree : Tree) → IsSplit (cells_of mesh) (split_with tree t) → (e : ℕ) → e < edge_count mesh →
      slice_index t.signatures e ≡ edge_signature mesh (split_with tree t) e
  sign_is tree split e l =
      ap (λ (xs : List ℕ). get_or xs e 0) (signed.signatures tree split)
      ∙ get_or-map-range_with_len (edge_signature mesh (split_with tree t)) 0 (edge_count mesh) e e 0 l (omega arith)

  pub sign_count : length t.signatures ≡ edge_count mesh
  sign_count =
      ap (λ (xs : List ℕ). length xs) (signed.signatures signed.grown.tree signed.grown.split)
      ∙ length-map-range_with_len (edge_signature mesh (split_with signed.grown.tree t)) 0 (edge_count mesh)

  pub sign_small : loop_count mesh ≤ 16 → (e : ℕ) → e < edge_count mesh → slice_index t.signatures e < 65536
  sign_small few e l =
      let tree = signed.grown.tree in
      let split = signed.grown.split in
      let below : edge_signature mesh (split_with tree t) e < set_count (split_with tree t) = edge_set mesh (split_with tree t) e in
      let same = sets_are tree split in
      let most : sets_of mesh ≤ 2 ^ 16 = pow-le-pow_right {n = 2} (omega arith) few in
      let is = sign_is tree split e l in
      omega (arith, below, same, most, is)

-- a list from a place on begins with the step there
pub steps_on : (list : List ℕ) (i : ℕ) → i + 1 < length list →
    steps (drop i list) ≡ (get_or list i 0, get_or list (i + 1) 0) ∷ steps (drop (i + 1) list)
steps_on list i l =
    let one : i + 1 ≡ suc i = omega arith in
    let here : drop i list ≡ get_or list i 0 ∷ drop (suc i) list = drop-cons list i 0 (omega (arith, l)) in
    let next : drop (suc i) list ≡ get_or list (suc i) 0 ∷ drop (suc (suc i)) list = drop-cons list (suc i) 0 (omega (arith, l)) in
    let u = get_or list i 0 in
    ap steps (here ∙ ap (λ (r : List ℕ). u ∷ r) next)
    ∙ ap (λ (r : List ℕ). (u, get_or list (suc i) 0) ∷ steps r) (sym next)
    ∙ ap (λ n. (u, get_or list n 0) ∷ steps (drop n list)) (sym one)

-- what holds of each item holds of the first, and of each of the others
pub all_first : {X : Type 0} (P : X → Type 0) (x : X) (xs : List X) → All P (x ∷ xs) → P x
all_first P x xs h = h 0 x (omega arith)

pub all_others : {X : Type 0} (P : X → Type 0) (x : X) (xs : List X) → All P (x ∷ xs) → All P xs
all_others P x xs h k d l = h (suc k) d (omega arith)

-- tables that were grown on the mesh and then signed
pub signed_after : (mesh : Mesh) (old new : CotreeTables) → IsGrownOn mesh old →
    new ≡ record old { signatures = new.signatures } → AreCotreeTables mesh new →
    ((tree : Tree) → IsSplit (cells_of mesh) (split_with tree new) →
    new.signatures ≡ map (edge_signature mesh (split_with tree new)) (range_with_len 0 (edge_count mesh))) → IsSigned mesh new
signed_after mesh old new grown rest made signed = record {
  grown = record {
    made = made;
    root = ap (λ (c : CotreeTables). parent_edge_of c 0) rest ∙ grown.root;
    tree = grown.tree;
    split = subst (IsSplit (cells_of mesh)) (sym (ap (λ (c : CotreeTables). split_with grown.tree c) rest)) grown.split;
  };
  signatures = signed;
}
