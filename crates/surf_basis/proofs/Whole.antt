-- What is known when all bases were gone through.
use Rattle.surf_basis.proofs.Common.{LoopTables, IsGreedy, Cycle, AreBases, AreCyclesOf, AreKeptOver, AreOffered, IsOffered, independent_of, lengths_at, signed_earlier, slice_index, ◌+◌, HasBases, as_loops, IsTheBasis, ◌≡◌, ℕ, ◌<◌, List, [], length, get_or, map, All, refl, sym, ap, ◌∙◌, subst, arith, range_with_len, IsSplit, Tree, Mesh, edge_count, ends, IsSurface, ArePositive, cells_of, IsLoopCount, loop_length, IsShortestTree, IsChosenBasis, edge_signature, LeastSimpleBasis, basis_is_least, choice_exists, shortest_trees_are_one, ends_in, CotreeTables, SignTables, signs_of, split_with, Signed, IsMeasured, HavePlacesOfBasis, AreSigned}
use Rattle.surf_search.proofs.Common.{IfOk, Loop, merge}
use Rattle.std.proofs.Common.{Result, Ok, Err}
use Rattle.surf_basis.proofs.Looped.{empty_basis}
use Rattle.surf_basis.proofs.Kept.{cycles_basis, kept_more}

-- two clauses on one answer
pub both_hold : {X E : Type 0} (r : Result X E) (P Q : X → Type 0) → IfOk r P → IfOk r Q → IfOk r (λ x. P x × Q x)
both_hold (Ok x) P Q p q = (p, q)
both_hold (Err e) P Q p q = tt

-- how many edges are left is 2 − χ
pub left_full : (mesh : Mesh) (lengths : List ℕ) (base : ℕ) (t : LoopTables) (cotree : CotreeTables) (left : List ℕ) → IsGreedy mesh lengths base t →
    cotree ≡ t.cotree → left ≡ cotree.left → IsLoopCount mesh (length left)
left_full mesh lengths base t cotree left g same is =
    let count = g.cotree.count in
    let e : length left ≡ length t.cotree.left = ap (λ (xs : List ℕ). length xs) (is ∙ ap (λ (c : CotreeTables). c.left) same) in
    omega (arith, count, e)

-- a desk that was signed has the signatures by its trees
pub desk_signed : (mesh : Mesh) (lengths : List ℕ) (base : ℕ) (t new : LoopTables) (before after : CotreeTables) (left : List ℕ) (width : ℕ) →
    IsGreedy mesh lengths base t → before ≡ t.cotree → left ≡ before.left → width ≡ length left →
    new ≡ record t { cotree = record t.cotree { signatures = new.cotree.signatures } } →
    ((tree : Tree) → IsSplit (cells_of mesh) (split_with tree new.cotree) →
    new.cotree.signatures ≡ map (edge_signature mesh (split_with tree new.cotree)) (range_with_len 0 (edge_count mesh))) →
    after ≡ new.cotree → AreSigned mesh (signs_of after) width
desk_signed mesh lengths base t new before after left width g old is_left wide rest signed same =
    let tree = g.grown.tree in
    let split_is : split_with tree new.cotree ≡ split_with tree t.cotree = ap (λ (x : LoopTables). split_with tree x.cotree) rest in
    let split = subst (IsSplit (cells_of mesh)) (sym split_is) g.grown.split in
    let left_is : length new.cotree.left ≡ length left =
    ap (λ (x : LoopTables). length x.cotree.left) rest ∙ ap (λ (c : CotreeTables). length c.left) (sym old) ∙ ap (λ (xs : List ℕ). length xs) (sym is_left) in
    subst (λ s. AreSigned mesh (signs_of s) width) (sym same) (record {
      split = split_with tree new.cotree;
      is_split = split;
      count = left_is ∙ sym wide;
      signatures = signed tree split;
    })

-- the edges that are left, as they are lent, are as many
pub left_count : (mesh : Mesh) (t : SignTables) (left : List ℕ) → IsLoopCount mesh (length t.left) → left ≡ t.left → IsLoopCount mesh (length left)
left_count mesh t left full is = subst (λ (xs : List ℕ). IsLoopCount mesh (length xs)) (sym is) full

-- a loop is as long by all trees of shortest walks
length_same : (mesh : Mesh) (lengths : List ℕ) → IsSurface mesh → ArePositive mesh lengths → (base : ℕ) (a b : Tree) →
    IsShortestTree mesh lengths base a → IsShortestTree mesh lengths base b → (e : ℕ) → e < edge_count mesh →
    loop_length mesh lengths a e ≡ loop_length mesh lengths b e
length_same mesh lengths surface positive base a b x y e e_in =
    let same = shortest_trees_are_one mesh lengths base a b surface positive x y in
    let (u_in, v_in) = ends_in mesh surface e e_in in
    rw (same.ranks (ends mesh e).0 u_in, same.ranks (ends mesh e).1 v_in) refl

module _ (mesh : Mesh) (lengths : List ℕ) (surface : IsSurface mesh) (positive : ArePositive mesh lengths) where
  pub least_of : (basis : List Loop) → IsTheBasis mesh lengths basis → LeastSimpleBasis mesh lengths basis
  least_of basis is =
      let (trees, chosen) = choice_exists mesh lengths surface positive in
      basis_is_least mesh lengths trees basis surface positive chosen (is trees chosen)

  pub none_basis : (cycles : List Cycle) → cycles ≡ [] → IsLoopCount mesh 0 → IsTheBasis mesh lengths (as_loops cycles)
  none_basis cycles none full trees chosen =
      subst (λ ys. IsChosenBasis mesh lengths trees (as_loops ys)) (sym none) (empty_basis mesh lengths trees surface positive chosen full)

  -- what is kept after one more base
  pub kept_over : (s : SignTables) (found : List Signed) (bases : List ℕ) (done base : ℕ) (some : List ℕ) (offered kept next : List Signed) →
      AreBases mesh bases → HasBases bases found → done < length bases → slice_index bases done ≡ base → some ≡ lengths_at found base →
      AreOffered mesh lengths s some base offered → AreKeptOver mesh lengths s found bases done kept →
      next ≡ independent_of (merge signed_earlier kept offered) → AreKeptOver mesh lengths s found bases (done + 1) next
  kept_over s found bases done base some offered kept next are has l at same o k is trees chosen d split signs =
      kept_more mesh lengths trees surface positive chosen d split found bases done base offered kept next are has l at
      (subst (λ ls. IsOffered mesh lengths trees d ls base offered) same (o trees chosen d split signs)) (k trees chosen d split signs) is

  module _ (s : SignTables) (width : ℕ) (signed : AreSigned mesh s width) where
    -- the lengths of those kept are those of their loops
    pub all_measured : (found : List Signed) (bases : List ℕ) (done : ℕ) (kept list : List Signed) →
        AreKeptOver mesh lengths s found bases done kept → list ≡ kept → All (λ c. IsMeasured mesh lengths c.candidate) list
    all_measured found bases done kept list k same =
        let (trees, chosen) = choice_exists mesh lengths surface positive in
        let each = (k trees chosen signed.split signed.is_split signed.signatures).signed in
        let measured : All (λ c. IsMeasured mesh lengths c.candidate) kept = λ i c l.
        (let r = each i c l in
        let b = (get_or kept i c).candidate.base in
        let e = (get_or kept i c).candidate.edge in
        record {
          base_in = r.base_in;
          edge_in = r.edge_in;
          size = λ tree short.
              r.size ∙ length_same mesh lengths surface positive b (trees b).tree tree (chosen b r.base_in).shortest short e r.edge_in;
        }) in
        subst (All (λ c. IsMeasured mesh lengths c.candidate)) (sym same) measured

    pub the_basis : (found : List Signed) (bases : List ℕ) (kept list : List Signed) (cycles : List Cycle) → HasBases bases found →
        HavePlacesOfBasis mesh lengths found → AreKeptOver mesh lengths s found bases (length bases) kept → list ≡ kept →
        AreCyclesOf mesh lengths list cycles → IsTheBasis mesh lengths (as_loops cycles)
    the_basis found bases kept list cycles has have k same are trees chosen =
        cycles_basis mesh lengths trees surface positive chosen signed.split signed.is_split found bases kept cycles has have
        (k trees chosen signed.split signed.is_split signed.signatures)
        (subst (λ cs. AreCyclesOf mesh lengths cs cycles) same are)
