-- Which chains are independent, by their signatures, and which lists of closed walks are least.
use Rattle.std.proofs.Common.{◌≡◌, ℕ, zero, suc, ◌+◌, ◌^◌, ◌<◌, ◌≤◌, Bool, cond, true, false, ◌&&◌, List, [], ◌∷◌, length, map, get_or, sum, leb, bit_xor, refl, sym, ◌∙◌, ap, subst, arith, le_trans, All}
use Rattle.surf_z2.proofs.Common.{AllByRecursion, le-leb, leb-true, recursion_from_All, All-from_recursion, xor, odd_below}
use Rattle.std.proofs.lemmas.List.{length-map, get_or-map}
use Rattle.std.proofs.lemmas.Simd.{map-map}
use Rattle.surf_z2.specs.Space.{Chain, chains, numbers, chosen, difference, sum_of, Spanned, Independent, Weighed, weights, vectors, up_to, SpannedUpToWeight, IsLinear}
use Rattle.surf_z2.proofs.ParityLaws.{odd_below-same, odd_below-none, odd_below-xor-and}
use Rattle.surf_z2.proofs.Below.{chosen-map, map_nil, same_from, same_below, number_of-none, number_of-sum, small}
use Rattle.surf_z2.proofs.Linear.{sum_over, over_in, passing_in, chosen_over, chosen_none, linear-sum_of, linear-sum_over, sum_over-at}
use Rattle.surf_z2.proofs.Ranks.{in_wider, total_law}
use Rattle.surf_z2.proofs.Span.{InSpan, same_from_sum, in_from_spanned, spanned_from_in}
use Rattle.surf_z2.proofs.Width.{width_law}
use Rattle.surf_graphs.specs.Graphs.{Graph, IsEven, IsGraphWalk, walk_chain, graph_walk_length}
use Rattle.surf_graphs.specs.Trees.{Tree, loop, IsShortest, graph_loop_length}
use Rattle.surf_graphs.specs.Cells.{Cells, primal, IsCellComplex, IsNullChain, Split, IsSplit, IsHeaviest, signature, chain_signature}
use Rattle.surf_graphs.specs.Independence.{AreIndependentChains, signature_of, signed, loop_chain, left_loops, IsCovering, IsClosedWalk, closed_walk}
use Rattle.surf_graphs.proofs.Graphs.{walk_even, even-xor}
use Rattle.surf_graphs.proofs.CellLaws.{null_signature, signature_null}
use Rattle.surf_graphs.proofs.Lengths.{loop_bound, loop_signature, sum_of_left, shorter_left}
use Rattle.surf_graphs.proofs.Trees.{sum_of_loops}

module _ (s : Cells) (d : Split) where
  -- the signature of a sum is the sum of the signatures
  pub signature_of-linear : IsLinear chains numbers (signature_of s d)
  signature_of-linear = record {
    zero = same_from (length d.left) (chain_signature s d (λ e. false)) (λ k. false)
        (λ k l. odd_below-none s.edges (λ e. false) (λ e h. refl)) ∙ number_of-none (length d.left);
    add = λ x y. same_from (length d.left) (chain_signature s d (λ e. xor (x e) (y e)))
        (λ k. xor (chain_signature s d x k) (chain_signature s d y k))
        (λ k l. odd_below-xor-and s.edges x y (λ e. signature s d e k))
        ∙ number_of-sum (length d.left) (chain_signature s d x) (chain_signature s d y);
  }

  -- chains with the same edges have the same signature
  pub signature_of-same : (x y : Chain) → ((e : ℕ) → e < s.edges → x e ≡ y e) → signature_of s d x ≡ signature_of s d y
  signature_of-same x y same = same_from (length d.left) (chain_signature s d x) (chain_signature s d y)
      (λ k l. odd_below-same s.edges (λ e. x e && signature s d e k) (λ e. y e && signature s d e k)
      (λ e h. ap (λ b. b && signature s d e k) (same e h)))

  pub over_signature : (n : ℕ) (set : ℕ → Bool) (v : ℕ → Chain) (k : ℕ) →
      chain_signature s d (sum_over chains n set v) k ≡ odd_below n (λ i. set i && chain_signature s d (v i) k)
  over_signature zero set v k = odd_below-none s.edges (λ e. false) (λ e l. refl)
  over_signature (suc n) set v k = split (set n) (over_signature n set v k)
    where
      split : (b : Bool) → chain_signature s d (sum_over chains n set v) k
          ≡ odd_below n (λ i. set i && chain_signature s d (v i) k) →
          chain_signature s d (cond b (λ e. xor (v n e) (sum_over chains n set v e)) (sum_over chains n set v)) k
          ≡ xor (b && chain_signature s d (v n) k) (odd_below n (λ i. set i && chain_signature s d (v i) k))
      split true h = odd_below-xor-and s.edges (v n) (sum_over chains n set v) (λ e. signature s d e k) ∙ ap
          (xor (chain_signature s d (v n) k)) h
      split false h = h

pub even_zero : (g : Graph) → IsEven g (λ e. false)
even_zero g n l = odd_below-none g.edges (λ e. false) (λ e h. refl)

-- a sum of even chains is even
pub even_chosen : (g : Graph) (choice : List Bool) (xs : List Chain) → AllByRecursion (IsEven g) xs →
    IsEven g (sum_of chains (chosen choice xs))
even_chosen g [] xs h = even_zero g
even_chosen g (b ∷ bs) [] h = even_zero g
even_chosen g (true ∷ bs) (x ∷ xs) h = even-xor g x (sum_of chains (chosen bs xs)) h.0 (even_chosen g bs xs h.1)
even_chosen g (false ∷ bs) (x ∷ xs) h = even_chosen g bs xs h.1

module _ (s : Cells) (d : Split) (cells : IsCellComplex s) (ok : IsSplit s d) where
  pub null_zero : (x : Chain) → IsNullChain s x → signature_of s d x ≡ 0
  null_zero x null = same_from (length d.left) (chain_signature s d x) (λ k. false) (null_signature s d cells ok x null)
      ∙ number_of-none (length d.left)

  pub zero_null : (x : Chain) → IsEven (primal s) x → signature_of s d x ≡ 0 → IsNullChain s x
  zero_null x even zero_is =
      signature_null s d cells ok x even
      (same_below (length d.left) (chain_signature s d x) (λ k. false) (zero_is ∙ sym (number_of-none (length d.left))))

  sum_signature : (choice : List Bool) (xs : List Chain) → signature_of s d (sum_of chains (chosen choice xs))
      ≡ sum_of numbers (chosen choice (map (signature_of s d) xs))
  sum_signature choice xs = linear-sum_of chains numbers (signature_of s d) (signature_of-linear s d)
      (chosen choice xs) ∙ ap (sum_of numbers) (sym (chosen-map (signature_of s d) choice xs))

  -- even chains are independent exactly where their signatures are
  pub signatures_from_independent : (xs : List Chain) → All (IsEven (primal s)) xs → AreIndependentChains s xs →
      Independent numbers (map (signature_of s d) xs)
  signatures_from_independent xs even free choice e =
      chosen-map (signature_of s d) choice xs ∙ ap (map (signature_of s d))
      (free choice (zero_null (sum_of chains (chosen choice xs))
      (even_chosen (primal s) choice xs (recursion_from_All (IsEven (primal s)) xs even))
      (sum_signature choice xs ∙ e)))

  pub independent_from_signatures : (xs : List Chain) → Independent numbers (map (signature_of s d) xs) →
      AreIndependentChains s xs
  independent_from_signatures xs free choice null =
      map_nil (signature_of s d) (chosen choice xs)
      (sym (chosen-map (signature_of s d) choice xs) ∙ free choice
      (sym (sum_signature choice xs) ∙ null_zero (sum_of chains (chosen choice xs)) null))

  -- no more than 2 - χ even chains are independent
  pub independent_bound : (xs : List Chain) → All (IsEven (primal s)) xs → AreIndependentChains s xs →
      length xs ≤ length d.left
  independent_bound xs even free =
      let n = length-map xs (signature_of s d) in
      let few = width_law (length d.left) (map (signature_of s d) xs)
      (All-from_recursion (λ x. x < 2 ^ length d.left) (map (signature_of s d) xs) (each xs))
      (signatures_from_independent xs even free) in
      omega arith
    where
      each : (xs : List Chain) → AllByRecursion (λ x. x < 2 ^ length d.left) (map (signature_of s d) xs)
      each [] = tt
      each (x ∷ xs) = (small (length d.left) (chain_signature s d x), each xs)

-- the signature of a chain is a sum of those of others exactly where the chain with some of these is null
module _ (s : Cells) (d : Split) (cells : IsCellComplex s) (ok : IsSplit s d) where
  pub spanned_from_null : (xs : List Chain) (y : Chain) (choice : List Bool) →
      IsNullChain s (difference y (sum_of chains (chosen choice xs))) →
      Spanned numbers (map (signature_of s d) xs) (signature_of s d y)
  spanned_from_null xs y choice null =
      let linear = signature_of-linear s d in
      let zero_is : bit_xor (signature_of s d y) (signature_of s d (sum_of chains (chosen choice xs))) ≡ 0 =
      sym (linear.add y (sum_of chains (chosen choice xs))) ∙ null_zero s d cells ok
      (difference y (sum_of chains (chosen choice xs))) null in (
        choice,
        sym (sum_signature s d cells ok choice xs) ∙ sym
            (same_from_sum numbers (signature_of s d y) (signature_of s d (sum_of chains (chosen choice xs))) zero_is),
      )

  pub null_from_spanned : (xs : List Chain) (y : Chain) → AllByRecursion (IsEven (primal s)) xs → IsEven (primal s) y →
      Spanned numbers (map (signature_of s d) xs) (signature_of s d y) →
      (choice : List Bool) × IsNullChain s (difference y (sum_of chains (chosen choice xs)))
  null_from_spanned xs y even even_y h =
      let total = sum_of chains (chosen h.0 xs) in
      let linear = signature_of-linear s d in (
        h.0,
        zero_null s d cells ok (difference y total)
            (even-xor (primal s) y total even_y (even_chosen (primal s) h.0 xs even))
            (linear.add y total ∙ ap (bit_xor (signature_of s d y)) (sum_signature s d cells ok h.0 xs ∙ h.1) ∙
            numbers.self (signature_of s d y)),
      )

-- ---- sums of cycles that are no longer

-- those up to a length, with their signatures
up_to_signed : (s : Cells) (d : Split) (limit : ℕ) (xs : List (Weighed Chain)) →
    vectors (up_to limit (map (signed s d) xs)) ≡ map (signature_of s d) (vectors (up_to limit xs))
up_to_signed s d limit [] = refl
up_to_signed s d limit (x ∷ xs) = split (leb x.weight limit) (up_to_signed s d limit xs)
  where
    split : (b : Bool) → vectors (up_to limit (map (signed s d) xs))
        ≡ map (signature_of s d) (vectors (up_to limit xs)) →
        vectors (cond b (signed s d x ∷ up_to limit (map (signed s d) xs)) (up_to limit (map (signed s d) xs)))
        ≡ map (signature_of s d) (vectors (cond b (x ∷ up_to limit xs) (up_to limit xs)))
    split true e = ap (λ vs. signature_of s d x.vector ∷ vs) e
    split false e = e

even_up_to : (g : Graph) (limit : ℕ) (xs : List (Weighed Chain)) → AllByRecursion (λ x. IsEven g x.vector) xs →
    AllByRecursion (IsEven g) (vectors (up_to limit xs))
even_up_to g limit [] h = tt
even_up_to g limit (x ∷ xs) h = split (leb x.weight limit) (even_up_to g limit xs h.1)
  where
    split : (b : Bool) → AllByRecursion (IsEven g) (vectors (up_to limit xs)) →
        AllByRecursion (IsEven g) (vectors (cond b (x ∷ up_to limit xs) (up_to limit xs)))
    split true rest = (h.0, rest)
    split false rest = rest

-- what is a sum by the signatures of one split is a sum by those of another
pub spanned_other : (s : Cells) (d other : Split) → IsCellComplex s → IsSplit s d → IsSplit s other →
    (xs : List (Weighed Chain)) (y : Weighed Chain) → AllByRecursion (λ x. IsEven (primal s) x.vector) xs →
    IsEven (primal s) y.vector →
    SpannedUpToWeight numbers (map (signed s d) xs) (signed s d y) →
    SpannedUpToWeight numbers (map (signed s other) xs) (signed s other y)
spanned_other s d other cells ok ok_other xs y even even_y h =
    let (choice, null) = null_from_spanned s d cells ok (vectors (up_to y.weight xs)) y.vector
    (even_up_to (primal s) y.weight xs even) even_y
    (subst (λ vs. Spanned numbers vs (signature_of s d y.vector)) (up_to_signed s d y.weight xs) h) in
    subst (λ vs. Spanned numbers vs (signature_of s other y.vector)) (sym (up_to_signed s other y.weight xs))
    (spanned_from_null s other cells ok_other (vectors (up_to y.weight xs)) y.vector choice null)

-- what is no longer than a chain is no longer than a longer one
pub spanned_wider : (xs : List (Weighed ℕ)) (low high v : ℕ) → low ≤ high → InSpan numbers (vectors (up_to low xs)) v →
    InSpan numbers (vectors (up_to high xs)) v
spanned_wider xs low high v le h = in_wider numbers (λ x. x.vector) (λ x. leb x.weight low) (λ x. leb x.weight high)
    (λ x fits. le-leb x.weight high (le_trans (leb-true x.weight low fits) le)) xs v h

-- the signature of a closed walk is the sum of those of its edges' loops
pub walk_sums : (s : Cells) (d : Split) → IsCellComplex s → (t : Tree) (a : ℕ) (w : List ℕ) → IsGraphWalk (primal s) a w a →
    signature_of s d (walk_chain (primal s) a w) ≡ sum_over numbers s.edges (walk_chain (primal s) a w)
    (λ l. signature_of s d (loop (primal s) t l))
walk_sums s d cells t a w walk =
    let c = walk_chain (primal s) a w in
    signature_of-same s d c (sum_over chains s.edges c (loop (primal s) t))
    (λ e l. sym (sum_over-at s.edges c (loop (primal s) t) e ∙ sum_of_loops (primal s) t cells.primal_ends c
    (walk_even (primal s) a w walk) e l))
    ∙ linear-sum_over chains numbers (signature_of s d) (signature_of-linear s d) s.edges c (loop (primal s) t)

-- a closed walk at a tree's root is a sum of cycles that are no longer, where the loops through the tree are
pub walk_spanned : (s : Cells) (len : ℕ → ℕ) (d : Split) → IsCellComplex s → (t : Tree) → IsShortest (primal s) len t →
    (cycles : List (Weighed Chain)) →
    ((e : ℕ) → e < s.edges →
    SpannedUpToWeight numbers (map (signed s d) cycles) (signed s d (loop_chain (primal s) len t e))) →
    (a : ℕ) → t.rank a ≡ 0 → (w : List ℕ) → IsGraphWalk (primal s) a w a →
    SpannedUpToWeight numbers (map (signed s d) cycles)
    (signed s d (record { weight = graph_walk_length (primal s) len a w; vector = walk_chain (primal s) a w }))
walk_spanned s len d cells t short cycles each a at_base w walk =
    let c = walk_chain (primal s) a w in
    let limit = graph_walk_length (primal s) len a w in
    let within = vectors (up_to limit (map (signed s d) cycles)) in
    let sums = walk_sums s d cells t a w walk in
    spanned_from_in numbers within (signature_of s d c)
    (subst (InSpan numbers within) (sym sums)
    (over_in numbers within s.edges c (λ l. signature_of s d (loop (primal s) t l)) (λ e l on.
    let bound : graph_loop_length (primal s) len t e ≤ t.rank a + limit + t.rank a =
    loop_bound (primal s) len t short a w a e walk on in
    spanned_wider (map (signed s d) cycles) (graph_loop_length (primal s) len t e) limit
    (signature_of s d (loop (primal s) t e)) (omega arith) (in_from_spanned numbers _ _ (each e l)))))

-- the loop of each edge is a sum of left loops that are no longer, where the cotree is heaviest
pub loop_spanned : (s : Cells) (len : ℕ → ℕ) (d : Split) → IsCellComplex s → IsSplit s d → IsHeaviest s len d →
    (e : ℕ) → e < s.edges →
    SpannedUpToWeight numbers (map (signed s d) (left_loops s len d)) (signed s d (loop_chain (primal s) len d.tree e))
loop_spanned s len d cells ok heavy e l =
    let m = length d.left in
    let limit = graph_loop_length (primal s) len d.tree e in
    let xs = map (signed s d) (left_loops s len d) in
    let left : ℕ → Chain = λ k. loop (primal s) d.tree (get_or d.left k 0) in
    let sums : signature_of s d (loop (primal s) d.tree e) ≡ sum_over numbers m (signature s d e)
    (λ k. signature_of s d (left k)) =
    same_from m (chain_signature s d (loop (primal s) d.tree e))
    (chain_signature s d (sum_over chains m (signature s d e) left)) (λ j lj.
    loop_signature s d cells ok e j l ∙ sym (sum_of_left s d cells ok (signature s d e) j lj) ∙ sym
    (over_signature s d m (signature s d e) left j)) ∙ linear-sum_over chains numbers (signature_of s d)
    (signature_of-linear s d) m (signature s d e) left in
    spanned_from_in numbers (vectors (up_to limit xs)) _ (subst (InSpan numbers (vectors (up_to limit xs))) (sym sums)
    (over_in numbers (vectors (up_to limit xs)) m (signature s d e) (λ k. signature_of s d (left k)) (λ k lk on.
    let none : Weighed ℕ = record { weight = 0; vector = 0 } in
    let n : length xs ≡ m =
    length-map (left_loops s len d) (signed s d) ∙ length-map d.left (loop_chain (primal s) len d.tree) in
    let is : get_or xs k none ≡ signed s d (loop_chain (primal s) len d.tree (get_or d.left k 0)) =
    get_or-map (signed s d) (left_loops s len d) k (loop_chain (primal s) len d.tree 0) none
    (omega (arith, length-map d.left (loop_chain (primal s) len d.tree))) ∙ ap (signed s d)
    (get_or-map (loop_chain (primal s) len d.tree) d.left k 0 (loop_chain (primal s) len d.tree 0) lk) in
    let fits : leb (get_or xs k none).weight limit ≡ true =
    ap (λ x. leb x.weight limit) is ∙ le-leb (graph_loop_length (primal s) len d.tree (get_or d.left k 0)) limit
    (shorter_left s len d ok heavy e k l lk on) in
    subst (InSpan numbers (vectors (up_to limit xs))) (ap (λ x. x.vector) is)
    (passing_in numbers (λ x. x.vector) (λ x. leb x.weight limit) xs k none (omega arith) fits))))

-- the left loops are independent
pub left_independent : (s : Cells) (d : Split) → IsCellComplex s → IsSplit s d →
    AreIndependentChains s (map (loop (primal s) d.tree) d.left)
left_independent s d cells ok choice null =
    chosen_none choice xs (λ k l. let lk : k < length d.left =
    omega (arith, length-map d.left (loop (primal s) d.tree)) in
    sym (sum_of_left s d cells ok set k lk)
    ∙ odd_below-same (length d.left) (λ i. set i && chain_signature s d (loop (primal s) d.tree (get_or d.left i 0)) k)
    (λ i. set i && chain_signature s d (get_or xs i none) k)
    (λ i li. ap (λ x. set i && chain_signature s d x k) (sym (get_or-map (loop (primal s) d.tree) d.left i 0 none li)))
    ∙ sym (over_signature s d (length d.left) set (λ i. get_or xs i none) k)
    ∙ ap (λ n. chain_signature s d (sum_over chains n set (λ i. get_or xs i none)) k)
    (sym (length-map d.left (loop (primal s) d.tree)))
    ∙ ap (λ x. chain_signature s d x k) (sym (chosen_over chains choice xs none))
    ∙ null_signature s d cells ok (sum_of chains (chosen choice xs)) null k lk)
  where
    xs : List Chain
    xs = map (loop (primal s) d.tree) d.left

    none : Chain
    none e = false

    set : ℕ → Bool
    set k = get_or choice k false

-- ---- least lists of closed walks

-- no independent closed walks, each a sum of no longer cycles, are shorter in all than as many cycles
pub spanned_least : (s : Cells) (d : Split) → IsCellComplex s → IsSplit s d → (cycles walks : List (Weighed Chain)) →
    length walks ≡ length cycles →
    All (λ w. IsEven (primal s) w.vector) walks →
    All (λ w. SpannedUpToWeight numbers (map (signed s d) cycles) (signed s d w)) walks →
    AreIndependentChains s (vectors walks) → sum (weights cycles) ≤ sum (weights walks)
spanned_least s d cells ok cycles walks count even spanned free =
    let xs = map (signed s d) cycles in
    let ys = map (signed s d) walks in
    let bound = total_law numbers xs ys
    (subst (Independent numbers) (same_vectors walks)
    (signatures_from_independent s d cells ok (vectors walks)
    (All-from_recursion (IsEven (primal s)) (vectors walks) (each_even walks (recursion_from_All _ walks even))) free))
    (All-from_recursion (SpannedUpToWeight numbers xs) ys (each_spanned walks (recursion_from_All _ walks spanned)))
    (length-map walks (signed s d) ∙ count ∙ sym (length-map cycles (signed s d))) in
    subst (λ n. n ≤ sum (weights walks)) (ap sum (same_weights cycles))
    (subst (λ n. sum (weights xs) ≤ n) (ap sum (same_weights walks)) bound)
  where
    same_weights : (xs : List (Weighed Chain)) → weights (map (signed s d) xs) ≡ weights xs
    same_weights [] = refl
    same_weights (x ∷ xs) = ap (λ ns. x.weight ∷ ns) (same_weights xs)

    same_vectors : (xs : List (Weighed Chain)) → map (signature_of s d) (vectors xs) ≡ vectors (map (signed s d) xs)
    same_vectors [] = refl
    same_vectors (x ∷ xs) = ap (λ vs. signature_of s d x.vector ∷ vs) (same_vectors xs)

    each_even : (xs : List (Weighed Chain)) → AllByRecursion (λ w. IsEven (primal s) w.vector) xs →
        AllByRecursion (IsEven (primal s)) (vectors xs)
    each_even [] h = tt
    each_even (x ∷ xs) h = (h.0, each_even xs h.1)

    each_spanned : (ws : List (Weighed Chain)) →
        AllByRecursion (λ w. SpannedUpToWeight numbers (map (signed s d) cycles) (signed s d w)) ws →
        AllByRecursion (SpannedUpToWeight numbers (map (signed s d) cycles)) (map (signed s d) ws)
    each_spanned [] h = tt
    each_spanned (w ∷ ws) h = (h.0, each_spanned ws h.1)

-- closed walks, each of them a sum of cycles that are no longer
module _ (s : Cells) (len : ℕ → ℕ) (d : Split) (cells : IsCellComplex s) (ok : IsSplit s d) where
  closed_even : (walks : List (ℕ × List ℕ)) → AllByRecursion (IsClosedWalk s) walks →
      AllByRecursion (λ w. IsEven (primal s) w.vector) (map (closed_walk (primal s) len) walks)
  closed_even [] h = tt
  closed_even (w ∷ ws) h = (walk_even (primal s) w.0 w.1 h.0.1, closed_even ws h.1)

  -- cycles that cover all loops sum to no more than as many closed walks that are independent
  pub covering_least : (trees : ℕ → Tree) →
      ((x : ℕ) → x < s.vertices → ((trees x).root ≡ x) × IsShortest (primal s) len (trees x)) →
      (cycles : List (Weighed Chain)) → IsCovering s len d trees cycles →
      (walks : List (ℕ × List ℕ)) → All (IsClosedWalk s) walks → length walks ≡ length cycles →
      AreIndependentChains s (vectors (map (closed_walk (primal s) len) walks)) →
      sum (weights cycles) ≤ sum (weights (map (closed_walk (primal s) len) walks))
  covering_least trees rooted cycles cover walks closed count free =
      let ws = map (closed_walk (primal s) len) walks in
      let each = recursion_from_All (IsClosedWalk s) walks closed in
      spanned_least s d cells ok cycles ws (length-map walks (closed_walk (primal s) len) ∙ count)
      (All-from_recursion (λ w. IsEven (primal s) w.vector) ws (closed_even walks each))
      (All-from_recursion (λ w. SpannedUpToWeight numbers (map (signed s d) cycles) (signed s d w)) ws
      (spanned walks each)) free
    where
      spanned : (walks : List (ℕ × List ℕ)) → AllByRecursion (IsClosedWalk s) walks →
          AllByRecursion (λ w. SpannedUpToWeight numbers (map (signed s d) cycles) (signed s d w))
          (map (closed_walk (primal s) len) walks)
      spanned [] h = tt
      spanned (w ∷ ws) h =
          let tree = rooted w.0 h.0.0 in
          let at_base : (trees w.0).rank w.0 ≡ 0 = ap (λ x. (trees w.0).rank x) (sym tree.0) ∙ tree.1.none_at_root in (
            walk_spanned s len d cells (trees w.0) tree.1 cycles (λ e l. cover w.0 e h.0.0 l) w.0 at_base w.1 h.0.1,
            spanned ws h.1,
          )

  -- the left loops are a least system of loops at the root
  pub left_least : IsShortest (primal s) len d.tree → IsHeaviest s len d → (walks : List (List ℕ)) →
      All (λ w. IsGraphWalk (primal s) d.tree.root w d.tree.root) walks → length walks ≡ length d.left →
      AreIndependentChains s (map (walk_chain (primal s) d.tree.root) walks) →
      sum (weights (left_loops s len d)) ≤ sum (map (graph_walk_length (primal s) len d.tree.root) walks)
  left_least short heavy walks closed count free =
      let at : List ℕ → Weighed Chain = λ w. closed_walk (primal s) len (d.tree.root, w) in
      let ws = map at walks in
      let each = recursion_from_All (λ w. IsGraphWalk (primal s) d.tree.root w d.tree.root) walks closed in
      let bound = spanned_least s d cells ok (left_loops s len d) ws
      (length-map walks at ∙ count ∙ sym (length-map d.left (loop_chain (primal s) len d.tree)))
      (All-from_recursion (λ w. IsEven (primal s) w.vector) ws (evens walks each))
      (All-from_recursion (λ w. SpannedUpToWeight numbers (map (signed s d) (left_loops s len d)) (signed s d w)) ws
      (spanned walks each))
      (subst (AreIndependentChains s) (sym (map-map (λ w. w.vector) at walks)) free) in
      subst (λ ns. sum (weights (left_loops s len d)) ≤ sum ns) (map-map (λ w. w.weight) at walks) bound
    where
      evens : (walks : List (List ℕ)) → AllByRecursion (λ w. IsGraphWalk (primal s) d.tree.root w d.tree.root) walks →
          AllByRecursion (λ w. IsEven (primal s) w.vector)
          (map (λ w. closed_walk (primal s) len (d.tree.root, w)) walks)
      evens [] h = tt
      evens (w ∷ ws) h = (walk_even (primal s) d.tree.root w h.0, evens ws h.1)

      spanned : (walks : List (List ℕ)) → AllByRecursion (λ w. IsGraphWalk (primal s) d.tree.root w d.tree.root) walks →
          AllByRecursion (λ w. SpannedUpToWeight numbers (map (signed s d) (left_loops s len d)) (signed s d w))
          (map (λ w. closed_walk (primal s) len (d.tree.root, w)) walks)
      spanned [] h = tt
      spanned (w ∷ ws) h = (
        walk_spanned s len d cells d.tree short (left_loops s len d) (λ e l. loop_spanned s len d cells ok heavy e l)
            d.tree.root short.none_at_root w h.0,
        spanned ws h.1,
      )
