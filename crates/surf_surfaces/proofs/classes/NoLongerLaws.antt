-- Lists of walks that are compared place by place.
use Rattle.surf_surfaces.proofs.Common.{◌≡◌, ℕ, ◌≤◌, cond, leb, List, [], ◌∷◌, length, map, get_or, sum, take, All, Contains, refl, sym, ap, ◌∙◌, subst, arith, inl, inr, leb-true, cases_Bool, length-map, recursion_from_All, All-from_recursion, All-contains, Mesh, walk_length, total}
use Rattle.surf_z2.proofs.Counts.{add_up, sum_is, below, sorted as placed, Under, under_from_counts, length_under, get_under, sum_sorted, length_sorted, up_sorted, sum_from_counts}
use Rattle.surf_surfaces.specs.Places.{count_up_to, AreNoLonger, lengths_in_order, AreNoLongerInOrder}
use Rattle.surf_surfaces.specs.PlaceLaws.{NoLongerLaw, ShortestIsFirstInOrder}
use Rattle.surf_surfaces.proofs.classes.OrderedNumbers.{sorted_is, counts_from_under, under_from_places, sum_take, same_from_under, counted, all_counted, all_from_count, one_counted, found_counted}

module _ (mesh : Mesh) (lengths : List ℕ) where
  abbrev sizes : List (List ℕ) → List ℕ
  sizes ws = map (walk_length mesh lengths) ws

  count_is : (w : ℕ) (ws : List (List ℕ)) → count_up_to mesh lengths w ws ≡ below w (sizes ws)
  count_is w ws = counted (walk_length mesh lengths) w ws

  in_order_is : (ws : List (List ℕ)) → lengths_in_order mesh lengths ws ≡ placed (sizes ws)
  in_order_is ws = sorted_is (sizes ws)

  size_is : (ws : List (List ℕ)) → length (placed (sizes ws)) ≡ length ws
  size_is ws = length_sorted (sizes ws) ∙ length-map ws (walk_length mesh lengths)

  module _ (walks others : List (List ℕ)) where
    below_no_more : AreNoLonger mesh lengths walks others → (w : ℕ) → below w (sizes others) ≤ below w (sizes walks)
    below_no_more h w = omega (arith, h w, count_is w others, count_is w walks)

    pub under : AreNoLonger mesh lengths walks others → Under (placed (sizes walks)) (placed (sizes others))
    under h = under_from_counts (placed (sizes walks)) (placed (sizes others)) (up_sorted (sizes walks))
        (up_sorted (sizes others)) (λ w. let no_more = below_no_more h w in
        let ours = sum_sorted (λ x. cond (leb x w) 1 0) (sizes walks) in
        let theirs = sum_sorted (λ x. cond (leb x w) 1 0) (sizes others) in omega arith)

    from_under : Under (placed (sizes walks)) (placed (sizes others)) → AreNoLonger mesh lengths walks others
    from_under u w =
        let few = counts_from_under (placed (sizes walks)) (placed (sizes others)) u w in
        let ours = sum_sorted (λ x. cond (leb x w) 1 0) (sizes walks) in
        let theirs = sum_sorted (λ x. cond (leb x w) 1 0) (sizes others) in
        let our_count = count_is w walks in
        let their_count = count_is w others in
        omega arith

    to_order : AreNoLonger mesh lengths walks others → AreNoLongerInOrder mesh lengths walks others
    to_order h =
        let u = under h in
        let few = length_under (placed (sizes walks)) (placed (sizes others)) u in
        let our_size = size_is walks in
        let their_size = size_is others in
        record {
          as_many = omega arith;
          each = λ k l.
              rw (in_order_is walks, in_order_is others)
              (get_under (placed (sizes walks)) (placed (sizes others)) k u (omega arith));
        }

    from_order : AreNoLongerInOrder mesh lengths walks others → AreNoLonger mesh lengths walks others
    from_order h =
        let our_size = size_is walks in
        let their_size = size_is others in
        let few = h.as_many in
        from_under (under_from_places (placed (sizes walks)) (placed (sizes others)) (omega arith) (λ k l.
        rw (in_order_is walks, in_order_is others) at (h.each k (omega arith))))

    has_shorter : AreNoLonger mesh lengths walks others → (other : List ℕ) → Contains others other →
        (walk : List ℕ) × Contains walks walk × (walk_length mesh lengths walk ≤ walk_length mesh lengths other)
    has_shorter h other at =
        let limit = walk_length mesh lengths other in
        let one = one_counted (walk_length mesh lengths) limit others at.0 other at.1
        (omega (arith, ap (walk_length mesh lengths) at.2)) in
        found_counted (walk_length mesh lengths) limit walks (omega (arith, one, below_no_more h limit))

    some_total : AreNoLonger mesh lengths walks others → (n : ℕ) → n ≤ length others →
        sum (take n (lengths_in_order mesh lengths walks)) ≤ sum (take n (lengths_in_order mesh lengths others))
    some_total h n l =
        let their_size = size_is others in
        let bound = sum_take n (placed (sizes walks)) (placed (sizes others)) (under h) (omega arith) in
        let ours = sum_is (λ x. x) (take n (placed (sizes walks))) in
        let theirs = sum_is (λ x. x) (take n (placed (sizes others))) in
        rw (in_order_is walks, in_order_is others) (omega (arith, bound, ours, theirs))

    all_total : AreNoLonger mesh lengths walks others → length others ≡ length walks →
        total mesh lengths walks ≤ total mesh lengths others
    all_total h e =
        sum_from_counts (sizes walks) (sizes others) (below_no_more h)
        (length-map others (walk_length mesh lengths) ∙ e ∙ sym (length-map walks (walk_length mesh lengths)))

    all_bounded : AreNoLonger mesh lengths walks others → length others ≡ length walks → (limit : ℕ) →
        All (λ w. walk_length mesh lengths w ≤ limit) others → All (λ w. walk_length mesh lengths w ≤ limit) walks
    all_bounded h e limit bounded =
        let many = all_counted (walk_length mesh lengths) limit others
        (recursion_from_All (λ w. walk_length mesh lengths w ≤ limit) others bounded) in
        All-from_recursion (λ w. walk_length mesh lengths w ≤ limit) walks
        (all_from_count (walk_length mesh lengths) limit walks (omega (arith, many, e, below_no_more h limit)))

    -- what is no longer and totals no less has the same lengths
    pub same_lengths : AreNoLonger mesh lengths walks others → length others ≡ length walks →
        total mesh lengths others ≤ total mesh lengths walks →
        lengths_in_order mesh lengths walks ≡ lengths_in_order mesh lengths others
    same_lengths h e less =
        let our_size = size_is walks in
        let their_size = size_is others in
        let ours = sum_sorted (λ x. x) (sizes walks) in
        let theirs = sum_sorted (λ x. x) (sizes others) in
        let our_sum : sum (sizes walks) ≡ add_up (λ x. x) (sizes walks) = sum_is (λ x. x) (sizes walks) in
        let their_sum : sum (sizes others) ≡ add_up (λ x. x) (sizes others) = sum_is (λ x. x) (sizes others) in
        in_order_is walks
        ∙ same_from_under (placed (sizes walks)) (placed (sizes others)) (under h) (omega arith) (omega arith)
        ∙ sym (in_order_is others)

pub no_longer : (mesh : Mesh) (lengths : List ℕ) (walks others : List (List ℕ)) → NoLongerLaw mesh lengths walks others
no_longer mesh lengths walks others = record {
  in_order = (to_order mesh lengths walks others, from_order mesh lengths walks others);
  shortest = has_shorter mesh lengths walks others;
  some = some_total mesh lengths walks others;
  total = all_total mesh lengths walks others;
  longest = all_bounded mesh lengths walks others;
}

-- what has the same lengths has as many up to each
pub same_counts : (mesh : Mesh) (lengths : List ℕ) (walks others : List (List ℕ)) →
    lengths_in_order mesh lengths walks ≡ lengths_in_order mesh lengths others → (limit : ℕ) →
    count_up_to mesh lengths limit walks ≡ count_up_to mesh lengths limit others
same_counts mesh lengths walks others e limit =
    let f : ℕ → ℕ = λ x. cond (leb x limit) 1 0 in
    count_is mesh lengths limit walks ∙ sym (sum_sorted f (sizes mesh lengths walks))
    ∙ ap (add_up f) (sym (in_order_is mesh lengths walks) ∙ e ∙ in_order_is mesh lengths others)
    ∙ sum_sorted f (sizes mesh lengths others) ∙ sym (count_is mesh lengths limit others)

pub shortest_is_first_in_order : ShortestIsFirstInOrder
shortest_is_first_in_order mesh lengths walks walk is =
    let size : List ℕ → ℕ = walk_length mesh lengths in
    let some = is.is_one in
    let head = get_or (lengths_in_order mesh lengths walks) 0 0 in
    let low : head ≤ size walk =
    (to_order mesh lengths walks (walk ∷ []) (λ limit. only limit some)).each 0 (omega arith) in
    let same = in_order_is mesh lengths walks in
    let many = size_is mesh lengths walks in
    let one : 1 ≤ below head (placed (sizes mesh lengths walks)) =
    subst (λ ns. 1 ≤ below head ns) (map-itself (placed (sizes mesh lengths walks)))
    (one_counted (λ n. n) head (placed (sizes mesh lengths walks)) 0 0 (omega (arith, some.1, many))
    (omega (arith, ap (λ ns. get_or ns 0 0) same))) in
    let (other, at, fits) = found_counted size head walks
    (omega (arith, one, sum_sorted (λ n. cond (leb n head) 1 0) (sizes mesh lengths walks))) in
    let high = All-contains (λ w. size walk ≤ size w) walks other is.shortest at in
    omega (arith, low, fits, high)
  where
    map-itself : (xs : List ℕ) → map (λ n. n) xs ≡ xs
    map-itself [] = refl
    map-itself (x ∷ xs) = ap (λ ys. x ∷ ys) (map-itself xs)

    only : (limit : ℕ) → Contains walks walk → count_up_to mesh lengths limit (walk ∷ []) ≤ count_up_to mesh lengths limit
        walks
    only limit at = elim (cases_Bool (leb (walk_length mesh lengths walk) limit)) [
      | inl fits ↦
          let low = leb-true (walk_length mesh lengths walk) limit fits in
          let one = one_counted (walk_length mesh lengths) limit walks at.0 walk at.1
          (omega (arith, low, ap (walk_length mesh lengths) at.2)) in
          let count = count_is mesh lengths limit walks in
          rw fits (omega arith)
      | inr out ↦ rw out (omega arith)
    ]
