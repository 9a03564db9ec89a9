-- A frame with one cycle more, and what a frame tells of sums.
use Rattle.surf_treecheck.proofs.Common.{◌≡◌, ◌≢◌, ℕ, ◌<◌, ◌^◌, Bool, true, false, cond, List, [], ◌∷◌, ◌++◌, length, get_or, set, map, filter, slice_index, Option, Some, None, All, bit_xor, nat_le, refl, sym, ap, ◌∙◌, subst, arith, inl, inr, get_or-set_same, get_or-set_other, MatchBool, AllByRecursion, cases_eq, cases_lt, le-leb, leb-true, get_or_past, length-set, has, Split, signature, cells_of, Mesh, steps, edge_signature, walk_signature, edge_count, edge_number, xor_lt, pow_pos, pow_below, numbers, Weighed, Spanned, SpannedUpToWeight, vectors, sum_of, small, has-xor, InSpan, cancel, in_from_spanned, spanned_from_in, All-push, recursion_from_All, Contains-append_left}
use Rattle.surf_certcheck.proofs.Common.{Signed, added_where, IsFrame, HasPlace, IsPlacedUpTo, weight_at}
use Rattle.std.proofs.lemmas.List.Elements.{Contains-push}
use Rattle.surf_z2.proofs.Linear.{passing_in}
use Rattle.surf_certcheck.proofs.Placing.{has_one, gathered, members_of_sum, image_in}
use Rattle.surf_certcheck.proofs.Turning.{moved_other, moved_coordinates}

-- ---- sizes

-- the signature of a walk has places of left edges alone
pub signature_small : (mesh : Mesh) (d : Split) (walk : List ℕ) → walk_signature mesh d walk < 2 ^ length d.left
signature_small mesh d walk = go (steps walk)
  where
    go : (ss : List (ℕ × ℕ)) →
        sum_of numbers (map (λ s. edge_signature mesh d (edge_number mesh s)) ss) < 2 ^ length d.left
    go [] = pow_pos (length d.left)
    go (s ∷ ss) = xor_lt (length d.left) (edge_signature mesh d (edge_number mesh s))
        (sum_of numbers (map (λ s. edge_signature mesh d (edge_number mesh s)) ss))
        (small (length d.left) (signature (cells_of mesh) d (edge_number mesh s))) (go ss)

-- a test that all pass
whole_filter : (xs : List (Weighed ℕ)) → filter (λ x. true) xs ≡ xs
whole_filter [] = refl
whole_filter (x ∷ xs) = ap (λ ys. x ∷ ys) (whole_filter xs)

-- ---- what the cycles of a frame are

module _ (mesh : Mesh) (d : Split) (cycles : List (Weighed ℕ)) (signed : Signed) (weights : List (Option ℕ))
    (f : IsFrame mesh d cycles signed weights) where
  -- the images of cycles that pass a test are places alone
  images : (Good : ℕ → Type 0) (pass : Weighed ℕ → Bool) →
      ((x : Weighed ℕ) → pass x ≡ true → HasPlace f.to weights x → (k : ℕ) × (f.to x.vector ≡ 2 ^ k) × Good k) →
      (xs : List (Weighed ℕ)) → AllByRecursion (HasPlace f.to weights) xs →
      AllByRecursion (λ z. (k : ℕ) × (z ≡ 2 ^ k) × Good k) (map f.to (map (λ (x : Weighed ℕ). x.vector) (filter pass xs)))
  images Good pass each [] h = tt
  images Good pass each (x ∷ xs) h = split (images Good pass each xs h.1) (pass x) refl
    where
      split : AllByRecursion (λ z. (k : ℕ) × (z ≡ 2 ^ k) × Good k)
          (map f.to (map (λ (x : Weighed ℕ). x.vector) (filter pass xs))) → (b : Bool) → pass x ≡ b →
          AllByRecursion (λ z. (k : ℕ) × (z ≡ 2 ^ k) × Good k)
          (map f.to (map (λ (x : Weighed ℕ). x.vector) (cond b (x ∷ filter pass xs) (filter pass xs))))
      split rest true on = (each x on h.0, rest)
      split rest false off = rest

  -- a sum of cycles that pass has places of these alone
  places_of_sum : (Good : ℕ → Type 0) (pass : Weighed ℕ → Bool) →
      ((x : Weighed ℕ) → pass x ≡ true → HasPlace f.to weights x → (k : ℕ) × (f.to x.vector ≡ 2 ^ k) × Good k) →
      (y m : ℕ) → Spanned numbers (vectors (filter pass cycles)) y → has (f.to y) m ≡ true → Good m
  places_of_sum Good pass each y m sum on =
      members_of_sum Good (map f.to (vectors (filter pass cycles)))
      (images Good pass each cycles (recursion_from_All (HasPlace f.to weights) cycles f.placed)) (f.to y) m
      (image_in f.to f.taken.linear (vectors (filter pass cycles)) y
      (in_from_spanned numbers (vectors (filter pass cycles)) y sum)) on

  -- a sum of places of cycles that pass is a sum of these cycles
  sum_of_places : (pass : Weighed ℕ → Bool) (y : ℕ) → y < 2 ^ length d.left →
      ((k : ℕ) → k < length weights → has (f.to y) k ≡ true →
      (weight : ℕ) × (weight_at weights k ≡ Some weight) × ((x : Weighed ℕ) → x.weight ≡ weight → pass x ≡ true)) →
      Spanned numbers (vectors (filter pass cycles)) y
  sum_of_places pass y small_y each =
      spanned_from_in numbers (vectors (filter pass cycles)) y
      (subst (InSpan numbers (vectors (filter pass cycles))) (f.undone y)
      (gathered f.back f.back_linear (vectors (filter pass cycles)) (length d.left) (f.to y) (f.within y small_y)
      (λ k l on.
      let (weight, is, passes) = each k (omega (arith, l, f.places)) on in
      let it = f.of_cycles k weight is in
      let (i, inside, here) = it.listed in
      let undone : it.cycle.vector ≡ f.back (2 ^ k) = sym (f.undone it.cycle.vector) ∙ ap f.back it.alone in
      subst (InSpan numbers (vectors (filter pass cycles)))
      (ap (λ (x : Weighed ℕ). x.vector) here ∙ undone)
      (passing_in numbers (λ (x : Weighed ℕ). x.vector) pass cycles i it.cycle inside
      (passes (get_or cycles i it.cycle) (ap (λ (x : Weighed ℕ). x.weight) here ∙ it.weight_is))))))

  -- where each place of what is made of a signature is that of a cycle, the signature is a sum of the cycles
  pub all_placed : (y : ℕ) → y < 2 ^ length d.left →
      ((k : ℕ) → k < length weights → has (f.to y) k ≡ true → weight_at weights k ≢ None) →
      Spanned numbers (vectors cycles) y
  all_placed y small_y each =
      subst (λ xs. Spanned numbers (vectors xs) y) (whole_filter cycles)
      (sum_of_places (λ x. true) y small_y (λ k l on. found (weight_at weights k) (each k l on)))
    where
      found : (o : Option ℕ) → o ≢ None →
          (weight : ℕ) × (o ≡ Some weight) × ((x : Weighed ℕ) → x.weight ≡ weight → true ≡ true)
      found None ne = absurd (ne refl)
      found (Some weight) ne = (weight, refl, λ x is. refl)

  -- where one is not, it is none
  pub not_all_placed : (y k : ℕ) → has (f.to y) k ≡ true → weight_at weights k ≡ None →
      Spanned numbers (vectors cycles) y → ⊥
  not_all_placed y k on none sum =
      places_of_sum (λ k. weight_at weights k ≢ None) (λ x. true)
      (λ x passes has_it. (has_it.place, has_it.alone, λ is. some_not_none (sym has_it.weight ∙ is))) y k
      (subst (λ xs. Spanned numbers (vectors xs) y) (sym (whole_filter cycles)) sum) on none
    where
      some_not_none : {w : ℕ} → Some w ≡ None → ⊥
      some_not_none e = cc

  -- the same up to a weight
  pub covered : (y : Weighed ℕ) → y.vector < 2 ^ length d.left →
      ((k : ℕ) → k < length weights → has (f.to y.vector) k ≡ true → IsPlacedUpTo y.weight (weight_at weights k)) →
      SpannedUpToWeight numbers cycles y
  covered y small_y each =
      sum_of_places (λ x. nat_le x.weight y.weight) y.vector small_y
      (λ k l on. found (weight_at weights k) (each k l on))
    where
      found : (o : Option ℕ) → IsPlacedUpTo y.weight o → (weight : ℕ) × (o ≡ Some weight)
          × ((x : Weighed ℕ) → x.weight ≡ weight → nat_le x.weight y.weight ≡ true)
      found None is = absurd is
      found (Some weight) is = (weight, refl, λ x same. le-leb x.weight y.weight (omega (arith, same, is)))

  pub placed_where_covered : (y : Weighed ℕ) → SpannedUpToWeight numbers cycles y → (k : ℕ) →
      has (f.to y.vector) k ≡ true → IsPlacedUpTo y.weight (weight_at weights k)
  placed_where_covered y sum k on =
      places_of_sum (λ k. IsPlacedUpTo y.weight (weight_at weights k)) (λ x. nat_le x.weight y.weight)
      (λ x passes has_it. (
        has_it.place,
        has_it.alone,
        subst (IsPlacedUpTo y.weight) (sym has_it.weight) (leb-true x.weight y.weight passes),
      )) y.vector k sum on

  -- ---- one cycle more

  -- what is written where a cycle gets a place: the place is one of its own that no cycle had
  pub record IsAdmitted (x : Weighed ℕ) (k rest : ℕ) (new : Signed) (new_weights : List (Option ℕ)) : Type 0 where
    pub within : k < length weights
    pub small_x : x.vector < 2 ^ length d.left
    pub on : has (f.to x.vector) k ≡ true
    pub free : weight_at weights k ≡ None
    pub rest_is : rest ≡ bit_xor (f.to x.vector) (2 ^ k)
    pub count : length signed.sets ≡ edge_count mesh
    pub sets : new.sets ≡ map (added_where k rest) signed.sets
    pub weights_are : new_weights ≡ set weights k (Some x.weight)

  pub frame_more : (x : Weighed ℕ) (k rest : ℕ) (new : Signed) (new_weights : List (Option ℕ)) →
      IsAdmitted x k rest new new_weights → IsFrame mesh d (cycles ++ x ∷ []) new new_weights
  frame_more x k rest new new_weights a =
      let n = length d.left in
      let c = f.to x.vector in
      let off : has rest k ≡ false =
      ap (λ r. has r k) a.rest_is ∙ has-xor c (2 ^ k) k ∙ rw (a.on, has_one k) refl in
      let place_in : k < n = omega (arith, a.within, f.places) in
      let small_rest : rest < 2 ^ n =
      subst (λ r. r < 2 ^ n) (sym a.rest_is)
      (xor_lt n c (2 ^ k) (f.within x.vector a.small_x) (pow_below k n place_in)) in
      let own : added_where k rest c ≡ 2 ^ k =
      rw a.on (ap (bit_xor c) a.rest_is ∙ cancel numbers c (2 ^ k)) in
      let coordinates = moved_coordinates k rest off mesh d signed.sets new.sets f.to f.back small_rest a.count a.sets
      (record { taken = f.taken; back_linear = f.back_linear; undone = f.undone; within = f.within }) in
      let kept : (j w : ℕ) → weight_at weights j ≡ Some w → k ≢ j = λ j w is same.
      none_not_some (sym a.free ∙ ap (weight_at weights) same ∙ is) in
      let still : (j w : ℕ) → weight_at weights j ≡ Some w → weight_at new_weights j ≡ Some w = λ j w is.
      ap (λ ws. weight_at ws j) a.weights_are
      ∙ get_or-set_other weights k j (Some x.weight) None (λ s. kept j w is (sym s)) ∙ is in
      record {
        to = λ v. added_where k rest (f.to v);
        back = λ v. f.back (added_where k rest v);
        taken = coordinates.taken;
        back_linear = coordinates.back_linear;
        undone = coordinates.undone;
        within = coordinates.within;
        places = ap length a.weights_are ∙ length-set weights k (Some x.weight) ∙ f.places;
        placed = All-push (HasPlace (λ v. added_where k rest (f.to v)) new_weights) cycles x
            (λ i y l. has_still (kept) (still) (get_or cycles i y) (f.placed i y l))
            (record {
              place = k;
              alone = own;
              weight = ap (λ ws. weight_at ws k) a.weights_are
                  ∙ get_or-set_same weights k (Some x.weight) None a.within;
            });
        of_cycles = λ j w is. elim (cases_eq j k) [
          | inl same ↦
              let weight : Some x.weight ≡ Some w =
              sym (get_or-set_same weights k (Some x.weight) None a.within)
              ∙ ap (λ ws. weight_at ws k) (sym a.weights_are) ∙ ap (weight_at new_weights) (sym same) ∙ is in
              record {
                cycle = x;
                listed = Contains-push cycles x;
                alone = own ∙ ap (λ n. 2 ^ n) (sym same);
                weight_is = some_same weight;
              }
          | inr other ↦
              let before : weight_at weights j ≡ Some w =
              sym (get_or-set_other weights k j (Some x.weight) None other)
              ∙ ap (λ ws. weight_at ws j) (sym a.weights_are) ∙ is in
              let it = f.of_cycles j w before in
              record {
                cycle = it.cycle;
                listed = Contains-append_left cycles (x ∷ []) it.cycle it.listed;
                alone = ap (added_where k rest) it.alone ∙ moved_other k rest off j (λ s. other (sym s));
                weight_is = it.weight_is;
              }
        ];
      }
    where
      none_not_some : {w : ℕ} → None ≡ Some w → ⊥
      none_not_some e = cc

      some_same : {u w : ℕ} → Some u ≡ Some w → u ≡ w
      some_same e = cc

      has_still : ((j w : ℕ) → weight_at weights j ≡ Some w → k ≢ j) →
          ((j w : ℕ) → weight_at weights j ≡ Some w → weight_at new_weights j ≡ Some w) → (y : Weighed ℕ) →
          HasPlace f.to weights y → HasPlace (λ v. added_where k rest (f.to v)) new_weights y
      has_still kept still y it =
          let off : has rest k ≡ false =
          ap (λ r. has r k) a.rest_is ∙ has-xor (f.to x.vector) (2 ^ k) k ∙ rw (a.on, has_one k) refl in
          record {
            place = it.place;
            alone = ap (added_where k rest) it.alone
                ∙ moved_other k rest off it.place (kept it.place y.weight it.weight);
            weight = still it.place y.weight it.weight;
          }

-- the frame of no cycle: the signatures themselves
pub frame_none : (mesh : Mesh) (d : Split) (signed : Signed) (weights : List (Option ℕ)) →
    ((e : ℕ) → e < edge_count mesh → slice_index signed.sets e ≡ edge_signature mesh d e) →
    length weights ≡ length d.left → ((k : ℕ) → weight_at weights k ≡ None) → IsFrame mesh d [] signed weights
frame_none mesh d signed weights each places free = record {
  to = λ v. v;
  back = λ v. v;
  taken = record { linear = record { zero = refl; add = λ x y. refl }; each = each };
  back_linear = record { zero = refl; add = λ x y. refl };
  undone = λ v. refl;
  within = λ v l. l;
  places = places;
  placed = λ k x l. absurd (omega arith);
  of_cycles = λ k w is. absurd (none_some (sym (free k) ∙ is));
}
  where
    none_some : {w : ℕ} → None ≡ Some w → ⊥
    none_some e = cc

-- what a test of the places of a loop tells
pub cover_tells : (mesh : Mesh) (d : Split) (cycles : List (Weighed ℕ)) (signed : Signed) (weights : List (Option ℕ))
    (f : IsFrame mesh d cycles signed weights) (y : Weighed ℕ) (set limit : ℕ) (r : Bool) → set ≡ f.to y.vector →
    y.vector < 2 ^ length d.left → limit ≡ y.weight →
    MatchBool r ((k : ℕ) → k < length weights → has set k ≡ true → IsPlacedUpTo limit (weight_at weights k))
    (((k : ℕ) → k < length weights → has set k ≡ true → IsPlacedUpTo limit (weight_at weights k)) → ⊥) →
    MatchBool r (SpannedUpToWeight numbers cycles y) (SpannedUpToWeight numbers cycles y → ⊥)
cover_tells mesh d cycles signed weights f y set limit true is small_y same tells =
    covered mesh d cycles signed weights f y small_y (λ k l on.
    subst (λ n. IsPlacedUpTo n (weight_at weights k)) same (tells k l (ap (λ x. has x k) is ∙ on)))
cover_tells mesh d cycles signed weights f y set limit false is small_y same tells = λ sum.
    tells (λ k l on.
    subst (λ n. IsPlacedUpTo n (weight_at weights k)) (sym same)
    (placed_where_covered mesh d cycles signed weights f y sum k (ap (λ x. has x k) (sym is) ∙ on)))

-- no cycle has a place in a table of none
pub no_weight : (weights : List (Option ℕ)) → All (λ o. o ≡ None) weights → (k : ℕ) → weight_at weights k ≡ None
no_weight weights all k = elim (cases_lt k (length weights)) [
  | inl l ↦ all k None l
  | inr past ↦ get_or_past weights k None past
]
