-- The cycles of a certificate by their places, and the frame of the first of them.
use Rattle.surf_treecheck.proofs.Common.{◌≡◌, ◌≢◌, ℕ, ◌<◌, ◌+◌, ◌^◌, true, Option, Some, None, List, [], length, get_or, map, set, take, bit_xor, sym, ap, ◌∙◌, subst, map-map, has, Mesh, walk_signature, edge_count, walk_length, take-length, numbers, Spanned, vectors, Weighed, get_or-map, take-map, split_in, signatures, IsDependent, weighed_cycle, BasisCert}
use Rattle.surf_certcheck.proofs.Common.{Signed, added_where, cycle_at, IsIndependentAt, IsFrame, IsFrameOf, weight_at}
use Rattle.std.proofs.lemmas.List.{map_more}
use Rattle.surf_certcheck.proofs.Framing.{signature_small, all_placed, not_all_placed, frame_more}

-- the frame of all of them
pub frame_whole : (mesh : Mesh) (lengths : List ℕ) (cert : BasisCert) (signed : Signed) (weights : List (Option ℕ)) →
    IsFrameOf mesh lengths cert (length cert.cycles) signed weights →
    IsFrame mesh (split_in mesh cert) (map (weighed_cycle mesh lengths cert) cert.cycles) signed weights
frame_whole mesh lengths cert signed weights f =
    subst (λ xs. IsFrame mesh (split_in mesh cert) (map (weighed_cycle mesh lengths cert) xs) signed weights)
    (take-length cert.cycles) f

-- the signatures of the first of them
vectors_are : (mesh : Mesh) (lengths : List ℕ) (cert : BasisCert) (k : ℕ) →
    vectors (map (weighed_cycle mesh lengths cert) (take k cert.cycles)) ≡ take k (signatures mesh cert)
vectors_are mesh lengths cert k =
    map-map (λ (x : Weighed ℕ). x.vector) (weighed_cycle mesh lengths cert) (take k cert.cycles)
    ∙ sym (take-map (walk_signature mesh (split_in mesh cert)) k cert.cycles)

module _ (mesh : Mesh) (lengths : List ℕ) (cert : BasisCert) (k : ℕ) (l : k < length cert.cycles) where
  signature_at : get_or (signatures mesh cert) k 0 ≡ walk_signature mesh (split_in mesh cert) (cycle_at cert k)
  signature_at = get_or-map (walk_signature mesh (split_in mesh cert)) cert.cycles k [] 0 l

  depends : Spanned numbers (vectors (map (weighed_cycle mesh lengths cert) (take k cert.cycles)))
      (walk_signature mesh (split_in mesh cert) (cycle_at cert k)) → IsDependent mesh cert k
  depends sum =
      subst (Spanned numbers (take k (signatures mesh cert))) (sym signature_at)
      (subst (λ xs. Spanned numbers xs (walk_signature mesh (split_in mesh cert) (cycle_at cert k)))
      (vectors_are mesh lengths cert k) sum)

  spanned : IsDependent mesh cert k → Spanned numbers (vectors (map (weighed_cycle mesh lengths cert) (take k cert.cycles)))
      (walk_signature mesh (split_in mesh cert) (cycle_at cert k))
  spanned sum =
      subst (λ xs. Spanned numbers xs (walk_signature mesh (split_in mesh cert) (cycle_at cert k)))
      (sym (vectors_are mesh lengths cert k))
      (subst (Spanned numbers (take k (signatures mesh cert))) signature_at sum)

  module _ (signed : Signed) (weights : List (Option ℕ)) (f : IsFrameOf mesh lengths cert k signed weights) where
    -- what the sum over the steps of the cycle is
    pub set_is : (list : List ℕ) (sum : ℕ) → list ≡ cycle_at cert k →
        sum ≡ f.to (walk_signature mesh (split_in mesh cert) list) →
        sum ≡ f.to (walk_signature mesh (split_in mesh cert) (cycle_at cert k))
    set_is list sum same is = is ∙ ap (λ w. f.to (walk_signature mesh (split_in mesh cert) w)) same

    pub set_small : (sum : ℕ) → sum ≡ f.to (walk_signature mesh (split_in mesh cert) (cycle_at cert k)) →
        sum < 2 ^ length weights
    set_small sum is =
        subst (λ n. sum < 2 ^ n) (sym f.places)
        (subst (λ x. x < 2 ^ length (split_in mesh cert).left) (sym is)
        (f.within (walk_signature mesh (split_in mesh cert) (cycle_at cert k))
        (signature_small mesh (split_in mesh cert) (cycle_at cert k))))

    -- where none of its places is free, it depends on those before
    pub none_free : (sum : ℕ) → sum ≡ f.to (walk_signature mesh (split_in mesh cert) (cycle_at cert k)) →
        ((j : ℕ) → j < length weights → has sum j ≡ true → weight_at weights j ≢ None) → IsDependent mesh cert k
    none_free sum is each =
        depends (all_placed mesh (split_in mesh cert) (map (weighed_cycle mesh lengths cert) (take k cert.cycles)) signed
        weights f (walk_signature mesh (split_in mesh cert) (cycle_at cert k))
        (signature_small mesh (split_in mesh cert) (cycle_at cert k))
        (λ j lj on. each j lj (ap (λ x. has x j) is ∙ on)))

    -- what is written where one is
    pub record IsGiven (sum j rest weight : ℕ) (new : Signed) (new_weights : List (Option ℕ)) : Type 0 where
      pub sum_is : sum ≡ f.to (walk_signature mesh (split_in mesh cert) (cycle_at cert k))
      pub within : j < length weights
      pub on : has sum j ≡ true
      pub free : weight_at weights j ≡ None
      pub rest_is : rest ≡ bit_xor sum (2 ^ j)
      pub weight_is : weight ≡ walk_length mesh lengths (cycle_at cert k)
      pub count : length signed.sets ≡ edge_count mesh
      pub sets : new.sets ≡ map (added_where j rest) signed.sets
      pub weights_are : new_weights ≡ set weights j (Some weight)

    pub one_free : (sum j rest weight : ℕ) (new : Signed) (new_weights : List (Option ℕ)) →
        IsGiven sum j rest weight new new_weights →
        IsIndependentAt mesh cert k × IsFrameOf mesh lengths cert (k + 1) new new_weights
    one_free sum j rest weight new new_weights g =
        let d = split_in mesh cert in
        let before = map (weighed_cycle mesh lengths cert) (take k cert.cycles) in
        let x = weighed_cycle mesh lengths cert (cycle_at cert k) in
        let on : has (f.to x.vector) j ≡ true = ap (λ y. has y j) (sym g.sum_is) ∙ g.on in (
          λ dependent. not_all_placed mesh d before signed weights f x.vector j on g.free (spanned dependent),
          subst (λ xs. IsFrame mesh d xs new new_weights) (sym (map_more (weighed_cycle mesh lengths cert) cert.cycles k [] l))
              (frame_more mesh d before signed weights f x j rest new new_weights (record {
                within = g.within;
                small_x = signature_small mesh d (cycle_at cert k);
                on = on;
                free = g.free;
                rest_is = g.rest_is ∙ ap (λ y. bit_xor y (2 ^ j)) g.sum_is;
                count = g.count;
                sets = g.sets;
                weights_are = g.weights_are ∙ ap (λ w. set weights j (Some w)) g.weight_is;
              })),
        )
