-- Edges whose signatures need more than some closed walks, and where they are.
use Rattle.surf_surfaces.proofs.Common.{◌≡◌, ℕ, zero, suc, ◌<◌, ◌≤◌, Bool, true, false, ◌&&◌, eqb, List, [], ◌∷◌, length, map, take, get_or, All, Contains, Option, Some, None, refl, sym, ap, ◌∙◌, subst, arith, inl, inr, ◌⊎◌, AllByRecursion, All-from_recursion, any_below, same_from, InSpan, zero_in, in_from_spanned, spanned_from_in, primal, Split, IsSplit, signature, chain_signature, signature_of, signature_of-same, signature_of-linear, Mesh, edge_count, ends, IsSurface, IsClosed, walk_length, parity, cells_of, class_of, edge_signature, IsNonDecreasing, cases_Bool, cases_lt, and_parts, and_from, false≢true, ltb-true, ltb-false, le-leb, numbers, chains, and_comm, eqb_comm, odd_below-same, odd_below-one, any_below-found, any_below-none}
use Rattle.surf_z2.proofs.Linear.{sum_over, over_in, linear-sum_over, sum_over-at}
use Rattle.surf_graphs.proofs.Walks.{walk_has_ends}
use Rattle.surf_surfaces.proofs.walks.GraphWalkLaws.{graph_walk}
use Rattle.surf_surfaces.proofs.bases.GreedyChoiceLaws.{depends_from_spanned}
use Rattle.surf_caps.specs.Heights.{IsSumOfShorter, AreHeights, is_above, cycle_at, HighEdgesExist}
use Rattle.surf_caps.specs.Caps.{place_of_walk, AreSized, asks, AskedEndsMeet}

-- ---- the class of a chain by the signatures of its edges

module _ (mesh : Mesh) (d : Split) where
  -- one edge has its own signature
  own_signature : (e : ℕ) → e < edge_count mesh → signature_of (cells_of mesh) d (λ h. eqb h e) ≡ edge_signature mesh d e
  own_signature e e_in =
      same_from (length d.left) (chain_signature (cells_of mesh) d (λ h. eqb h e)) (signature (cells_of mesh) d e)
      (λ k l. odd_below-one (edge_count mesh) e (λ h. signature (cells_of mesh) d h k) e_in)

  -- what spans the signatures of its edges spans the class
  pub chain_in : (xs : List ℕ) (chain : ℕ → Bool) →
      ((e : ℕ) → e < edge_count mesh → chain e ≡ true → InSpan numbers xs (edge_signature mesh d e)) →
      InSpan numbers xs (signature_of (cells_of mesh) d chain)
  chain_in xs chain each =
      let s = cells_of mesh in
      let n = edge_count mesh in
      let whole : (h : ℕ) → h < n → sum_over chains n chain (λ e. λ k. eqb k e) h ≡ chain h =
      λ h h_in. sum_over-at n chain (λ e. λ k. eqb k e) h
      ∙ odd_below-same n (λ e. chain e && eqb h e) (λ e. eqb e h && chain e)
      (λ e l. and_comm (chain e) (eqb h e) ∙ ap (λ b. b && chain e) (eqb_comm h e))
      ∙ odd_below-one n h chain h_in in
      let sums : signature_of s d chain ≡ sum_over numbers n chain (λ e. signature_of s d (λ k. eqb k e)) =
      signature_of-same s d chain (sum_over chains n chain (λ e. λ k. eqb k e)) (λ h h_in. sym (whole h h_in))
      ∙ linear-sum_over chains numbers (signature_of s d) (signature_of-linear s d) n chain (λ e. λ k. eqb k e) in
      subst (InSpan numbers xs) (sym sums)
      (over_in numbers xs n chain (λ e. signature_of s d (λ k. eqb k e)) (λ e e_in on.
      subst (InSpan numbers xs) (sym (own_signature e e_in)) (each e e_in on)))

-- ---- the first members of a list

-- what the first members span, more of them do
pub take_wider : {X : Type 0} (f : X → ℕ) (n i : ℕ) (xs : List X) (v : ℕ) → n ≤ i →
    InSpan numbers (map f (take n xs)) v → InSpan numbers (map f (take i xs)) v
take_wider f zero i xs v le h = subst (InSpan numbers (map f (take i xs))) (sym h) (zero_in numbers (map f (take i xs)))
take_wider f (suc n) zero xs v le h = absurd (omega arith)
take_wider f (suc n) (suc i) [] v le h = h
take_wider f (suc n) (suc i) (x ∷ xs) v le (inl h) = inl (take_wider f n i xs v (omega arith) h)
take_wider f (suc n) (suc i) (x ∷ xs) v le (inr h) = inr (take_wider f n i xs _ (omega arith) h)

first_each : (P : List ℕ → Type 0) (i : ℕ) (xs : List (List ℕ)) →
    ((j : ℕ) → j < i → j < length xs → P (cycle_at xs j)) → AllByRecursion P (take i xs)
first_each P zero xs h = tt
first_each P (suc i) [] h = tt
first_each P (suc i) (x ∷ xs) h =
    (h zero (omega arith) (omega arith), first_each P i xs (λ j l m. h (suc j) (omega arith) (omega arith)))

-- ---- the law of heights

module _ (mesh : Mesh) (lengths : List ℕ) (d : Split) (cycles : List (List ℕ)) (height : ℕ → Option ℕ)
    (surface : IsSurface mesh) (split : IsSplit (cells_of mesh) d) (closed_each : All (IsClosed mesh) cycles)
    (heights : AreHeights mesh d cycles height) where
  low_spanned : (i e : ℕ) (o : Option ℕ) → e < edge_count mesh → height e ≡ o → is_above i o ≡ false →
      InSpan numbers (map (class_of mesh d) (take i cycles)) (edge_signature mesh d e)
  low_spanned i e None e_in is low = absurd (false≢true (sym low))
  low_spanned i e (Some n) e_in is low =
      take_wider (class_of mesh d) n i cycles (edge_signature mesh d e) (ltb-false i n low)
      (in_from_spanned numbers (map (class_of mesh d) (take n cycles)) (edge_signature mesh d e)
      (heights.spanned e n e_in is))

  pub high_edge : (i : ℕ) (walk : List ℕ) → IsClosed mesh walk → (IsSumOfShorter mesh lengths walk → ⊥) →
      ((j : ℕ) → j < i → j < length cycles →
      walk_length mesh lengths (cycle_at cycles j) < walk_length mesh lengths walk) →
      (e : ℕ) × (e < edge_count mesh) × (parity mesh walk e ≡ true) × (is_above i (height e) ≡ true)
  high_edge i walk closed no_sum short =
      let test = λ (e : ℕ). parity mesh walk e && is_above i (height e) in
      elim (cases_Bool (any_below (edge_count mesh) test)) [
        | inl some ↦
            let (e, e_in, on) = any_below-found (edge_count mesh) test some in
            let both = and_parts (parity mesh walk e) (is_above i (height e)) on in
            (e, e_in, both.0, both.1)
        | inr none ↦
            let before = take i cycles in
            let vs = map (class_of mesh d) before in
            let closed_before : AllByRecursion (IsClosed mesh) before =
            first_each (IsClosed mesh) i cycles (λ j l m. closed_each j [] m) in
            let shorter : AllByRecursion (λ w. walk_length mesh lengths w < walk_length mesh lengths walk) before =
            first_each (λ w. walk_length mesh lengths w < walk_length mesh lengths walk) i cycles short in
            let in_span : InSpan numbers vs (class_of mesh d walk) =
            chain_in mesh d vs (parity mesh walk) (λ e e_in on. elim (cases_Bool (is_above i (height e))) [
              | inl above ↦ absurd (false≢true (sym (any_below-none (edge_count mesh) test none e e_in)
                  ∙ and_from (parity mesh walk e) (is_above i (height e)) on above))
              | inr low ↦ low_spanned i e (height e) e_in refl low
            ]) in
            absurd (no_sum (record {
              others = before;
              closed = All-from_recursion (IsClosed mesh) before closed_before;
              shorter = All-from_recursion (λ w. walk_length mesh lengths w < walk_length mesh lengths walk) before
                  shorter;
              sum = depends_from_spanned mesh d surface split before walk closed_before closed
                  (spanned_from_in numbers vs (class_of mesh d walk) in_span);
            }))
      ]

pub high_edges_exist : HighEdgesExist
high_edges_exist mesh lengths d cycles height i walk surface split closed_each heights closed no_sum short =
    high_edge mesh lengths d cycles height surface split closed_each heights i walk closed no_sum short

-- ---- ends that are searched

pub has_ends : (mesh : Mesh) → IsSurface mesh → (walk : List ℕ) (e : ℕ) → IsClosed mesh walk → e < edge_count mesh →
    parity mesh walk e ≡ true → Contains walk (ends mesh e).0 × Contains walk (ends mesh e).1
has_ends mesh surface [] e closed e_in on = absurd (omega (arith, closed.is_walk.begins))
has_ends mesh surface (u ∷ rest) e closed e_in on =
    let w = graph_walk mesh surface [] (u ∷ rest) closed in
    walk_has_ends (primal (cells_of mesh)) u rest u e w.closed (sym (w.chain e e_in) ∙ on)

-- how many first numbers of a list are less
pub record Less (size : ℕ) (sizes : List ℕ) : Type 0 where
  pub count : ℕ
  pub before : (j : ℕ) → j < count → j < length sizes → get_or sizes j 0 < size
  pub here : count < length sizes → size ≤ get_or sizes count 0

pub first_less : (size : ℕ) (sizes : List ℕ) → Less size sizes
first_less size [] =
    record { count = 0; before = λ j l m. absurd (omega arith); here = λ l. absurd (omega arith) }
first_less size (c ∷ cs) = elim (cases_lt c size) [
  | inl less ↦
      let rest = first_less size cs in
      record {
        count = suc rest.count;
        before = λ j. each rest j less;
        here = λ l. rest.here (omega arith);
      }
  | inr more ↦ record { count = 0; before = λ j l m. absurd (omega arith); here = λ l. more }
]
  where
    each : (rest : Less size cs) (j : ℕ) → c < size → j < suc rest.count → j < length (c ∷ cs) →
        get_or (c ∷ cs) j 0 < size
    each rest zero less l m = less
    each rest (suc j) less l m = rest.before j (omega arith) (omega arith)

-- what is above the numbers that are less asks for the length
pub asked : (sizes : List ℕ) (size i : ℕ) (o : Option ℕ) → IsNonDecreasing sizes →
    ((n : ℕ) → o ≡ Some n → n ≤ length sizes) → (i < length sizes → size ≤ get_or sizes i 0) → is_above i o ≡ true →
    asks sizes o size ≡ true
asked sizes size i None order within here above = refl
asked sizes size i (Some zero) order within here above =
    let l = ltb-true i zero above in absurd (omega arith)
asked sizes size i (Some (suc m)) order within here above =
    let l = ltb-true i (suc m) above in
    let n = within (suc m) refl in
    let low = order i m 0 (omega arith) (omega arith) in
    let first = here (omega arith) in
    le-leb size (get_or sizes m 0) (omega (arith, low, first))

-- the first walks are as short
pub short_before : (mesh : Mesh) (lengths : List ℕ) (cycles : List (List ℕ)) (sizes : List ℕ) (size : ℕ) →
    AreSized mesh lengths cycles sizes → (less : Less size sizes) → (j : ℕ) → j < less.count → j < length cycles →
    walk_length mesh lengths (cycle_at cycles j) < size
short_before mesh lengths cycles sizes size sized less j l m =
    let count = sized.count in
    let one = sized.no_longer j m in
    let other = less.before j l (omega arith) in
    omega (arith, one, other)

-- an end of an edge that a walk runs an odd number of times
pub end_met : (mesh : Mesh) → IsSurface mesh → (walk : List ℕ) (e : ℕ) (P : ℕ → Type 0) → IsClosed mesh walk →
    e < edge_count mesh → parity mesh walk e ≡ true → P (ends mesh e).0 ⊎ P (ends mesh e).1 →
    (v : ℕ) × Contains walk v × P v
end_met mesh surface walk e P closed e_in on is =
    let over = has_ends mesh surface walk e closed e_in on in
    elim is [
      | inl here ↦ ((ends mesh e).0, over.0, here)
      | inr here ↦ ((ends mesh e).1, over.1, here)
    ]

pub asked_ends_meet : AskedEndsMeet
asked_ends_meet mesh lengths d cycles sizes height target sought surface split sized heights has walk closed is_target
    no_sum =
    let size = walk_length mesh lengths walk in
    let place = place_of_walk mesh lengths walk in
    let less = first_less size sizes in
    let count = sized.count in
    let (e, e_in, on, above) = high_edge mesh lengths d cycles height surface split sized.closed heights less.count walk
    closed no_sum (short_before mesh lengths cycles sizes size sized less) in
    end_met mesh surface walk e (λ v. sought v place ≡ true) closed e_in on
    (has e place e_in is_target
    (asked sizes size less.count (height e) sized.order
    (λ n is. let low = heights.within e n e_in is in omega arith) less.here above))
