-- Stages, and signatures up to the sums of what is final.
use Rattle.std.proofs.Common.{◌≡◌, ℕ, zero, suc, ◌+◌, ◌<◌, ◌≤◌, Bool, true, ◌&&◌, not, eqb, List, [], ◌∷◌, ◌++◌, length, map, take, get_or, IsPermutation, bit_xor, Option, Some, None, Decides, refl, sym, ap, ◌∙◌, subst, arith, ne_eqb, inl, inr}
use Rattle.surf_surfaces.proofs.Common.{AllByRecursion, map-map, any_below, Decides-is_nothing, any_below-found, any_below-none, xor-false, Sorted, sorted_from_order, order_from_sorted, edge_count, IsClosed, walk_length, parity, loop_walk, class_of, edge_signature, cases_eq, cases_Bool, and_parts, and_from, or_left, or_right, false≢true, not-true, not_from_false, eqb-false, ltb-true, lt-ltb, leb-false, recursion_from_All, All-from_recursion, All-append, Contains-append_left, Contains-append_right, Contains-get_or, xor_self, greedy, greedy_after, Space, numbers, is_nothing, Independent, Spanned, not_spans, member_in, InSpan, AllInSpan, trans_in, rest_in, Free, in_from_spanned, spanned_from_in, free_from_independent, place_at, Found, is_within, walks_found, comes_no_later, IsFoundChoice}
use Rattle.std.proofs.lemmas.List.{append_assoc, map-append, length-append}
use Rattle.std.proofs.lemmas.List.Sorted.{All-permutation, IsPermutation-append_right}
use Rattle.surf_surfaces.proofs.bases.FirstFoundLaws.{loop_closed}
use Rattle.surf_surfaces.proofs.classes.ClassLaws.{independent_by_classes}
use Rattle.surf_surfaces.proofs.bases.FoundLaws.{greedy_is_found_choice}
use Rattle.surf_surfaces.proofs.bases.GreedyChoiceLaws.{depends_from_spanned}
use Rattle.surf_surfaces.proofs.classes.LeastLaws.{all_each, all_mapped}
use Rattle.surf_surfaces.proofs.bases.FewBasesLaws.{no_later_from}
use Rattle.surf_firsts.proofs.Chosen.{free_before}
use Rattle.surf_caps.specs.Caps.{place_of_walk, up_to_length, SetsMeet, EverywhereMeets, MeetsFewer}
use Rattle.surf_caps.specs.Heights.{is_above, cycle_at}
use Rattle.surf_caps.specs.Quotients.{IsQuotient}
use Rattle.surf_caps.specs.Stages.{StagesMeet, ImagesMeet, raised, ImageHeightsAreHeights, ImageEndsMeet, ImagesChoose, ImagesChooseNext, FoundByImageDepend}
use Rattle.surf_caps.proofs.Heights.{chain_in, high_edge, first_less, asked, short_before, end_met}
use Rattle.surf_caps.proofs.Over.{within, depends_within}
use Rattle.surf_caps.proofs.Quotients.{from_image, quotient_choice}

pub stages_meet : StagesMeet
stages_meet mesh lengths target wider sought more meets meets_behind walk closed is_wide no_sum =
    let place = place_of_walk mesh lengths walk in
    elim (cases_Bool (target place)) [
      | inl low ↦
          let (v, over, is) = meets walk closed low no_sum in
          (v, over, or_left (sought v place) (more v place) is)
      | inr high ↦
          let (v, over, is) = meets_behind walk closed
          (and_from (wider place) (not (target place)) is_wide (ap not high)) no_sum in
          (v, over, or_right (sought v place) (more v place) is)
    ]

pub everywhere_meets : EverywhereMeets
everywhere_meets mesh lengths target [] closed is_target no_sum = absurd (omega (arith, closed.is_walk.begins))
everywhere_meets mesh lengths target (x ∷ rest) closed is_target no_sum = (x, (0, omega arith, refl), is_target)

pub meets_fewer : MeetsFewer
meets_fewer mesh lengths target fewer sought more meets sub seek walk closed is_target no_sum =
    let place = place_of_walk mesh lengths walk in
    let (v, over, is) = meets walk closed (sub place is_target) no_sum in
    (v, over, seek v place is_target is)

pub sets_meet : SetsMeet
sets_meet mesh lengths set target meets walk closed is_target no_sum =
    let place = place_of_walk mesh lengths walk in
    let (v, over, in_set) = meets walk closed (λ null. no_sum (record {
      others = [];
      closed = λ k n l. absurd (omega arith);
      shorter = λ k n l. absurd (omega arith);
      sum = ([], (null.0, λ e l. xor-false (parity mesh walk e) ∙ null.1 e l));
    })) in
    (v, over, and_from (set v) (target place) in_set is_target)

pub images_meet : ImagesMeet
images_meet mesh d image final walk surface split q closed_each closed free =
    let test = λ (e : ℕ). parity mesh walk e && not (eqb (image (edge_signature mesh d e)) 0) in
    let vs = map (class_of mesh d) final in
    elim (cases_Bool (any_below (edge_count mesh) test)) [
      | inl some ↦
          let (e, e_in, on) = any_below-found (edge_count mesh) test some in
          let both = and_parts (parity mesh walk e) (not (eqb (image (edge_signature mesh d e)) 0)) on in (
            e,
            e_in,
            both.0,
            eqb-false (image (edge_signature mesh d e)) 0
                (not-true (eqb (image (edge_signature mesh d e)) 0) both.1),
          )
      | inr none ↦
          absurd (free (depends_from_spanned mesh d surface split final walk
          (recursion_from_All (IsClosed mesh) final closed_each) closed
          (spanned_from_in numbers vs (class_of mesh d walk)
          (chain_in mesh d vs (parity mesh walk) (λ e e_in on.
          elim (cases_eq (image (edge_signature mesh d e)) 0) [
            | inl zero_is ↦
                in_from_spanned numbers vs (edge_signature mesh d e) ((q.kernel (edge_signature mesh d e)).0 zero_is)
            | inr ne ↦ absurd (false≢true
                (sym (any_below-none (edge_count mesh) test none e e_in)
                ∙ and_from (parity mesh walk e) (not (eqb (image (edge_signature mesh d e)) 0)) on
                (not_from_false (eqb (image (edge_signature mesh d e)) 0)
                (ne_eqb (image (edge_signature mesh d e)) 0 ne))))
          ])))))
    ]

-- ---- heights by images

take-on : {X : Type 0} (xs ys : List X) (n : ℕ) → take (length xs + n) (xs ++ ys) ≡ xs ++ take n ys
take-on [] ys n = ap (λ k. take k ys) (omega arith)
take-on (x ∷ xs) ys n =
    let more : length (x ∷ xs) + n ≡ suc (length xs + n) = omega arith in
    ap (λ k. take k (x ∷ (xs ++ ys))) more ∙ ap (λ zs. x ∷ zs) (take-on xs ys n)

some_same : (m n : ℕ) → Some m ≡ Some n → m ≡ n
some_same m n e = cc

none_some : (o : Option ℕ) (n : ℕ) → o ≡ None → o ≡ Some n → ⊥
none_some o n e f = cc

pub image_heights_are_heights : ImageHeightsAreHeights
image_heights_are_heights mesh d image final cycles height q heights = record {
  within = λ e n e_in is. inside e n e_in (height e) refl is;
  spanned = λ e n e_in is. reached e n e_in (height e) refl is;
}
  where
    inside : (e n : ℕ) → e < edge_count mesh → (o : Option ℕ) → height e ≡ o → raised (length final) o ≡ Some n →
        n ≤ length (final ++ cycles)
    inside e n e_in None at is = absurd (none_some None n refl is)
    inside e n e_in (Some m) at is =
        let low = heights.within e m e_in at in
        let same = some_same (length final + m) n is in
        omega (arith, low, same, length-append final cycles)

    reached : (e n : ℕ) → e < edge_count mesh → (o : Option ℕ) → height e ≡ o → raised (length final) o ≡ Some n →
        Spanned numbers (map (class_of mesh d) (take n (final ++ cycles))) (edge_signature mesh d e)
    reached e n e_in None at is = absurd (none_some None n refl is)
    reached e n e_in (Some m) at is =
        let f = class_of mesh d in
        let v = edge_signature mesh d e in
        let some = take m cycles in
        let list : map f (take n (final ++ cycles)) ≡ map f final ++ map f some =
        ap (λ k. map f (take k (final ++ cycles))) (sym (some_same (length final + m) n is))
        ∙ ap (map f) (take-on final cycles m) ∙ map-append f final some in
        let images : InSpan numbers (map image (map f some)) (image v) =
        subst (λ vs. InSpan numbers vs (image v)) (sym (map-map image f some))
        (in_from_spanned numbers (map (λ w. image (f w)) some) (image v) (heights.spanned e m e_in at)) in
        subst (λ vs. Spanned numbers vs v) (sym list)
        (spanned_from_in numbers (map f final ++ map f some) v
        (from_image numbers numbers image (map f final) q (map f some) v images))

-- ---- ends that are asked for by images

-- the walk at a place of two lists, one after the other
cycle_of_two : (P : List ℕ → Type 0) (xs ys : List (List ℕ)) (i : ℕ) → ((j : ℕ) → j < length xs → P (cycle_at xs j)) →
    ((j : ℕ) → j < i → j < length ys → P (cycle_at ys j)) → (j : ℕ) → j < length xs + i → j < length (xs ++ ys) →
    P (cycle_at (xs ++ ys) j)
cycle_of_two P [] ys i one two j l m = two j (omega arith) m
cycle_of_two P (x ∷ xs) ys i one two zero l m = one zero (omega arith)
cycle_of_two P (x ∷ xs) ys i one two (suc j) l m =
    cycle_of_two P xs ys i (λ k n. one (suc k) (omega arith)) two j (omega arith) (omega arith)

above_raised : (count i : ℕ) (o : Option ℕ) → is_above (count + i) (raised count o) ≡ true → is_above i o ≡ true
above_raised count i None h = refl
above_raised count i (Some n) h = let l = ltb-true (count + i) (count + n) h in lt-ltb i n (omega arith)

pub image_ends_meet : ImageEndsMeet
image_ends_meet mesh lengths d image final cycles sizes height least wider sought surface split q closed_final no_longer
    sized heights has walk closed is_behind no_sum =
    let size = walk_length mesh lengths walk in
    let place = place_of_walk mesh lengths walk in
    let less = first_less size sizes in
    let sized_count = sized.count in
    let parts = and_parts (wider place) (not (up_to_length least place)) is_behind in
    let longer : least < size = leb-false size least (not-true (up_to_length least place) parts.1) in
    let short = cycle_of_two (λ w. walk_length mesh lengths w < size) final cycles less.count
    (λ j l. let low = no_longer j [] l in omega (arith, low))
    (short_before mesh lengths cycles sizes size sized less) in
    let (e, e_in, on, above) = high_edge mesh lengths d (final ++ cycles) (λ e. raised (length final) (height e)) surface
    split (All-append (IsClosed mesh) final cycles closed_final sized.closed)
    (image_heights_are_heights mesh d image final cycles height q heights) (length final + less.count) walk closed no_sum
    short in
    end_met mesh surface walk e (λ v. sought v place ≡ true) closed e_in on
    (has e place e_in is_behind
    (asked sizes size less.count (height e) sized.order
    (λ n is. let low = heights.within e n e_in is in omega arith) less.here
    (above_raised (length final) less.count (height e) above)))

-- ---- the choice by images

module _ {V : Type 0} (S : Space V) (is_zero : V → Bool) (right : (v : V) → Decides (is_zero v) (v ≡ S.zero))
    {C : Type 0} (vector : C → V) where
  -- of independent candidates all are kept
  all_free : (before : List V) (cs : List C) → Free S (before ++ map vector cs) →
      greedy_after S is_zero vector before cs ≡ cs
  all_free before [] f = refl
  all_free before (c ∷ cs) f =
      let new = not_spans S is_zero right before (vector c) (free_before S before (vector c) (map vector cs) f) in
      rw new (ap (λ es. c ∷ es) (all_free (before ++ vector c ∷ []) cs
      (subst (Free S) (sym (append_assoc before (vector c ∷ []) (map vector cs))) f)))

pub images_choose : ImagesChoose
images_choose mesh d image final others surface split q closed closed_others independent =
    let f = λ (k : Found). class_of mesh d k.walk in
    let all = final ++ others in
    let classes : map (class_of mesh d) (walks_found final) ≡ map f final = map-map (class_of mesh d) (λ k. k.walk) final in
    let closed_all : AllByRecursion (λ k. IsClosed mesh k.walk) all =
    recursion_from_All (λ k. IsClosed mesh k.walk) all
    (All-append (λ k. IsClosed mesh k.walk) final others closed closed_others) in
    let free : Free numbers (map f final) =
    free_from_independent numbers (map f final)
    (subst (Independent numbers) classes
    ((independent_by_classes mesh d surface split (walks_found final)
    (All-from_recursion (IsClosed mesh) (walks_found final)
    (all_mapped (IsClosed mesh) (λ k. k.walk) final
    (recursion_from_All (λ k. IsClosed mesh k.walk) final closed)))).0 independent)) in
    let is : greedy numbers is_nothing f all ≡ final ++ greedy numbers is_nothing (λ k. image (f k)) others =
    quotient_choice numbers numbers image is_nothing Decides-is_nothing is_nothing Decides-is_nothing f final others
    (subst (IsQuotient numbers numbers image) classes q)
    ∙ ap (λ ks. ks ++ greedy numbers is_nothing (λ k. image (f k)) others)
    (all_free numbers is_nothing Decides-is_nothing f [] final free) in
    subst (IsFoundChoice mesh all) is (greedy_is_found_choice mesh d surface split all closed_all)

-- what is no longer than a length, and what is longer, both in order
joined_order : (least : ℕ) (xs ys : List Found) → Sorted comes_no_later xs → AllByRecursion (λ k. k.size ≤ least) xs →
    Sorted comes_no_later ys → AllByRecursion (λ k. least < k.size) ys → Sorted comes_no_later (xs ++ ys)
joined_order least [] ys s low t high = t
joined_order least (x ∷ xs) ys s low t high =
    (all_two xs s.0, joined_order least xs ys s.1 low.1 t high)
  where
    after : (k : Found) → least < k.size → comes_no_later x k ≡ true
    after k more = let le = low.0 in no_later_from x.size x.through k.size k.through (omega (arith, le, more))
        (λ same. absurd (omega (arith, le, more, same)))

    all_two : (zs : List Found) → AllByRecursion (λ k. comes_no_later x k ≡ true) zs →
        AllByRecursion (λ k. comes_no_later x k ≡ true) (zs ++ ys)
    all_two [] h = all_each (λ k. least < k.size) (λ k. comes_no_later x k ≡ true) ys after high
    all_two (z ∷ zs) h = (h.0, all_two zs h.1)

pub images_choose_next : ImagesChooseNext
images_choose_next mesh d image least final kept loops all surface split q closed closed_kept closed_loops independent
    order_final low order_all high same =
    let Closed = λ (k : Found). IsClosed mesh k.walk in
    record {
      all = final ++ all;
      same_members = subst (λ ks. IsPermutation ks (final ++ all)) (sym (append_assoc final kept loops))
          (IsPermutation-append_right final (kept ++ loops) all same);
      order = order_from_sorted comes_no_later (final ++ all)
          (joined_order least final all (sorted_from_order comes_no_later final order_final)
          (recursion_from_All (λ k. k.size ≤ least) final low) (sorted_from_order comes_no_later all order_all)
          (recursion_from_All (λ k. least < k.size) all high));
      choice = images_choose mesh d image final all surface split q closed
          (All-permutation Closed (kept ++ loops) all same (All-append Closed kept loops closed_kept closed_loops))
          independent;
    }

-- ---- loops that were found by images

pub found_by_image_depend : FoundByImageDepend
found_by_image_depend mesh d image lengths trees z least here final kept loops surface split shortest z_in q closed
    closed_kept closed_loops low longer found e e_in is_here =
    let f = λ (k : Found). class_of mesh d k.walk in
    let walk = loop_walk mesh (trees z) e in
    let v = class_of mesh d walk in
    let place = place_at mesh lengths trees z e in
    let all = (final ++ kept) ++ loops in
    let xs = within mesh d surface split place all in
    let classes : map (class_of mesh d) (walks_found final) ≡ map f final = map-map (class_of mesh d) (λ k. k.walk) final in
    let closed_all : AllByRecursion (λ k. IsClosed mesh k.walk) all =
    recursion_from_All (λ k. IsClosed mesh k.walk) all
    (All-append (λ k. IsClosed mesh k.walk) (final ++ kept) loops
    (All-append (λ k. IsClosed mesh k.walk) final kept closed closed_kept) closed_loops) in
    let finals : AllInSpan numbers xs (map (class_of mesh d) (walks_found final)) =
    subst (AllInSpan numbers xs) (sym classes) (all_mapped (InSpan numbers xs) f final
    (recursion_from_All (λ k. InSpan numbers xs (f k)) final (λ j k l.
    member_in numbers f (is_within place) all (get_or final j k)
    (Contains-append_left (final ++ kept) loops (get_or final j k)
    (Contains-append_left final kept (get_or final j k) (Contains-get_or final j k l)))
    (let le = low j k l in let more = longer place is_here in let f = get_or final j k in
    no_later_from f.size f.through place.0 place.1 (omega (arith, le, more)) (λ same. absurd (omega (arith, le, more, same))))))) in
    let from_final : (u : ℕ) → image u ≡ 0 → InSpan numbers xs u =
    λ u zero_is. trans_in numbers xs (map (class_of mesh d) (walks_found final)) u finals
    (in_from_spanned numbers (map (class_of mesh d) (walks_found final)) u ((q.kernel u).0 zero_is)) in
    depends_within mesh d surface split all closed_all place walk
    (loop_closed mesh lengths trees surface shortest z e z_in e_in)
    (elim (found e e_in is_here) [
      | inl zero_is ↦ from_final v zero_is
      | inr r ↦
          let k = r.0 in
          let own : InSpan numbers xs (f k) =
          member_in numbers f (is_within place) all k (Contains-append_right (final ++ kept) loops k r.1) r.2 in
          let sum : image (bit_xor (f k) v) ≡ 0 =
          q.linear.add (f k) v ∙ ap (λ n. bit_xor n (image v)) r.3 ∙ xor_self (image v) in
          rest_in numbers xs (f k) v own (from_final (bit_xor (f k) v) sum)
    ])
