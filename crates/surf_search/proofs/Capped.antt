-- What is kept of the loops at vertices that are searched as far as their caps, search by search.
use Rattle.surf_search.proofs.Common.{◌≡◌, ℕ, suc, ◌<◌, ◌≤◌, ◌≢◌, ◌+◌, ◌-◌, ◌*◌, Bool, true, false, eqb, leb, le-leb, not, List, [], ◌++◌, length, get_or, map, filter, take, All, Contains, IsPermutation, Option, Some, None, refl, sym, ap, ◌∙◌, subst, arith, inl, inr, IsTrue, ◌&&◌, cases_eq, or_cases, or_left, or_right, and_parts, and_from, nat_tests, merge, greedy, numbers, is_nothing, Decides-is_nothing, Independent, Spanned, InSpan, trans_in, in_from_spanned, spanned_from_in, zero_in, member_in, Split, IsSplit, Tree, Mesh, edge_count, IsSurface, IsClosed, ArePositive, cells_of, class_of, AreShortestTrees, loop_walk, loop_length, Place, place_at, Found, is_within, walks_found, DependsOn, DependsAtPlace, least_base, Contains-permutation, All-permutation, IsPermutation-sym, cases_lt, false≢true, take_more, IsNonDecreasingBy, chosen, Sorted, sorted_from_order, order_from_sorted, sorted_greedy, greedy_law, same_members, IsInOrder, recursion_from_All, All-from_recursion, All-append, All-contains, Contains-append_left, Contains-append_right, Contains-get_or, get_or-take, length-take-le, map-map, get_or_default, all_filtered, IsNull, IsFoundAt, is_no_later, place_of_found, ◌∷◌, ◌||◌, ◌⊎◌, Contains-append_cases, loop_closed, no_later-same, null_by_class, greedy_is_found_choice, depends_from_spanned, all_mapped, AgreeOff, is_shorter_by, IsSoughtFromStart, DependOnShorterOr, with_near_places, Sought, AreSoughtFromStart, AreEnoughFor, CapsGrow, IsFoundBy, with_places, everywhere, limited, both, up_to_length, ChoiceKeeps, caps_grow_enough, both_start, limited_start, found_are_walks, Candidate, Signed, Chosen, signed_earlier, independent_of, signatures, IsSumOfLength, place_of, is_sought, limit_of, order_of, stands_before, merged_sorted, limit_falls, shorter_first, IsFound, AreFoundBy, found_of, AreNoShorter, spare_of, is_within_cap, IsCapped, IsWider, AreKeptTo, AreLongerOr, told_of, told_by}
use Rattle.surf_caps.proofs.Barring.{barred_searches_suffice, near_places_need_no_more}
use Rattle.surf_caps.proofs.Over.{within, depends_within}
use Rattle.surf_search.proofs.Looped.{tells_long, tells_at, tells_order, tells_chosen, turned, founds_told, signed_of}
use Rattle.surf_finder.proofs.PassedOver.{no_longer, shorter_sooner, all_signed}
use Rattle.surf_finder.proofs.Searched.{loops_found, places_found, no_fewer, of_choice, zero_null, depends_null}

-- ---- what is within a cap

pub within_zero : (p : Place) → is_within_cap 0 p ≡ true → up_to_length 0 p ≡ true
within_zero p h = grind (arith, nat_tests)

pub within_start : (cap : ℕ) → IsSoughtFromStart (is_within_cap cap)
within_start cap p q h k = grind (arith, nat_tests)

pub limit_start : (limit : Option Candidate) → IsSoughtFromStart (is_sought limit)
limit_start None p q h k = refl
limit_start (Some c) p q h k = grind (arith, nat_tests)

-- ---- the first of what a search found

-- those of a wider search that come before a limit
pub found_among : (mesh : Mesh) (lengths : List ℕ) (trees : ℕ → Tree) (d : Split) (limit wide : Option Candidate) (z : ℕ)
    (found list : List Signed) → AreFoundBy mesh lengths trees d wide z found → ((P : Signed → Type 0) → All P found → All P list) →
    All (λ c. IsTrue (is_sought limit (place_of c.candidate))) list →
    ((c : Signed) → Contains found c → IsTrue (is_sought limit (place_of c.candidate)) → Contains list c) → IsWider limit wide →
    AreFoundBy mesh lengths trees d limit z list
found_among mesh lengths trees d limit wide z found list h within sooner has_all wider = record {
  each = within (IsFound mesh lengths trees d) h.each;
  here = within (λ c. c.from ≡ z) h.here;
  sooner = sooner;
  some = within (λ c. c.signature ≢ 0) h.some;
  all = λ e e_in some sought.
      (let (c, has, from_is, edge_is) = h.all e e_in some (wider (place_at mesh lengths trees z e) sought) in
      let right : IsFound mesh lengths trees d c = All-contains (IsFound mesh lengths trees d) found c h.each has in
      let place : place_of c.candidate ≡ place_at mesh lengths trees z e =
      (λ t. (right.size t, right.base t))
      ∙ (λ t. place_at mesh lengths trees (from_is t) (edge_is t)) in
      (c, has_all c has (subst (λ p. IsTrue (is_sought limit p)) (sym place) sought), from_is, edge_is));
}

-- of loops in order, those up to the last that comes before a limit come before it
pub front_sooner : (limit : Option Candidate) (n : ℕ) (list : List Signed) → Sorted stands_before list → n ≤ length list →
    ((s : Signed) → 0 < n → IsTrue (is_sought limit (place_of (get_or list (n - 1) s).candidate))) →
    All (λ c. IsTrue (is_sought limit (place_of c.candidate))) (take n list)
front_sooner limit n list sorted n_in last i s l =
    let long = length-take-le n list n_in in
    let i_n : i < n = omega (arith, l, long) in
    subst (λ (x : Signed). IsTrue (is_sought limit (place_of x.candidate))) (sym (get_or-take n list i s i_n))
    (elim (cases_lt i (n - 1)) [
      | inl less ↦ limit_start limit (place_of (get_or list i s).candidate) (place_of (get_or list (n - 1) s).candidate)
          (order_from_sorted stands_before list sorted i (n - 1) s less (omega (arith, i_n, n_in))) (last s (omega (arith, i_n)))
      | inr more ↦
          let is : n - 1 ≡ i = omega (arith, i_n, more) in
          subst (λ k. IsTrue (is_sought limit (place_of (get_or list k s).candidate))) is (last s (omega (arith, i_n)))
    ])

-- and they are all
pub front_has : (limit : Option Candidate) (n : ℕ) (list : List Signed) → n ≤ length list →
    ((k : ℕ) (s : Signed) → n ≤ k → k < length list → is_sought limit (place_of (get_or list k s).candidate) ≡ false) →
    (c : Signed) → Contains list c → IsTrue (is_sought limit (place_of c.candidate)) → Contains (take n list) c
front_has limit n list n_in late c (k, k_in, at) sought = elim (cases_lt k n) [
  | inl less ↦ let long = length-take-le n list n_in in (k, omega (arith, less, long), get_or-take n list k c less ∙ at)
  | inr more ↦ absurd (false≢true (sym (late k c more k_in) ∙ ap (λ (x : Signed). is_sought limit (place_of x.candidate)) at ∙ sought))
]

-- longer than a length, and within a cap
abbrev pub is_beyond : ℕ → ℕ → Place → Bool
is_beyond least bound p = is_within_cap bound p && not (leb p.0 least)

beyond_least : (least n : ℕ) → not (leb n least) ≡ true → least < n
beyond_least least n h = grind (arith, nat_tests)

module _ (mesh : Mesh) (lengths : List ℕ) (trees : ℕ → Tree) (surface : IsSurface mesh)
    (positive : ArePositive mesh lengths) (shortest : AreShortestTrees mesh lengths trees) (d : Split)
    (split : IsSplit (cells_of mesh) d) where
  abbrev KeptTo : Option Candidate → Sought → List Signed → Type 0
  KeptTo limit sought kept = AreKeptTo mesh lengths trees d limit sought kept

  grow : CapsGrow mesh lengths trees
  grow = caps_grow_enough mesh lengths trees surface positive shortest

  -- nothing is kept, and nothing is searched
  pub kept_begun : (limit : Option Candidate) (sought : Sought) (kept : List Signed) → kept ≡ [] →
      ((z : ℕ) (p : Place) → IsTrue (sought z p) → IsTrue (up_to_length 0 p)) → KeptTo limit sought kept
  kept_begun limit sought kept none low = subst (KeptTo limit sought) (sym none) (record {
    loops = [];
    told = refl;
    enough = grow.fewer (everywhere (up_to_length 0)) (limited (is_sought limit) sought) [] grow.begin
        (λ z p on. low z p (and_parts (sought z p) (is_sought limit p) on).0);
    order = λ i j c before l. absurd (omega arith);
    independent = λ flags sum. nothing_chosen flags;
  })
    where
      nothing_chosen : (flags : List Bool) → chosen flags (signatures []) ≡ []
      nothing_chosen [] = refl
      nothing_chosen (b ∷ bs) = refl

  -- for fewer places
  pub kept_fewer : (limit fewer : Option Candidate) (sought part : Sought) (kept : List Signed) → KeptTo limit sought kept →
      ((p : Place) → IsTrue (is_sought fewer p) → IsTrue (is_sought limit p)) →
      ((z : ℕ) (p : Place) → IsTrue (part z p) → IsTrue (sought z p)) → KeptTo fewer part kept
  kept_fewer limit fewer sought part kept k places less = record {
    loops = k.loops;
    told = k.told;
    enough = grow.fewer (limited (is_sought limit) sought) (limited (is_sought fewer) part) k.loops k.enough
        (λ z p on. (let parts = and_parts (part z p) (is_sought fewer p) on in
        and_from (sought z p) (is_sought limit p) (less z p parts.0) (places p parts.1)));
    order = k.order;
    independent = k.independent;
  }

  -- searches at a vertex by other lengths, no less than the mesh's, which differ at vertices of a set alone
  module _ (other : List ℕ) (others : ℕ → Tree) (positive_too : ArePositive mesh other)
      (shortest_too : AreShortestTrees mesh other others) (no_less : AreNoShorter mesh lengths other) (set : ℕ → Bool)
      (agree : AgreeOff mesh lengths other set) (z : ℕ) (z_in : z < mesh.vertices) (sought : Sought)
      (starts : AreSoughtFromStart sought) (bound : ℕ)
      (as_far : (n : ℕ) (p : Place) → IsTrue (set n) → IsTrue (is_within_cap bound p) → IsTrue (sought n p)) where
    founds : List Signed → List Found
    founds list = map (found_of mesh others) list

    by_others : (list : List Signed) → All (IsFound mesh other others d) list → All (IsFoundBy mesh lengths) (founds list)
    unfolding founds
    by_others list each k n l = record {
      other = other;
      trees = others;
      no_less = no_less;
      shortest = shortest_too;
      loop = loops_found mesh other others surface positive_too shortest_too d split list each k n l;
    }

    -- the loop of an edge depends on what was kept and what was found
    offered_depend : (capped : Option Candidate) (kept : List Found) (list : List Signed) → All (IsFoundBy mesh lengths) kept →
        AreFoundBy mesh other others d capped z list → (e : ℕ) → e < edge_count mesh →
        IsTrue (is_sought capped (place_at mesh other others z e)) →
        DependsAtPlace mesh other others (kept ++ founds list) z e
    unfolding founds
    offered_depend capped kept list kept_by h e e_in is_here =
        let walk = loop_walk mesh (others z) e in
        let place = place_at mesh other others z e in
        let all = kept ++ founds list in
        let closed = (found_are_walks mesh lengths all surface positive
        (All-append (IsFoundBy mesh lengths) kept (founds list) kept_by (by_others list h.each))).closed in
        depends_within mesh d surface split all (recursion_from_All (λ k. IsClosed mesh k.walk) all closed) place walk
        (loop_closed mesh other others surface shortest_too z e z_in e_in)
        (elim (cases_eq (class_of mesh d walk) 0) [
          | inl zero_is ↦ subst (InSpan numbers (within mesh d surface split place all)) (sym zero_is)
              (zero_in numbers (within mesh d surface split place all))
          | inr some ↦
              let (k, has, is) = (places_found mesh other others surface positive_too shortest_too d split capped z list z_in h).all
              e e_in (λ null. some (null_zero e e_in null)) is_here in
              subst (λ w. InSpan numbers (within mesh d surface split place all) (class_of mesh d w)) is.walk
              (member_in numbers (λ x. class_of mesh d x.walk) (is_within place) all k
              (Contains-append_right kept (founds list) k has) (at_place k e is))
        ])
      where
        null_zero : (e : ℕ) → e < edge_count mesh → IsNull mesh (loop_walk mesh (others z) e) →
            class_of mesh d (loop_walk mesh (others z) e) ≡ 0
        null_zero e e_in null = (null_by_class mesh d surface split (loop_walk mesh (others z) e)
            (loop_closed mesh other others surface shortest_too z e z_in e_in)).0 null

        at_place : (k : Found) (e : ℕ) → IsFoundAt mesh other others z e k → is_within (place_at mesh other others z e) k ≡ true
        at_place k e is =
            subst (λ p. is_no_later (place_of_found k) p ≡ true)
            (ap (λ a. (a, k.through)) is.size ∙ ap (λ b. (loop_length mesh other (others z) e, b)) is.through)
            (no_later-same (place_of_found k))

    -- one search more
    pub kept_next : (capped : Option Candidate) (old : Chosen) (list next : List Signed) → IsCapped (limit_of old) bound capped →
        KeptTo (limit_of old) sought old.kept → AreFoundBy mesh other others d capped z list → Sorted stands_before list →
        next ≡ independent_of (merge signed_earlier old.kept list) →
        KeptTo (limit_of (record old { kept = next })) (with_places z (is_within_cap bound) sought) next
    unfolding founds
    kept_next capped old list next are k h order is =
        let limit = limit_of old in
        let now = limit_of (record old { kept = next }) in
        let cs = merge signed_earlier old.kept list in
        let members : IsPermutation (old.kept ++ list) cs = same_members signed_earlier old.kept list in
        let sorted : Sorted stands_before cs = merged_sorted old.kept list (sorted_from_order stands_before old.kept k.order) order in
        let t = turned mesh d k.loops (founds list) old.kept list cs k.told (founds_told mesh d other others list h.each) members in
        let by_found = by_others list h.each in
        let by_all : All (IsFoundBy mesh lengths) t.all = All-permutation (IsFoundBy mesh lengths) (k.loops ++ founds list) t.all t.same
        (All-append (IsFoundBy mesh lengths) k.loops (founds list) k.enough.loops by_found) in
        let loops = greedy numbers is_nothing (λ (x : Found). class_of mesh d x.walk) t.all in
        let keeps : ChoiceKeeps mesh lengths k.loops (founds list) loops =
        grow.choose k.loops (founds list) loops k.enough.loops by_found (record {
          all = t.all;
          same_members = t.same;
          order = tells_order mesh d t.all cs t.tells (order_from_sorted stands_before cs sorted);
          choice = greedy_is_found_choice mesh d surface split t.all (recursion_from_All (λ x. IsClosed mesh x.walk) t.all
              (found_are_walks mesh lengths t.all surface positive by_all).closed);
        }) in
        let more : length old.kept ≤ length next =
        no_fewer mesh lengths trees surface positive shortest d split old.kept cs next k.independent
        (λ s has. Contains-permutation (old.kept ++ list) cs s members (Contains-append_left old.kept list s has)) is in
        let falls : (p : Place) → IsTrue (is_sought now p) → IsTrue (is_sought limit p) =
        limit_falls old.width old.kept list next (sorted_from_order stands_before old.kept k.order) more
        (λ s has. Contains-append_cases old.kept list s (Contains-permutation cs (old.kept ++ list) s
        (IsPermutation-sym (old.kept ++ list) cs members)
        (of_choice cs s (subst (λ (xs : List Signed). Contains xs s) is has))))
        (λ i s l. are.sooner (place_of (get_or list i s).candidate) (h.sooner i s l)) in
        let here = both (is_within_cap bound) (is_sought now) in
        let still : AreEnoughFor mesh lengths trees (limited (is_sought now) sought) loops =
        grow.fewer (limited (is_sought limit) sought) (limited (is_sought now) sought) loops
        (grow.keep (limited (is_sought limit) sought) k.loops (founds list) loops k.enough keeps)
        (λ y p on. (let parts = and_parts (sought y p) (is_sought now p) on in
        and_from (sought y p) (is_sought limit p) parts.0 (falls p parts.1))) in
        let whole : AreEnoughFor mesh lengths trees (with_places z here (limited (is_sought now) sought)) loops =
        barred_searches_suffice mesh lengths other trees others (limited (is_sought now) sought) set z here loops surface positive
        positive_too shortest shortest_too agree z_in still (limited_start (is_sought now) sought (limit_start now) starts)
        (both_start (is_within_cap bound) (is_sought now) (within_start bound) (limit_start now))
        (λ n p in_set is_here. (let parts = and_parts (is_within_cap bound p) (is_sought now p) is_here in
        and_from (sought n p) (is_sought now p) (as_far n p in_set parts.0) parts.1))
        (λ e e_in is_here.
        (let place = place_at mesh other others z e in
        let parts = and_parts (is_within_cap bound place) (is_sought now place) is_here in
        keeps.depend (loop_walk mesh (others z) e) place (loop_closed mesh other others surface shortest_too z e z_in e_in)
        (offered_depend capped k.loops list k.enough.loops h e e_in (are.all place parts.0 (falls place parts.1))))) in
        let told = tells_chosen mesh d t.all cs t.tells in record {
          loops = loops;
          told = told ∙ ap (map told_by) (sym is);
          enough = grow.fewer (with_places z here (limited (is_sought now) sought))
              (limited (is_sought now) (with_places z (is_within_cap bound) sought)) loops whole (λ y p on.
              (let parts = and_parts (with_places z (is_within_cap bound) sought y p) (is_sought now p) on in
              elim (or_cases (sought y p) (eqb y z && is_within_cap bound p) parts.0) [
                | inl old ↦ or_left (limited (is_sought now) sought y p) (eqb y z && here p)
                    (and_from (sought y p) (is_sought now p) old parts.1)
                | inr new ↦
                    let there = and_parts (eqb y z) (is_within_cap bound p) new in
                    or_right (limited (is_sought now) sought y p) (eqb y z && here p)
                    (and_from (eqb y z) (here p) there.0 (and_from (is_within_cap bound p) (is_sought now p) there.1 parts.1))
              ]));
          order = order_from_sorted stands_before next (subst (Sorted stands_before) (sym is)
              (sorted_greedy numbers (λ (c : Signed). c.signature) is_nothing Decides-is_nothing stands_before [] cs sorted));
          independent = subst (λ ks. Independent numbers (signatures ks)) (sym is)
              ((greedy_law numbers is_nothing Decides-is_nothing (λ (c : Signed). c.signature)).independent cs);
        }

    -- a loop that is longer than those kept of which it is a sum depends on those that are shorter by as much, or no longer
    -- than a length
    longer_depends : (kept : List Signed) (loops : List Found) (least margin e sum : ℕ) (s : Signed) → e < edge_count mesh →
        All (IsFoundBy mesh lengths) loops → map (told_of mesh d) loops ≡ map told_by kept → IsInOrder stands_before kept →
        s.candidate.length ≡ loop_length mesh other (others z) e →
        s.signature ≡ class_of mesh d (loop_walk mesh (others z) e) → IsSumOfLength kept sum s.signature →
        (sum ≤ least) ⊎ (sum + margin ≤ s.candidate.length) →
        DependsOn mesh (walks_found (filter (λ k. is_shorter_by margin (loop_length mesh other (others z) e) k || leb k.size least) loops))
        (loop_walk mesh (others z) e)
    longer_depends kept loops least margin e sum s e_in by told order size own h long =
        let p : Found → Bool = λ k. is_shorter_by margin (loop_length mesh other (others z) e) k || leb k.size least in
        let class : Found → ℕ = λ k. class_of mesh d k.walk in
        let xs = map class (filter p loops) in
        let front = take h.count kept in
        let v = class_of mesh d (loop_walk mesh (others z) e) in
        let one : All (λ k. InSpan numbers xs k.signature) front = λ i c l.
        (let n = length-take-le h.count kept h.count_in in
        let count_in = h.count_in in
        let first : i < h.count = omega (arith, l, n) in
        let i_in : i < length kept = omega (arith, first, count_in) in
        let long_loops = tells_long mesh d loops kept told in
        let l_in : i < length loops = omega (arith, i_in, long_loops) in
        let k : Found = get_or loops i (record { size = 0; through = 0; walk = [] }) in
        let at = tells_at mesh d loops kept told i (record { size = 0; through = 0; walk = [] }) l_in in
        let c' = get_or kept i (signed_of mesh d (record { size = 0; through = 0; walk = [] })) in
        let same : c' ≡ get_or kept i c = get_or_default kept i (signed_of mesh d (record { size = 0; through = 0; walk = [] })) c i_in in
        let size_is : k.size ≡ c'.candidate.length = ap (λ (t : ℕ × (ℕ × ℕ)). t.0) at in
        let class_is : class k ≡ c'.signature = ap (λ (t : ℕ × (ℕ × ℕ)). t.1.1) at in
        let first_is = shorter_first kept sum s.signature c' i order h first in
        let own_at : get_or kept i c' ≡ c' = get_or_default kept i c' (signed_of mesh d (record { size = 0; through = 0; walk = [] })) i_in in
        let size_at = ap (λ (x : Signed). x.candidate.length) own_at in
        let fits : k.size ≤ sum = omega (arith, first_is, size_is, size_at) in
        subst (λ (x : Signed). InSpan numbers xs x.signature) (same ∙ sym (get_or-take h.count kept i c first))
        (subst (InSpan numbers xs) class_is
        (member_in numbers class p loops k (Contains-get_or loops i (record { size = 0; through = 0; walk = [] }) l_in) (elim long [
          | inl low ↦
              or_right (is_shorter_by margin (loop_length mesh other (others z) e) k) (leb k.size least)
              (le-leb k.size least (omega (arith, fits, low)))
          | inr far ↦
              or_left (is_shorter_by margin (loop_length mesh other (others z) e) k) (leb k.size least)
              (le-leb (k.size + margin) (loop_length mesh other (others z) e) (omega (arith, fits, far, size)))
        ])))) in
        depends_from_spanned mesh d surface split (walks_found (filter p loops)) (loop_walk mesh (others z) e)
        (all_mapped (IsClosed mesh) (λ k. k.walk) (filter p loops)
        (all_filtered p (λ k. IsClosed mesh k.walk) loops (recursion_from_All (λ k. IsClosed mesh k.walk) loops
        (found_are_walks mesh lengths loops surface positive by).closed)))
        (loop_closed mesh other others surface shortest_too z e z_in e_in)
        (subst (λ vs. Spanned numbers vs v) (sym (map-map (class_of mesh d) (λ k. k.walk) (filter p loops)))
        (spanned_from_in numbers xs v (trans_in numbers xs (signatures front) v
        (all_signed xs front (recursion_from_All (λ k. InSpan numbers xs k.signature) front one))
        (in_from_spanned numbers (signatures front) v (subst (Spanned numbers (signatures front)) own h.sum)))))

    -- so it is of all loops at the vertex that are at most so long
    all_depend : (kept : List Signed) (loops : List Found) (least margin most : ℕ) (wide : Option Candidate) (found : List Signed) →
        All (IsFoundBy mesh lengths) loops → map (told_of mesh d) loops ≡ map told_by kept → IsInOrder stands_before kept →
        AreFoundBy mesh other others d wide z found →
        ((e : ℕ) → loop_length mesh other (others z) e ≤ most → IsTrue (is_sought wide (place_at mesh other others z e))) →
        AreLongerOr kept least margin found → DependOnShorterOr mesh other others z most margin least loops
    all_depend kept loops least margin most wide found by told order h sought long e e_in le =
        let walk = loop_walk mesh (others z) e in
        elim (cases_eq (class_of mesh d walk) 0) [
          | inl zero_is ↦ depends_null mesh _ walk
              (zero_null mesh other others surface positive_too shortest_too d split z e z_in e_in zero_is)
          | inr some ↦
              let (c, has, from_is, edge_is) = h.all e e_in some (sought e le) in
              let r : IsFound mesh other others d c = All-contains (IsFound mesh other others d) found c h.each has in
              let size : c.candidate.length ≡ loop_length mesh other (others z) e =
              r.size ∙ ap (λ y. loop_length mesh other (others y) c.candidate.edge) from_is
              ∙ ap (loop_length mesh other (others z)) edge_is in
              let own : c.signature ≡ class_of mesh d walk =
              r.signature ∙ ap (λ y. class_of mesh d (loop_walk mesh (others y) c.candidate.edge)) from_is
              ∙ ap (λ f. class_of mesh d (loop_walk mesh (others z) f)) edge_is in
              let (sum, is, far) = All-contains (λ s. (sum : ℕ) × IsSumOfLength kept sum s.signature
              × ((sum ≤ least) ⊎ (sum + margin ≤ s.candidate.length))) found c long has in
              longer_depends kept loops least margin e sum c e_in by told order size own is far
        ]

    -- the vertices near one at which all loops are longer need no search
    pub kept_near : (limit now wide : Option Candidate) (far least margin : ℕ) (kept found : List Signed) →
        IsCapped limit bound now → KeptTo limit sought kept → AreFoundBy mesh other others d wide z found → 2 * far < margin →
        margin ≤ spare_of now wide → AreLongerOr kept least margin found →
        KeptTo limit (with_near_places others z far (is_beyond least bound) sought) kept
    kept_near limit None wide far least margin kept found are k h less within long = absurd (omega (arith, less, within))
    kept_near limit (Some c) None far least margin kept found are k h less within long = absurd (omega (arith, less, within))
    kept_near limit (Some c) (Some w) far least margin kept found are k h less within long =
        let here = both (is_beyond least bound) (is_sought limit) in
        let whole : AreEnoughFor mesh lengths trees (with_near_places others z far here (limited (is_sought limit) sought)) k.loops =
        near_places_need_no_more mesh lengths other trees others (limited (is_sought limit) sought) set z far least c.length here
        k.loops surface positive positive_too shortest shortest_too agree z_in k.enough
        (limited_start (is_sought limit) sought (limit_start limit) starts)
        (λ n p in_set is_here. (let parts = and_parts (is_beyond least bound p) (is_sought limit p) is_here in
        and_from (sought n p) (is_sought limit p)
        (as_far n p in_set (and_parts (is_within_cap bound p) (not (leb p.0 least)) parts.0).0) parts.1))
        (λ p is_here. (let parts = and_parts (is_beyond least bound p) (is_sought limit p) is_here in
        let there = and_parts (is_within_cap bound p) (not (leb p.0 least)) parts.0 in
        (beyond_least least p.0 there.1, no_longer c.length c.base p.0 p.1 (are.all p there.0 parts.1))))
        (all_depend kept k.loops least (suc (2 * far)) (c.length + 2 * far) (Some w) found k.enough.loops k.told k.order h
        (λ e le. shorter_sooner w.length w.base (loop_length mesh other (others z) e) (least_base mesh others z e)
        (omega (arith, le, less, within)))
        (λ i s l. (let (sum, is, one) = long i s l in (
          sum,
          is,
          elim one [
            | inl low ↦ inl low
            | inr more ↦ inr (omega (arith, more, less))
          ],
        )))) in record {
          loops = k.loops;
          told = k.told;
          enough = grow.fewer (with_near_places others z far here (limited (is_sought limit) sought))
              (limited (is_sought limit) (with_near_places others z far (is_beyond least bound) sought)) k.loops whole (λ y p on.
              (let parts = and_parts (with_near_places others z far (is_beyond least bound) sought y p) (is_sought limit p) on in
              elim (or_cases (sought y p) (leb ((others z).rank y) far && is_beyond least bound p) parts.0) [
                | inl old ↦ or_left (limited (is_sought limit) sought y p) (leb ((others z).rank y) far && here p)
                    (and_from (sought y p) (is_sought limit p) old parts.1)
                | inr new ↦
                    let there = and_parts (leb ((others z).rank y) far) (is_beyond least bound p) new in
                    or_right (limited (is_sought limit) sought y p) (leb ((others z).rank y) far && here p)
                    (and_from (leb ((others z).rank y) far) (here p) there.0
                    (and_from (is_beyond least bound p) (is_sought limit p) there.1 parts.1))
              ]));
          order = k.order;
          independent = k.independent;
        }

-- one more of some loops
pub longer_more : (kept : List Signed) (least old new sum i : ℕ) (found : List Signed) (s : Signed) → i < length found →
    s ≡ get_or found i s → new ≤ old → AreLongerOr kept least old (take i found) → IsSumOfLength kept sum s.signature →
    (sum ≤ least) ⊎ (sum + new ≤ s.candidate.length) → AreLongerOr kept least new (take (i + 1) found)
longer_more kept least old new sum i found s l same le all is one =
    subst (AreLongerOr kept least new) (sym (take_more found i s l ∙ ap (λ x. take i found ++ x ∷ []) (sym same)))
    (All-append (λ c. (n : ℕ) × IsSumOfLength kept n c.signature × ((n ≤ least) ⊎ (n + new ≤ c.candidate.length)))
    (take i found) (s ∷ [])
    (λ k d k_in. (let (n, are, far) = all k d k_in in (
      n,
      are,
      elim far [
        | inl low ↦ inl low
        | inr more ↦ inr (omega (arith, more, le))
      ],
    )))
    (All-from_recursion (λ c. (n : ℕ) × IsSumOfLength kept n c.signature × ((n ≤ least) ⊎ (n + new ≤ c.candidate.length)))
    (s ∷ []) ((sum, is, one), tt)))

-- the front of a list in order is so
pub sorted_front : (n : ℕ) (list : List Signed) → n ≤ length list → IsNonDecreasingBy order_of list →
    IsNonDecreasingBy order_of (take n list)
sorted_front n list n_in order i j s le l =
    let long = length-take-le n list n_in in
    let j_n : j < n = omega (arith, l, long) in
    let a = ap order_of (get_or-take n list i s (omega (arith, le, j_n))) in
    let b = ap order_of (get_or-take n list j s j_n) in
    let c = order i j s le (omega (arith, j_n, n_in)) in
    omega (arith, a, b, c)
