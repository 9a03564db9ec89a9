-- The loops that a search finds at a base, and those of them that are chosen.
use Rattle.surf_basis.proofs.Common.{based_at, IsOffered, AreOffered, loop_in, loops_in, IsSigned, ◌≡◌, ℕ, ◌+◌, ◌^◌, ◌<◌, ◌≤◌, ◌++◌, Bool, true, false, not, cond, List, [], ◌∷◌, length, get_or, map, filter, take, All, Contains, IsPermutation, Some, ◌⊎◌, refl, sym, ap, ◌∙◌, subst, arith, inl, inr, IsTrue, ◌==◌, AllByRecursion, cases_Bool, false≢true, le-leb, or_cases, eqb-true, nat_tests, length-map, get_or-map, take_more, map-append, all_filtered, Split, IsSplit, Tree, Mesh, edge_count, IsSurface, ArePositive, IsNull, cells_of, class_of, AreShortestTrees, loop_walk, loop_length, comes_before, loop_at, loops_at, comes_sooner, least_base, IsNonDecreasingBy, recursion_from_All, All-from_recursion, All-contains, Contains-get_or, filter_more, Contains-permutation, All-permutation, contains-map, choice_exists, least_base_on_way, shortest_trees, all_each, all_mapped, IsLoopAt, loops_each, SignTables, Candidate, Signed, Chosen, signed_earlier, independent_of, place_of, is_sought, order_of, all_kept, has_length, AreSigned, AreFoundBy, AreFirstFound, HasNoLater, precedes, IsShort, IsNext, is_left, class_small, zero_null}
use Rattle.surf_search.proofs.Common.{merge, Trees, AreChosen, Loop, place_at, IsFound}
use Rattle.surf_finder.specs.declared.told_loops.Ties.TheVariants.{LesserBase, LesserEdge}
use Rattle.std.proofs.lemmas.List.Sorted.{IsPermutation-append_right, IsPermutation-refl, IsPermutation-trans}
use Rattle.surf_firsts.specs.Firsts.{is_no_later, is_up_to, loops_up_to, IsLoopUpTo, AreLoopsUpTo}
use Rattle.surf_firsts.proofs.FirstLoops.{each_in, filter_twice, first_loops}
use Rattle.surf_basis.proofs.Kept.{kept_after}
use Rattle.surf_search.proofs.LeftOut.{IsRepeated, all_left, all_right, left_out, precedes_order, put_in, put_same}
use Rattle.surf_finder.proofs.Told.{sooner_size}

-- a candidate is the loop of its edge at the base, with its class, and at most so long
record IsBased (mesh : Mesh) (lengths : List ℕ) (trees : ℕ → Trees) (d : Split) (base most : ℕ) (c : Signed) : Type 0 where
  base_is : c.candidate.base ≡ base
  edge_in : c.candidate.edge < edge_count mesh
  size : c.candidate.length ≡ loop_length mesh lengths (trees base).tree c.candidate.edge
  within : c.candidate.length ≤ most
  signature : c.signature ≡ class_of mesh d (loop_walk mesh (trees base).tree c.candidate.edge)

-- ---- lists

-- one more that is listed as one of a base
pub based_more : (base : ℕ) (items : List Signed) (i : ℕ) (s x : Signed) (old new : List Signed) → old ≡ map (based_at base) (take i items) →
    i < length items → s ≡ get_or items i s → x ≡ based_at base s → new ≡ old ++ x ∷ [] → new ≡ map (based_at base) (take (i + 1) items)
based_more base items i s x old new was l same is push =
    push ∙ ap (λ (y : Signed). old ++ y ∷ []) is ∙ ap (λ (ys : List Signed). ys ++ based_at base s ∷ []) was
    ∙ sym (ap (map (based_at base)) (take_more items i s l ∙ ap (λ y. take i items ++ y ∷ []) (sym same))
    ∙ map-append (based_at base) (take i items) (s ∷ []))

-- one more that has one of some lengths, or not
pub with_more : (some : List ℕ) (items : List Signed) (i : ℕ) (s : Signed) (old new : List Signed) →
    old ≡ filter (λ (c : Signed). has_length some c.candidate.length) (take i items) → i < length items → s ≡ get_or items i s →
    new ≡ old ++ cond (has_length some s.candidate.length) (s ∷ []) [] →
    new ≡ filter (λ (c : Signed). has_length some c.candidate.length) (take (i + 1) items)
with_more some items i s old new was l same push =
    let fits : Signed → Bool = λ c. has_length some c.candidate.length in
    push ∙ ap (λ (ys : List Signed). ys ++ cond (fits s) (s ∷ []) []) was
    ∙ sym (filter_more fits items i s l ∙ ap (λ x. filter fits (take i items) ++ cond (fits x) (x ∷ []) []) (sym same))

-- a length among others is at most their greatest
has_within : (some : List ℕ) (n most : ℕ) → AllByRecursion (λ k. k ≤ most) some → has_length some n ≡ true → n ≤ most
has_within [] n most all h = absurd (false≢true h)
has_within (k ∷ ks) n most all h = elim (or_cases (k == n) (has_length ks n) h) [
  | inl same ↦ let is : k ≡ n = eqb-true k n same in let within = all.0 in omega (arith, is, within)
  | inr more ↦ has_within ks n most all.1 more
]

-- ---- the order at one base

sooner_by : (c d : Loop) → c.base ≡ d.base → comes_before d c ≡ true → (d.size < c.size) ⊎ ((d.size ≡ c.size) × (d.edge < c.edge))
sooner_by c d base h = grind (arith, nat_tests)

-- what is no greater by number comes no later as a loop at the same base
by_number : (mesh : Mesh) (trees : ℕ → Trees) (c d : Signed) → c.candidate.base ≡ d.candidate.base → c.candidate.edge < 2 ^ 32 →
    d.candidate.edge < 2 ^ 32 → order_of c ≤ order_of d →
    is_no_later (loop_in mesh trees c.candidate) (loop_in mesh trees d.candidate) ≡ true
by_number mesh trees c d base c_in d_in le =
    elim (cases_Bool (comes_before (loop_in mesh trees d.candidate) (loop_in mesh trees c.candidate))) [
      | inr off ↦ ap not off
      | inl on ↦ elim (sooner_by (loop_in mesh trees c.candidate) (loop_in mesh trees d.candidate) base on) [
        | inl less ↦ absurd (omega (arith, less, le, base, c_in, d_in))
        | inr same ↦ let size = same.0 in let edge = same.1 in absurd (omega (arith, size, edge, le, base))
      ]
    ]

soon : (a b c d : ℕ) → c ≤ a → d < b → comes_sooner (a, b) (c, d) ≡ true
soon a b c d h k = grind (arith, nat_tests)

-- those that have one of some lengths, as loops
with_loops : (mesh : Mesh) (trees : ℕ → Trees) (some : List ℕ) (cs : List Signed) →
    loops_in mesh trees (filter (λ (c : Signed). has_length some c.candidate.length) cs)
    ≡ filter (λ (c : Loop). has_length some c.size) (loops_in mesh trees cs)
with_loops mesh trees some [] = refl
with_loops mesh trees some (c ∷ cs) = split (has_length some c.candidate.length) (with_loops mesh trees some cs)
  where
    split : (b : Bool) →
        loops_in mesh trees (filter (λ (c : Signed). has_length some c.candidate.length) cs)
        ≡ filter (λ (c : Loop). has_length some c.size) (loops_in mesh trees cs) →
        loops_in mesh trees (cond b (c ∷ filter (λ (c : Signed). has_length some c.candidate.length) cs) (filter (λ (c : Signed). has_length some c.candidate.length) cs))
        ≡ cond b (loop_in mesh trees c.candidate ∷ filter (λ (c : Loop). has_length some c.size) (loops_in mesh trees cs))
        (filter (λ (c : Loop). has_length some c.size) (loops_in mesh trees cs))
    split true h = ap (λ ys. loop_in mesh trees c.candidate ∷ ys) h
    split false h = h

-- ---- the loops at a base

nobody : Signed
nobody = record { candidate = record { length = 0; base = 0; edge = 0 }; from = 0; signature = 0 }

module _ (mesh : Mesh) (lengths : List ℕ) (surface : IsSurface mesh) (positive : ArePositive mesh lengths)
    (few : edge_count mesh ≤ 2 ^ 32) (vertices_few : mesh.vertices < 2 ^ 32) (trees : ℕ → Trees)
    (chosen : AreChosen mesh lengths trees) (d : Split) (split : IsSplit (cells_of mesh) d) (z : ℕ)
    (z_in : z < mesh.vertices) (limit : Candidate) (last : limit.base ≡ 4294967295) where
  abbrev searched : ℕ → Tree
  searched x = (trees x).tree

  abbrev Right : Signed → Type 0
  Right = IsBased mesh lengths trees d z limit.length

  shortest : AreShortestTrees mesh lengths (λ x. (trees x).tree)
  shortest = shortest_trees mesh lengths surface positive trees chosen

  based_of : (s : Signed) → IsFound mesh lengths (λ x. (trees x).tree) d s → s.from ≡ z →
      IsTrue (is_sought (Some limit) (place_of s.candidate)) → Right (based_at z s)
  based_of s f from sought = record {
    base_is = refl;
    edge_in = f.edge_in;
    size = f.size ∙ ap (λ x. loop_length mesh lengths (trees x).tree s.candidate.edge) from;
    within = sooner_size limit.length limit.base s.candidate.length s.candidate.base sought;
    signature = f.signature ∙ ap (λ x. class_of mesh d (loop_walk mesh (trees x).tree s.candidate.edge)) from;
  }

  -- it is the loop of its edge
  based_loop : (c : Signed) → Right c → loop_in mesh trees c.candidate ≡ loop_at mesh lengths z (trees z).tree c.candidate.edge
  based_loop c r =
      let e = c.candidate.edge in
      let own : ℕ → ℕ → Loop = λ n b. record { size = n; base = b; edge = e; walk = loop_walk mesh (trees b).tree e } in
      ap (λ n. own n c.candidate.base) r.size ∙ ap (own (loop_length mesh lengths (trees z).tree e)) r.base_is

  module _ (found list : List Signed) (h : AreFoundBy mesh lengths (λ x. (trees x).tree) d (Some limit) z found)
      (same : IsPermutation (map (based_at z) found) list) (sorted : IsNonDecreasingBy order_of list) where
    list_each : All (IsBased mesh lengths trees d z limit.length) list
    list_each =
        All-permutation Right (map (based_at z) found) list same
        (All-from_recursion Right (map (based_at z) found)
        (all_mapped Right (based_at z) found
        (recursion_from_All (λ s. Right (based_at z s)) found
        (λ k c l. based_of (get_or found k c) (h.each k c l) (h.here k c l) (h.sooner k c l)))))

    in_list : (c : Signed) → Contains list c → Right c
    in_list c has = All-contains Right list c list_each has

    up_to_each : All (IsLoopUpTo mesh lengths z limit.length (trees z).tree) (loops_in mesh trees list)
    up_to_each =
        All-from_recursion (IsLoopUpTo mesh lengths z limit.length (trees z).tree) (loops_in mesh trees list)
        (all_mapped (IsLoopUpTo mesh lengths z limit.length (trees z).tree) (λ (c : Signed). loop_in mesh trees c.candidate) list
        (all_each Right (λ c. IsLoopUpTo mesh lengths z limit.length (trees z).tree (loop_in mesh trees c.candidate)) list
        (λ c r. record { edge_in = r.edge_in; is = based_loop c r; within = r.within })
        (recursion_from_All Right list list_each)))

    up_to_all : (e : ℕ) → e < edge_count mesh → (IsNull mesh (loop_walk mesh (trees z).tree e) → ⊥) →
        loop_length mesh lengths (trees z).tree e ≤ limit.length →
        Contains (loops_in mesh trees list) (loop_at mesh lengths z (trees z).tree e)
    up_to_all e e_in some within =
        let base_in = (least_base_on_way mesh lengths (λ x. (trees x).tree) surface positive shortest z e z_in e_in).0 in
        let sought : is_sought (Some limit) (place_at mesh lengths (λ x. (trees x).tree) z e) ≡ true =
        soon limit.length limit.base (loop_length mesh lengths (trees z).tree e) (least_base mesh (λ x. (trees x).tree) z e) within
        (omega (arith, base_in, vertices_few, last)) in
        let (c, has, from, edge) = h.all e e_in
        (λ zero_is. some (zero_null mesh lengths (λ x. (trees x).tree) surface positive shortest d split z e z_in e_in zero_is)) sought in
        let here : Contains list (based_at z c) = Contains-permutation (map (based_at z) found) list (based_at z c) same
        (contains-map (based_at z) found c has) in
        subst (Contains (loops_in mesh trees list))
        (based_loop (based_at z c) (in_list (based_at z c) here) ∙ ap (loop_at mesh lengths z (trees z).tree) edge)
        (contains-map (λ (c : Signed). loop_in mesh trees c.candidate) list (based_at z c) here)

    up_to_at : (i j : ℕ) → i < j → j < length list →
        is_no_later (loop_in mesh trees (get_or list i nobody).candidate) (loop_in mesh trees (get_or list j nobody).candidate) ≡ true
    up_to_at i j before l =
        let a = list_each i nobody (omega (arith, before, l)) in
        let b = list_each j nobody l in
        by_number mesh trees (get_or list i nobody) (get_or list j nobody) (a.base_is ∙ sym b.base_is)
        (omega (arith, a.edge_in, few)) (omega (arith, b.edge_in, few)) (sorted i j nobody (omega (arith, before)) l)

    up_to : AreLoopsUpTo mesh lengths z limit.length (trees z).tree (loops_in mesh trees list)
    up_to = record {
      each = up_to_each;
      all = up_to_all;
      order = λ i j x before l.
          (let n = length-map list (λ (c : Signed). loop_in mesh trees c.candidate) in
          let l' : j < length list = omega (arith, l, n) in
          let at : (k : ℕ) → k < length list → get_or (loops_in mesh trees list) k x ≡ loop_in mesh trees (get_or list k nobody).candidate =
          λ k. get_or-map (λ (c : Signed). loop_in mesh trees c.candidate) list k nobody x in
          ap (λ c. is_no_later c (get_or (loops_in mesh trees list) j x)) (at i (omega (arith, before, l')))
          ∙ ap (is_no_later (loop_in mesh trees (get_or list i nobody).candidate)) (at j l')
          ∙ up_to_at i j before l');
    }

    -- the first independent ones are those that are chosen
    kept_loops : loops_in mesh trees (independent_of list) ≡ loops_up_to mesh lengths z (trees z) limit.length
    kept_loops =
        sym (kept_after mesh trees d [] list
        (all_each Right (λ c. c.signature ≡ class_of mesh d (loop_in mesh trees c.candidate).walk) list
        (λ c r. r.signature ∙ ap (λ b. class_of mesh d (loop_walk mesh (trees b).tree c.candidate.edge)) (sym r.base_is))
        (recursion_from_All Right list list_each)))
        ∙ first_loops mesh lengths z limit.length (trees z) surface positive (chosen z z_in) (loops_in mesh trees list) up_to d split

    kept_signed : All (IsSigned mesh lengths trees d) (independent_of list)
    kept_signed k c l =
        let kept = independent_of list in
        let x = get_or kept k c in
        let has = Contains-get_or kept k c l in
        let r : Right x = All-contains Right kept x (all_kept Right list list_each) has in
        let there : Contains (loops_up_to mesh lengths z (trees z) limit.length) (loop_in mesh trees x.candidate) =
        subst (λ cs. Contains cs (loop_in mesh trees x.candidate)) kept_loops
        (contains-map (λ (c : Signed). loop_in mesh trees c.candidate) kept x has) in
        let at = each_in (IsLoopAt mesh lengths z (trees z)) (loops_up_to mesh lengths z (trees z) limit.length) (loop_in mesh trees x.candidate)
        (all_filtered (is_up_to limit.length) (IsLoopAt mesh lengths z (trees z)) (loops_at mesh lengths z (trees z)) (loops_each mesh lengths z (trees z)))
        there in
        let e = x.candidate.edge in
        record {
          base_in = subst (λ b. b < mesh.vertices) (sym r.base_is) z_in;
          edge_in = r.edge_in;
          left = subst (λ b. IsTrue (is_left mesh (trees b).tree (trees b).cotree e)) (sym r.base_is) at.left;
          size = r.size ∙ ap (λ b. loop_length mesh lengths (trees b).tree e) (sym r.base_is);
          signature = r.signature ∙ ap (λ b. class_of mesh d (loop_walk mesh (trees b).tree e)) (sym r.base_is);
        }

    pub offered_of : (some : List ℕ) (loops : List Signed) → AllByRecursion (λ n. n ≤ limit.length) some →
        loops ≡ filter (λ (c : Signed). has_length some c.candidate.length) (independent_of list) →
        IsOffered mesh lengths trees d some z loops
    offered_of some loops within is =
        let fits : Signed → Bool = λ c. has_length some c.candidate.length in
        subst (IsOffered mesh lengths trees d some z) (sym is) (record {
          loops_are =
              with_loops mesh trees some (independent_of list) ∙ ap (filter (λ c. has_length some c.size)) kept_loops
              ∙ filter_twice (is_up_to limit.length) (λ c. has_length some c.size)
              (λ c on. le-leb c.size limit.length (has_within some c.size limit.length within on)) (loops_at mesh lengths z (trees z));
          signed = All-from_recursion (IsSigned mesh lengths trees d) (filter fits (independent_of list))
              (all_filtered fits (IsSigned mesh lengths trees d) (independent_of list)
              (recursion_from_All (IsSigned mesh lengths trees d) (independent_of list) kept_signed));
        })

-- what comes of nothing is the first independent ones of a list in order
sorted_of : (old new : Chosen) (based : List Signed) → old.kept ≡ [] → IsNext old based new →
    (list : List Signed) × IsPermutation based list × IsNonDecreasingBy order_of list × (new.kept ≡ independent_of list)
sorted_of old new based none (inl (empty, same)) = (
  [],
  subst (λ cs. IsPermutation cs []) (sym empty) (IsPermutation-refl []),
  λ i j d le l. absurd (omega (arith, l)),
  ap (λ (c : Chosen). c.kept) same ∙ none,
)
sorted_of old new based none (inr m) = (
  m.list,
  m.same,
  m.sorted,
  ap (λ (c : Chosen). c.kept) m.new_is ∙ ap (λ ks. independent_of (merge signed_earlier ks m.list)) none,
)

-- what precedes does so as a loop of the same base
precedes_based : (z : ℕ) (c d : Signed) → precedes LesserEdge c.candidate d.candidate ≡ true →
    precedes LesserBase (based_at z c).candidate (based_at z d).candidate ≡ true
precedes_based z c d on = grind (arith, nat_tests)

-- with those that are left out as loops of the base they are loops in order, of which the same are chosen
with_left : (z : ℕ) (left found list : List Signed) → All IsShort (map (based_at z) (left ++ found)) → All (HasNoLater LesserEdge found) left →
    IsPermutation (map (based_at z) found) list → IsNonDecreasingBy order_of list →
    (whole : List Signed) × IsPermutation (map (based_at z) (left ++ found)) whole × IsNonDecreasingBy order_of whole
    × (independent_of whole ≡ independent_of list)
with_left z left found list short no_later same sorted =
    let own = map (based_at z) left in
    let based = map (based_at z) found in
    let parts = subst (All IsShort) (map-append (based_at z) left found) short in
    let based_short = all_right IsShort own based parts in
    let repeated : All (IsRepeated list) own = All-from_recursion (IsRepeated list) own (all_mapped (IsRepeated list) (based_at z) left
    (all_each (HasNoLater LesserEdge found) (λ s. IsRepeated list (based_at z s)) left (λ s n.
    (let has = contains-map (based_at z) found n.loop n.listed in (
      based_at z n.loop,
      Contains-permutation based list (based_at z n.loop) same has,
      n.class,
      precedes_order (based_at z n.loop) (based_at z s) (All-contains IsShort based (based_at z n.loop) based_short has)
          (precedes_based z n.loop s n.no_later),
    ))) (recursion_from_All (HasNoLater LesserEdge found) left no_later))) in
    let (order, chosen) = left_out own list (all_left IsShort own based parts) (All-permutation IsShort based list same based_short) sorted repeated in (
      put_in own list,
      subst (λ xs. IsPermutation xs (put_in own list)) (sym (map-append (based_at z) left found))
          (IsPermutation-trans (own ++ based) (own ++ list) (put_in own list) (IsPermutation-append_right own based list same) (put_same own list)),
      order,
      chosen [],
    )

pub offered_at : (mesh : Mesh) (lengths : List ℕ) → IsSurface mesh → ArePositive mesh lengths → edge_count mesh ≤ 2 ^ 32 →
    mesh.vertices < 2 ^ 32 → (s : SignTables) (some : List ℕ) (z : ℕ) → z < mesh.vertices → (limit : Candidate) → limit.base ≡ 4294967295 →
    (found based kept loops : List Signed) (old new : Chosen) → All (λ n. n ≤ limit.length) some →
    AreFirstFound LesserEdge mesh lengths s (Some limit) z found → based ≡ map (based_at z) found → old.kept ≡ [] → IsNext old based new →
    kept ≡ new.kept → loops ≡ filter (λ (c : Signed). has_length some c.candidate.length) kept → AreOffered mesh lengths s some z loops
offered_at mesh lengths surface positive few vertices_few s some z z_in limit last found based kept loops old new within first based_is
    none next kept_is is trees chosen d split signs =
    let (list, same, sorted, chosen_is) = sorted_of old new based none next in
    let all = first.left ++ found in
    let are = first.are trees chosen d signs in
    let Right : Signed → Type 0 = IsFound mesh lengths (λ x. (trees x).tree) d in
    let short : All IsShort (map (based_at z) all) = All-from_recursion IsShort (map (based_at z) all) (all_mapped IsShort (based_at z) all
    (all_each Right (λ s. IsShort (based_at z s)) all
    (λ s r. record { base = omega (arith, z_in, vertices_few); edge = omega (arith, r.edge_in, few) }) (recursion_from_All Right all are.each))) in
    let (whole, moved, order, alike) = with_left z first.left found list short first.no_later
    (subst (λ cs. IsPermutation cs list) based_is same) sorted in
    offered_of mesh lengths surface positive few vertices_few trees chosen d split z z_in limit last all whole are moved order some loops
    (recursion_from_All (λ n. n ≤ limit.length) some within)
    (is ∙ ap (filter (λ (c : Signed). has_length some c.candidate.length)) (kept_is ∙ chosen_is ∙ sym alike))

-- classes are as small as there are left edges
pub based_small : (z width : ℕ) (found based : List Signed) → All (λ c. c.signature < 2 ^ width) found → based ≡ map (based_at z) found →
    All (λ c. c.signature < 2 ^ width) based
based_small z width found based small is =
    subst (All (λ c. c.signature < 2 ^ width)) (sym is)
    (All-from_recursion (λ c. c.signature < 2 ^ width) (map (based_at z) found)
    (all_mapped (λ c. c.signature < 2 ^ width) (based_at z) found (recursion_from_All (λ c. c.signature < 2 ^ width) found small)))

pub offered_small : (mesh : Mesh) (lengths : List ℕ) → IsSurface mesh → ArePositive mesh lengths → (s : SignTables) (width : ℕ) →
    AreSigned mesh s width → (some : List ℕ) (z : ℕ) (loops : List Signed) → AreOffered mesh lengths s some z loops →
    All (λ c. c.signature < 2 ^ width) loops
offered_small mesh lengths surface positive s width signed some z loops h =
    let (trees, chosen) = choice_exists mesh lengths surface positive in
    let each = (h trees chosen signed.split signed.is_split signed.signatures).signed in
    λ k c l. subst (λ n. n < 2 ^ width) (sym (each k c l).signature)
    (class_small mesh signed.split (loop_walk mesh (trees (get_or loops k c).candidate.base).tree (get_or loops k c).candidate.edge) width signed.count)
