-- Loops that may be left out: each has the class of one that is no later, so that the same are kept.
use Rattle.surf_search.proofs.Common.{◌≡◌, ℕ, zero, suc, ◌<◌, ◌≤◌, ◌+◌, ◌*◌, ◌^◌, ◌⊎◌, Bool, true, false, leb, leb-true, le-leb, cond, List, [], ◌∷◌, ◌++◌, length, get_or, All, Contains, IsPermutation, refl, sym, ap, ◌∙◌, subst, arith, inl, inr, IsTrue, AllByRecursion, cases_Bool, cases_lt, nat_tests, recursion_from_All, All-from_recursion, All-contains, All-append, All-permutation, Contains-permutation, Contains-append_cases, Contains-append_left, Contains-append_right, Contains-get_or, IsNonDecreasingBy, Sorted, sorted_from_order, order_from_sorted, all_each, merge, greedy_after, numbers, is_nothing, spans, Decides-is_nothing, InSpan, Candidate, Signed, signed_earlier, independent_of, order_of, IsShort, earlier, HasNoLater, precedes, ◌-◌, take, filter, Option, All-take, choice_exists, shortest_trees, Mesh, IsSurface, ArePositive, edge_count, Chosen, SignTables, SurfaceTables, AreFirstFound, AreLongerOr, IsSumOfLength, AreSigned, IsKeptAt, IsWider, place_of, is_sought, is_no_later, sorted_by_number}
use Rattle.surf_finder.specs.declared.told_loops.Ties.{Ties}
use Rattle.surf_finder.specs.declared.told_loops.Ties.TheVariants.{LesserBase}
use Rattle.surf_choice.specs.Candidates.{has_next}
use Rattle.surf_z2.proofs.Span.{head_in}
use Rattle.surf_z2.proofs.Basics.{in_left, in_right}
use Rattle.surf_z2.proofs.Greedy.{in_from_spans, spans_from_in}
use Rattle.std.proofs.lemmas.List.Elements.{All-filter}
use Rattle.std.proofs.lemmas.List.Sorted.{IsPermutation-refl, IsPermutation-trans, IsPermutation-cons, IsPermutation-middle, IsPermutation-append_right}
use Rattle.surf_search.proofs.Capped.{found_among, front_has, front_sooner, limit_start, sorted_front}
use Rattle.surf_finder.proofs.Searched.{found_permuted, found_short, found_small}

-- ---- loops put among others in order

abbrev by_order : Signed → Signed → Bool
by_order c d = leb (order_of c) (order_of d)

abbrev inserted : Signed → List Signed → List Signed
inserted s [] = s ∷ []
inserted s (d ∷ ds) = cond (by_order d s) (d ∷ inserted s ds) (s ∷ d ∷ ds)

abbrev pub put_in : List Signed → List Signed → List Signed
put_in [] ds = ds
put_in (s ∷ left) ds = inserted s (put_in left ds)

inserted_same : (s : Signed) (ds : List Signed) → IsPermutation (s ∷ ds) (inserted s ds)
inserted_same s [] = IsPermutation-refl (s ∷ [])
inserted_same s (d ∷ ds) = elim (cases_Bool (by_order d s)) [
  | inl on ↦ rw on (IsPermutation-trans (s ∷ d ∷ ds) (d ∷ s ∷ ds) (d ∷ inserted s ds) (IsPermutation-middle (s ∷ []) d ds)
      (IsPermutation-cons d (s ∷ ds) (inserted s ds) (inserted_same s ds)))
  | inr off ↦ rw off (IsPermutation-refl (s ∷ d ∷ ds))
]

pub put_same : (left ds : List Signed) → IsPermutation (left ++ ds) (put_in left ds)
put_same [] ds = IsPermutation-refl ds
put_same (s ∷ left) ds = IsPermutation-trans (s ∷ left ++ ds) (s ∷ put_in left ds) (inserted s (put_in left ds))
    (IsPermutation-cons s (left ++ ds) (put_in left ds) (put_same left ds)) (inserted_same s (put_in left ds))

inserted_sorted : (s : Signed) (ds : List Signed) → Sorted by_order ds → Sorted by_order (inserted s ds)
inserted_sorted s [] h = (tt, tt)
inserted_sorted s (d ∷ ds) h = elim (cases_Bool (by_order d s)) [
  | inl on ↦ rw on (
    recursion_from_All (λ e. by_order d e ≡ true) (inserted s ds) (All-permutation (λ e. by_order d e ≡ true) (s ∷ ds) (inserted s ds)
        (inserted_same s ds) (All-from_recursion (λ e. by_order d e ≡ true) (s ∷ ds) (on, h.0))),
    inserted_sorted s ds h.1,
  )
  | inr off ↦ rw off (
    let less : by_order s d ≡ true = grind (arith, nat_tests) in
        (less, all_each (λ e. by_order d e ≡ true) (λ e. by_order s e ≡ true) ds (λ e on. grind (arith, nat_tests)) h.0),
    h,
  )
]

-- ---- what is kept where one more is put in

abbrev after : List ℕ → List Signed → List Signed
after before cs = greedy_after numbers is_nothing (λ (c : Signed). c.signature) before cs

-- its signature is a sum of what was kept, or that of a loop to come that is no later
abbrev IsOver : List ℕ → List Signed → Signed → Type 0
IsOver before ds s = InSpan numbers before s.signature
    ⊎ ((t : Signed) × Contains ds t × (t.signature ≡ s.signature) × (order_of t ≤ order_of s))

skipped : (before : List ℕ) (s : Signed) (ds : List Signed) → InSpan numbers before s.signature → after before (s ∷ ds) ≡ after before ds
skipped before s ds sum = rw (spans_from_in numbers is_nothing Decides-is_nothing before s.signature sum) refl

-- two lists go on alike after one
same_next : (before : List ℕ) (k : Signed) (xs ys : List Signed) → ((more : List ℕ) → InSpan numbers more k.signature →
    ((v : ℕ) → InSpan numbers before v → InSpan numbers more v) → after more xs ≡ after more ys) → after before (k ∷ xs) ≡ after before (k ∷ ys)
same_next before k xs ys h = elim (cases_Bool (spans numbers is_nothing before k.signature)) [
  | inl old ↦ rw old (h before (in_from_spans numbers is_nothing Decides-is_nothing before k.signature old) (λ v is. is))
  | inr new ↦ rw new (ap (λ zs. k ∷ zs) (h (before ++ k.signature ∷ [])
      (in_right numbers before (k.signature ∷ []) k.signature (head_in numbers k.signature []))
      (λ v is. in_left numbers before (k.signature ∷ []) v is)))
]

merge_takes : (k : Signed) (ks ds : List Signed) → has_next (k ∷ []) ds ≡ true →
    merge signed_earlier (k ∷ ks) ds ≡ k ∷ merge signed_earlier ks ds
merge_takes k ks [] h = refl
merge_takes k ks (d ∷ ds) h = rw h refl

-- put before those to come it changes nothing
put_first : (before : List ℕ) (ks ds : List Signed) (s : Signed) →
    ((k : Signed) → signed_earlier k s ≡ true → has_next (k ∷ []) ds ≡ true) → InSpan numbers before s.signature →
    after before (merge signed_earlier ks (s ∷ ds)) ≡ after before (merge signed_earlier ks ds)
put_first before [] ds s next sum = skipped before s ds sum
put_first before (k ∷ ks) ds s next sum = elim (cases_Bool (signed_earlier k s)) [
  | inl on ↦ rw on (same_next before k (merge signed_earlier ks (s ∷ ds)) (merge signed_earlier ks ds)
      (λ more has keep. put_first more ks ds s next (keep s.signature sum)) ∙ ap (after before) (sym (merge_takes k ks ds (next k on))))
  | inr off ↦ rw off (skipped before s (merge signed_earlier (k ∷ ks) ds) sum)
]

over_kept : (before more : List ℕ) (ds : List Signed) (s : Signed) → ((v : ℕ) → InSpan numbers before v → InSpan numbers more v) →
    IsOver before ds s → IsOver more ds s
over_kept before more ds s keep (inl sum) = inl (keep s.signature sum)
over_kept before more ds s keep (inr t) = inr t

over_passed : (more : List ℕ) (d : Signed) (ds : List Signed) (s : Signed) → InSpan numbers more d.signature → IsOver more (d ∷ ds) s →
    IsOver more ds s
over_passed more d ds s has (inl sum) = inl sum
over_passed more d ds s has (inr (t, (zero, l, e), class, le)) =
    inl (subst (InSpan numbers more) (ap (λ (x : Signed). x.signature) e ∙ class) has)
over_passed more d ds s has (inr (t, (suc k, l, e), class, le)) = inr (t, (k, omega arith, e), class, le)

-- after one that is no later it is as after that
put_later : (d s : Signed) (ds : List Signed) →
    ((before : List ℕ) (ks : List Signed) → IsOver before ds s →
    after before (merge signed_earlier ks (inserted s ds)) ≡ after before (merge signed_earlier ks ds)) →
    (before : List ℕ) (ks : List Signed) → IsOver before (d ∷ ds) s →
    after before (merge signed_earlier ks (d ∷ inserted s ds)) ≡ after before (merge signed_earlier ks (d ∷ ds))
put_later d s ds rest before [] over = same_next before d (inserted s ds) ds
    (λ more has keep. rest more [] (over_passed more d ds s has (over_kept before more (d ∷ ds) s keep over)))
put_later d s ds rest before (k ∷ ks) over = elim (cases_Bool (signed_earlier k d)) [
  | inl on ↦ rw on (same_next before k (merge signed_earlier ks (d ∷ inserted s ds)) (merge signed_earlier ks (d ∷ ds))
      (λ more has keep. put_later d s ds rest more ks (over_kept before more (d ∷ ds) s keep over)))
  | inr off ↦ rw off (same_next before d (merge signed_earlier (k ∷ ks) (inserted s ds)) (merge signed_earlier (k ∷ ks) ds)
      (λ more has keep. rest more (k ∷ ks) (over_passed more d ds s has (over_kept before more (d ∷ ds) s keep over))))
]

less_earlier : (a b x c d y : ℕ) → b < 2 ^ 32 → x < 2 ^ 32 → d < 2 ^ 32 → y < 2 ^ 32 → a * 2 ^ 64 + b * 2 ^ 32 + x < c * 2 ^ 64 + d * 2 ^ 32 + y →
    (a < c) ⊎ ((a ≡ c) × ((b < d) ⊎ ((b ≡ d) × (x < y))))
less_earlier a b x c d y lb lx ld ly less = elim (cases_lt a c) [
  | inl first ↦ inl first
  | inr more ↦
      let same : a ≡ c = omega (arith, less, more, lb, lx, ld, ly) in
      elim (cases_lt b d) [
        | inl second ↦ inr (same, inl second)
        | inr past ↦ inr (same, inr (omega (arith, less, same, past, lx, ly), omega (arith, less, same, past, lx, ly)))
      ]
]

earlier_on : (k s d : Candidate) → earlier k s ≡ true →
    (s.length < d.length) ⊎ ((s.length ≡ d.length) × ((s.base < d.base) ⊎ ((s.base ≡ d.base) × (s.edge < d.edge)))) → earlier k d ≡ true
earlier_on k s d on (inl less) = grind (arith, nat_tests)
earlier_on k s d on (inr (same, inl less)) = grind (arith, nat_tests)
earlier_on k s d on (inr (same, inr (too, less))) = grind (arith, nat_tests)

put_over : (s : Signed) (ds : List Signed) → IsShort s → AllByRecursion IsShort ds → Sorted by_order ds →
    (before : List ℕ) (ks : List Signed) → IsOver before ds s →
    after before (merge signed_earlier ks (inserted s ds)) ≡ after before (merge signed_earlier ks ds)
put_over s [] short all sorted before ks (inl sum) = put_first before ks [] s (λ k on. refl) sum
put_over s [] short all sorted before ks (inr (t, (k, l, e), class, le)) = absurd (omega (arith, l))
put_over s (d ∷ ds) short all sorted before ks over = elim (cases_Bool (by_order d s)) [
  | inl on ↦ rw on (put_later d s ds (put_over s ds short all.1 sorted.1) before ks over)
  | inr off ↦ rw off (put_first before ks (d ∷ ds) s
      (λ k on. earlier_on k.candidate s.candidate d.candidate on (less_earlier s.candidate.length s.candidate.base s.candidate.edge
      d.candidate.length d.candidate.base d.candidate.edge short.base short.edge all.0.base all.0.edge (grind (arith, nat_tests))))
      (elim over [
        | inl sum ↦ sum
        | inr (t, has, class, le) ↦
            let up : by_order d t ≡ true = All-contains (λ e. by_order d e ≡ true) (d ∷ ds) t
            (All-from_recursion (λ e. by_order d e ≡ true) (d ∷ ds) (le-leb (order_of d) (order_of d) (omega arith), sorted.0)) has in
            absurd (grind (arith, nat_tests))
      ]))
]

-- ---- all of them

-- a loop is listed that has the class of another and is no later in order
abbrev pub IsRepeated : List Signed → Signed → Type 0
IsRepeated ds s = (t : Signed) × Contains ds t × (t.signature ≡ s.signature) × (order_of t ≤ order_of s)

puts_over : (left ds : List Signed) → AllByRecursion IsShort left → All IsShort ds → Sorted by_order ds →
    AllByRecursion (IsRepeated ds) left → Sorted by_order (put_in left ds) × ((ks : List Signed) →
    independent_of (merge signed_earlier ks (put_in left ds)) ≡ independent_of (merge signed_earlier ks ds))
puts_over [] ds short all sorted repeated = (sorted, λ ks. refl)
puts_over (s ∷ left) ds short all sorted (r, repeated) =
    let rest = puts_over left ds short.1 all sorted repeated in
    let those = recursion_from_All IsShort (put_in left ds) (All-permutation IsShort (left ++ ds) (put_in left ds) (put_same left ds)
    (All-append IsShort left ds (All-from_recursion IsShort left short.1) all)) in (
      inserted_sorted s (put_in left ds) rest.0,
      λ ks. put_over s (put_in left ds) short.0 those rest.0 [] ks
          (inr (r.0, Contains-permutation (left ++ ds) (put_in left ds) r.0 (put_same left ds) (Contains-append_right left ds r.0 r.1), r.2, r.3)) ∙ rest.1 ks,
    )

-- loops that have the classes of others that are no later change nothing of what is kept
pub left_out : (left ds : List Signed) → All IsShort left → All IsShort ds → IsNonDecreasingBy order_of ds → All (IsRepeated ds) left →
    IsNonDecreasingBy order_of (put_in left ds) × ((ks : List Signed) →
    independent_of (merge signed_earlier ks (put_in left ds)) ≡ independent_of (merge signed_earlier ks ds))
left_out left ds short all sorted repeated =
    let h = puts_over left ds (recursion_from_All IsShort left short) all (sorted_from_order by_order ds (λ i j d before l.
    le-leb (order_of (get_or ds i d)) (order_of (get_or ds j d)) (sorted i j d (omega arith) l))) (recursion_from_All (IsRepeated ds) left repeated) in (
      λ i j d le l. elim (cases_lt i j) [
        | inl less ↦ leb-true _ _ (order_from_sorted by_order (put_in left ds) h.0 i j d less l)
        | inr more ↦ (let same : i ≡ j = omega arith in let at = ap (λ n. order_of (get_or (put_in left ds) n d)) same in omega (arith, at))
      ],
      h.1,
    )

no_later_order : (a b x c d y : ℕ) → b < 2 ^ 32 → x < 2 ^ 32 → (a < c) ⊎ ((a ≡ c) × ((b < d) ⊎ ((b ≡ d) × (x ≤ y)))) →
    a * 2 ^ 64 + b * 2 ^ 32 + x ≤ c * 2 ^ 64 + d * 2 ^ 32 + y
no_later_order a b x c d y lb lx (inl less) = omega (arith, less, lb, lx)
no_later_order a b x c d y lb lx (inr (same, inl low)) = omega (arith, same, low, lx)
no_later_order a b x c d y lb lx (inr (same, inr (low, edge))) = omega (arith, same, low, edge)

no_later_cases : (c d : Candidate) → precedes LesserBase c d ≡ true →
    (c.length < d.length) ⊎ ((c.length ≡ d.length) × ((c.base < d.base) ⊎ ((c.base ≡ d.base) × (c.edge ≤ d.edge))))
no_later_cases c d on = elim (cases_lt c.length d.length) [
  | inl less ↦ inl less
  | inr more ↦ inr (
    grind (arith, nat_tests),
    elim (cases_lt c.base d.base) [
      | inl low ↦ inl low
      | inr past ↦ inr (grind (arith, nat_tests), grind (arith, nat_tests))
    ],
  )
]

-- what precedes by the lesser base is no later in order
pub precedes_order : (c d : Signed) → IsShort c → precedes LesserBase c.candidate d.candidate ≡ true → order_of c ≤ order_of d
precedes_order c d short on = no_later_order c.candidate.length c.candidate.base c.candidate.edge d.candidate.length d.candidate.base d.candidate.edge
    short.base short.edge (no_later_cases c.candidate d.candidate on)

precedes_place : (c d : Candidate) → precedes LesserBase c d ≡ true → is_no_later (place_of c) (place_of d) ≡ true
precedes_place c d on = grind (arith, nat_tests)

precedes_length : (ties : Ties) (c d : Candidate) → precedes ties c d ≡ true → c.length ≤ d.length
precedes_length ties c d on = grind (arith, nat_tests)

-- ---- what a search keeps

pub all_left : (P : Signed → Type 0) (xs ys : List Signed) → All P (xs ++ ys) → All P xs
all_left P xs ys h = λ k c l. All-contains P (xs ++ ys) (get_or xs k c) h (Contains-append_left xs ys (get_or xs k c) (Contains-get_or xs k c l))

pub all_right : (P : Signed → Type 0) (xs ys : List Signed) → All P (xs ++ ys) → All P ys
all_right P xs ys h = λ k c l. All-contains P (xs ++ ys) (get_or ys k c) h (Contains-append_right xs ys (get_or ys k c) (Contains-get_or ys k c l))

filtered_on : (p : Signed → Bool) (xs : List Signed) → AllByRecursion (λ c. p c ≡ true) (filter p xs)
filtered_on p [] = tt
filtered_on p (x ∷ xs) = elim (cases_Bool (p x)) [ inl on ↦ rw on (on, filtered_on p xs) | inr off ↦ rw off (filtered_on p xs) ]

filtered_has : (p : Signed → Bool) (xs : List Signed) (c : Signed) → Contains xs c → p c ≡ true → Contains (filter p xs) c
filtered_has p [] c (k, l, at) on = absurd (omega (arith, l))
filtered_has p (x ∷ xs) c (zero, l, at) on = rw (subst (λ y. p y ≡ true) (sym at) on) (0, omega arith, at)
filtered_has p (x ∷ xs) c (suc k, l, at) on =
    let rest = filtered_has p xs c (k, omega arith, at) on in
    elim (cases_Bool (p x)) [ inl more ↦ rw more (Contains-append_right (x ∷ []) (filter p xs) c rest) | inr off ↦ rw off rest ]

-- what a search found, in another order
pub first_permuted : (ties : Ties) (mesh : Mesh) (lengths : List ℕ) (s : SignTables) (limit : Option Candidate) (z : ℕ) (found list : List Signed) →
    IsPermutation found list → AreFirstFound ties mesh lengths s limit z found → AreFirstFound ties mesh lengths s limit z list
first_permuted ties mesh lengths s limit z found list same h = record {
  left = h.left;
  are = λ trees chosen d signs. found_permuted mesh lengths (λ x. (trees x).tree) d limit z (h.left ++ found) (h.left ++ list)
      (IsPermutation-append_right h.left found list same) (h.are trees chosen d signs);
  no_later = λ k c l. (let n = h.no_later k c l in
      record { loop = n.loop; listed = Contains-permutation found list n.loop same n.listed; class = n.class; no_later = n.no_later });
}

pub first_small : (ties : Ties) (mesh : Mesh) (lengths : List ℕ) → IsSurface mesh → ArePositive mesh lengths → (s : SignTables) (width : ℕ) →
    AreSigned mesh s width → (limit : Option Candidate) (z : ℕ) (found : List Signed) → AreFirstFound ties mesh lengths s limit z found →
    All (λ c. c.signature < 2 ^ width) found
first_small ties mesh lengths surface positive s width signed limit z found h =
    all_right (λ c. c.signature < 2 ^ width) h.left found
    (found_small mesh lengths surface positive s width signed limit z (h.left ++ found) h.are)

-- what is left out is no shorter than what stands for it
pub longer_left : (ties : Ties) (kept : List Signed) (least margin : ℕ) (left found : List Signed) → All (HasNoLater ties found) left →
    AreLongerOr kept least margin found → AreLongerOr kept least margin (left ++ found)
longer_left ties kept least margin left found h long =
    let P : Signed → Type 0 = λ s. (sum : ℕ) × IsSumOfLength kept sum s.signature × ((sum ≤ least) ⊎ (sum + margin ≤ s.candidate.length)) in
    All-append P left found (λ k c l.
    (let n = h k c l in
    let (sum, is, far) = All-contains P found n.loop long n.listed in (
      sum,
      subst (IsSumOfLength kept sum) n.class is,
      elim far [
        | inl short ↦ inl short
        | inr more ↦ inr (let le = precedes_length ties n.loop.candidate (get_or left k c).candidate n.no_later in omega (arith, more, le))
      ],
    ))) long

-- of what a search found, in order, those up to a limit are enough to choose again
pub first_kept : (f : SurfaceTables) (width : ℕ) → IsSurface f.mesh → ArePositive f.mesh f.lengths → f.mesh.vertices ≤ 2 ^ 32 →
    edge_count f.mesh ≤ 2 ^ 32 → AreSigned f.mesh f.signs width → (limit wide : Option Candidate) (z n : ℕ) (list : List Signed) →
    AreFirstFound LesserBase f.mesh f.lengths f.signs wide z list → IsNonDecreasingBy order_of list → IsWider limit wide → n ≤ length list →
    ((s : Signed) → 0 < n → IsTrue (is_sought limit (place_of (get_or list (n - 1) s).candidate))) →
    ((k : ℕ) (s : Signed) → n ≤ k → k < length list → is_sought limit (place_of (get_or list k s).candidate) ≡ false) →
    (old new : Chosen) → new ≡ record old { kept = independent_of (merge signed_earlier old.kept (take n list)) } →
    IsKeptAt f z limit old new
first_kept f width surface positive few_v few_e signed limit wide z n list h order wider n_in last late old new new_is =
    let (any, picked) = choice_exists f.mesh f.lengths surface positive in
    let short = found_short f.mesh f.lengths (λ x. (any x).tree) surface positive (shortest_trees f.mesh f.lengths surface positive any picked)
    signed.split signed.is_split few_v few_e (h.left ++ list) (h.are any picked signed.split signed.signatures).each in
    let p : Signed → Bool = λ c. is_sought limit (place_of c.candidate) in
    let left = filter p h.left in
    let front = take n list in
    let on : All (λ c. p c ≡ true) left = All-from_recursion (λ c. p c ≡ true) left (filtered_on p h.left) in
    let left_short = all_left IsShort h.left list short in
    let list_short = all_right IsShort h.left list short in
    let in_front = front_has limit n list n_in late in
    let repeated : All (IsRepeated front) left = λ k c l.
    (let s = get_or left k c in
    let m = All-filter p (HasNoLater LesserBase list) h.left h.no_later k c l in
    let t_short = All-contains IsShort list m.loop list_short m.listed in (
      m.loop,
      in_front m.loop m.listed (limit_start limit (place_of m.loop.candidate) (place_of s.candidate)
          (precedes_place m.loop.candidate s.candidate m.no_later) (on k c l)),
      m.class,
      precedes_order m.loop s t_short m.no_later,
    )) in
    let (sorted, same) = left_out left front (All-filter p IsShort h.left left_short) (All-take IsShort n list list_short)
    (sorted_front n list n_in order) repeated in
    let both : (P : Signed → Type 0) → All P left → All P front → All P (put_in left front) = λ P a b.
    All-permutation P (left ++ front) (put_in left front) (put_same left front) (All-append P left front a b) in
    let there : (c : Signed) → Contains (left ++ front) c → Contains (put_in left front) c =
    λ c has. Contains-permutation (left ++ front) (put_in left front) c (put_same left front) has in
    record {
      list = put_in left front;
      are = λ trees chosen d signs. found_among f.mesh f.lengths (λ x. (trees x).tree) d limit wide z (h.left ++ list) (put_in left front)
          (h.are trees chosen d signs)
          (λ P all. both P (All-filter p P h.left (all_left P h.left list all)) (All-take P n list (all_right P h.left list all)))
          (both (λ c. IsTrue (p c)) on (front_sooner limit n list (sorted_by_number list list_short order) n_in last))
          (λ c has sought. there c (elim (Contains-append_cases h.left list c has) [
            | inl out ↦ Contains-append_left left front c (filtered_has p h.left c out sought)
            | inr listed ↦ Contains-append_right left front c (in_front c listed sought)
          ]))
          wider;
      sorted = sorted;
      new_is = new_is ∙ ap (λ ks. record old { kept = ks }) (sym (same old.kept));
    }
