-- Caps of vertices: the earlier of a limit and a cap, caps that rise, and what edges ask for.
use Rattle.surf_search.proofs.Common.{◌≡◌, ℕ, ◌<◌, ◌≤◌, ◌+◌, true, List, [], ◌∷◌, ◌++◌, length, get_or, set, replicate, All, Contains, IsPermutation, Option, Some, None, refl, sym, ap, ◌∙◌, subst, arith, inl, inr, nat_le, slice_index, min, cases_eq, cases_lt, leb-true, le-leb, or_cases, or_left, nat_tests, Contains-permutation, Mesh, edge_count, ends, IsSurface, Place, comes_sooner, All-contains, Contains-append_left, Contains-append_right, get_or-set_same, get_or-set_other, get_or_past, get_or-replicate, length-replicate, ends_in, SignTables, Candidate, Signed, is_sought, Ask, is_within_cap, cap_at, IsCapped, IsAsked, HasCappedEnd, AreCapped, AreNoLess, AreAsks, AreRising, by_degree}
use Rattle.surf_search.proofs.Asked.{within_by_none}
use Rattle.surf_search.proofs.Counted.{as_read_or_turned}

-- ---- the earlier of a limit and a cap

pub capped_all : (limit : Option Candidate) (cap : ℕ) → 18446744073709551615 ≤ cap → IsCapped limit cap limit
capped_all limit cap big = record {
  sooner = λ p on. on;
  within = λ p on. within_by_none cap p big;
  all = λ p there on. on;
}

sooner_within : (size base cap : ℕ) (p : Place) → size ≤ cap → comes_sooner (size, base) p ≡ true → is_within_cap cap p ≡ true
sooner_within size base cap p le h = grind (arith, nat_tests)

pub capped_last : (c : Candidate) (cap : ℕ) → c.length ≤ cap → IsCapped (Some c) cap (Some c)
capped_last c cap le = record {
  sooner = λ p on. on;
  within = λ p on. sooner_within c.length c.base cap p le on;
  all = λ p there on. on;
}

sooner_than_next : (cap base : ℕ) (p : Place) → base ≡ 0 → comes_sooner (cap + 1, base) p ≡ true → p.0 ≤ cap
sooner_than_next cap base p low h = grind (arith, nat_tests)

short_sooner : (size base : ℕ) (p : Place) → p.0 < size → comes_sooner (size, base) p ≡ true
short_sooner size base p h = grind (arith, nat_tests)

short_of_cap : (cap : ℕ) (p : Place) → cap < 18446744073709551615 → is_within_cap cap p ≡ true → p.0 ≤ cap
short_of_cap cap p less h = elim (or_cases (nat_le p.0 cap) (nat_le 18446744073709551615 cap) h) [
  | inl on ↦ leb-true p.0 cap on
  | inr none ↦ let le = leb-true 18446744073709551615 cap none in absurd (omega (arith, le, less))
]

pub capped_new : (limit : Option Candidate) (cap : ℕ) (d : Candidate) → cap < 18446744073709551615 → d.length ≡ cap + 1 →
    d.base ≡ 0 → ((c : Candidate) → limit ≡ Some c → cap < c.length) → IsCapped limit cap (Some d)
capped_new limit cap d less size low later = record {
  sooner = λ p on. of limit refl p (short p on);
  within = λ p on. or_left (nat_le p.0 cap) (nat_le 18446744073709551615 cap) (le-leb p.0 cap (short p on));
  all = λ p there on. short_sooner d.length d.base p (let le = short_of_cap cap p less there in omega (arith, le, size));
}
  where
    short : (p : Place) → comes_sooner (d.length, d.base) p ≡ true → p.0 ≤ cap
    short p on = sooner_than_next cap d.base p low (subst (λ n. comes_sooner (n, d.base) p ≡ true) size on)

    of : (o : Option Candidate) → limit ≡ o → (p : Place) → p.0 ≤ cap → is_sought limit p ≡ true
    of None is p le = subst (λ o. is_sought o p ≡ true) (sym is) refl
    of (Some c) is p le = subst (λ o. is_sought o p ≡ true) (sym is)
        (short_sooner c.length c.base p (let l = later c is in omega (arith, le, l)))

-- ---- caps that rise

pub zero_caps : (n v : ℕ) → cap_at (replicate n 0) v ≡ 0
zero_caps n v = elim (cases_lt v n) [
  | inl less ↦ get_or-replicate n v 0 0 less
  | inr past ↦ get_or_past (replicate n 0) v 0 (let l = length-replicate {A = ℕ} n 0 in omega (arith, l, past))
]

pub raised_there : (caps : List ℕ) (v cap : ℕ) → v < length caps → cap ≤ cap_at (set caps v cap) v
raised_there caps v cap l = let is = get_or-set_same caps v cap 0 l in omega (arith, is)

pub raised_no_less : (caps : List ℕ) (v cap : ℕ) → v < length caps → cap_at caps v ≤ cap → AreNoLess caps (set caps v cap)
raised_no_less caps v cap l le u = elim (cases_eq u v) [
  | inl same ↦
      let is : get_or (set caps v cap) u 0 ≡ cap = ap (λ x. get_or (set caps v cap) x 0) same ∙ get_or-set_same caps v cap 0 l in
      let was : get_or caps u 0 ≡ get_or caps v 0 = ap (λ x. get_or caps x 0) same in
      omega (arith, is, was, le)
  | inr ne ↦ let is : get_or (set caps v cap) u 0 ≡ get_or caps u 0 = get_or-set_other caps v u cap 0 ne in omega (arith, is)
]

-- the one of an edge's ends that comes second by degree has the cap to which it is raised
pub raised_at_end : (mesh : Mesh) (degree : ℕ → ℕ) (caps : List ℕ) (least e v : ℕ) (p q : ℕ × ℕ) → p ≡ ends mesh e →
    q ≡ by_degree degree p → v ≡ q.1 → v < length caps → HasCappedEnd mesh (set caps v least) least e
raised_at_end mesh degree caps least e v p q is turned at l = elim (as_read_or_turned degree p q turned) [
  | inl same ↦ inr (subst (λ u. least ≤ cap_at (set caps v least) u) (at ∙ ap (λ (r : ℕ × ℕ). r.1) (same ∙ is)) (raised_there caps v least l))
  | inr other ↦ inl (subst (λ u. least ≤ cap_at (set caps v least) u) (at ∙ ap (λ (r : ℕ × ℕ). r.1) other ∙ ap (λ (r : ℕ × ℕ). r.0) is)
      (raised_there caps v least l))
]

pub same_no_less : (caps : List ℕ) → AreNoLess caps caps
same_no_less caps v = omega arith

pub no_less_on : (a b c : List ℕ) → AreNoLess a b → AreNoLess b c → AreNoLess a c
no_less_on a b c h k v = let x = h v in let y = k v in omega (arith, x, y)

-- an end with a great cap keeps it
pub capped_still : (mesh : Mesh) (old new : List ℕ) (least e : ℕ) → AreNoLess old new → HasCappedEnd mesh old least e →
    HasCappedEnd mesh new least e
capped_still mesh old new least e more h = elim h [
  | inl low ↦ inl (let x = more (ends mesh e).0 in omega (arith, x, low))
  | inr high ↦ inr (let x = more (ends mesh e).1 in omega (arith, x, high))
]

-- caps that are no less at the vertices are great enough too
pub capped_more : (mesh : Mesh) → IsSurface mesh → (s : SignTables) (kept : List Signed) (most : ℕ) (old new : List ℕ) →
    length old ≡ mesh.vertices → ((v : ℕ) → v < length old → cap_at old v ≤ cap_at new v) →
    AreCapped mesh s kept most old → AreCapped mesh s kept most new
capped_more mesh surface s kept most old new n more h e e_in =
    let (ask, asked, there) = h e e_in in
    let inside = ends_in mesh surface e e_in in (
      ask,
      asked,
      elim there [
        | inl low ↦ inl (let x = more (ends mesh e).0 (omega (arith, inside.0, n)) in omega (arith, x, low))
        | inr high ↦ inr (let x = more (ends mesh e).1 (omega (arith, inside.1, n)) in omega (arith, x, high))
      ],
    )

-- ---- vertices whose caps are greater than how far they were searched

pub rising_none : (caps reached list : List ℕ) → AreRising caps reached 0 list
rising_none caps reached list v l = absurd (omega (arith, l))

pub rising_same : (caps reached : List ℕ) (v : ℕ) (list : List ℕ) → AreRising caps reached v list →
    cap_at caps v ≤ cap_at reached v → AreRising caps reached (v + 1) list
rising_same caps reached v list h le u l = elim (cases_lt u v) [
  | inl less ↦ h u less
  | inr more ↦ let same : v ≡ u = omega (arith, l, more) in inl (subst (λ x. cap_at caps x ≤ cap_at reached x) same le)
]

pub rising_more : (caps reached : List ℕ) (v : ℕ) (old new : List ℕ) → AreRising caps reached v old → new ≡ old ++ v ∷ [] →
    AreRising caps reached (v + 1) new
rising_more caps reached v old new h is u l = elim (cases_lt u v) [
  | inl less ↦ elim (h u less) [
    | inl low ↦ inl low
    | inr has ↦ inr (subst (λ (xs : List ℕ). Contains xs u) (sym is) (Contains-append_left old (v ∷ []) u has))
  ]
  | inr more ↦
      let same : v ≡ u = omega (arith, l, more) in
      inr (subst (λ (xs : List ℕ). Contains xs u) (sym is)
      (Contains-append_right old (v ∷ []) u (subst (Contains (v ∷ [])) same (0, omega arith, refl))))
]

pub rising_permuted : (caps reached : List ℕ) (below : ℕ) (old new : List ℕ) → IsPermutation old new →
    AreRising caps reached below old → AreRising caps reached below new
rising_permuted caps reached below old new same h v l = elim (h v l) [
  | inl low ↦ inl low
  | inr has ↦ inr (Contains-permutation old new v same has)
]

-- ---- what edges ask for

pub asks_none : (s : SignTables) (kept : List Signed) (most : ℕ) (asks : List Ask) → AreAsks s kept most 0 asks
asks_none s kept most asks e l some = absurd (omega (arith, l))

-- an edge without a signature
pub asks_same : (s : SignTables) (kept : List Signed) (most n : ℕ) (asks : List Ask) → AreAsks s kept most n asks →
    slice_index s.signatures n ≡ 0 → AreAsks s kept most (n + 1) asks
asks_same s kept most n asks h none e l some = elim (cases_lt e n) [
  | inl less ↦ h e less some
  | inr more ↦ let same : e ≡ n = omega (arith, l, more) in absurd (some (ap (slice_index s.signatures) same ∙ none))
]

-- one with a signature
pub asks_more : (s : SignTables) (kept : List Signed) (most n ask : ℕ) (a : Ask) (old new : List Ask) →
    AreAsks s kept most n old → new ≡ old ++ a ∷ [] → a.edge ≡ n → IsAsked kept ask (slice_index s.signatures n) →
    a.length ≡ min ask most → AreAsks s kept most (n + 1) new
asks_more s kept most n ask a old new h is at asked size e l some = elim (cases_lt e n) [
  | inl less ↦
      let (b, has, edge, rest) = h e less some in
      (b, subst (λ (xs : List Ask). Contains xs b) (sym is) (Contains-append_left old (a ∷ []) b has), edge, rest)
  | inr more ↦
      let same : n ≡ e = omega (arith, l, more) in (
        a,
        subst (λ (xs : List Ask). Contains xs a) (sym is) (Contains-append_right old (a ∷ []) a (0, omega arith, refl)),
        at ∙ same,
        (ask, subst (λ m. IsAsked kept ask (slice_index s.signatures m)) same asked, size),
      )
]

-- where an end of each edge has what is asked, caps are great enough
pub asks_capped : (mesh : Mesh) (s : SignTables) (kept : List Signed) (most : ℕ) (caps : List ℕ) (asks sorted : List Ask) →
    AreAsks s kept most (edge_count mesh) asks → IsPermutation asks sorted →
    All (λ a. HasCappedEnd mesh caps a.length a.edge) sorted → AreCapped mesh s kept most caps
asks_capped mesh s kept most caps asks sorted h same all e e_in = elim (cases_eq (slice_index s.signatures e) 0) [
  | inl none ↦ (
    0,
    inr (record {
      count = 0;
      count_in = omega arith;
      sum = ([], sym none);
      none = λ zero_is. refl;
      last = λ k d is. absurd (omega (arith, is));
    }),
    inl (omega arith),
  )
  | inr some ↦
      let (a, has, edge, (ask, asked, size)) = h e e_in some in
      let there : HasCappedEnd mesh caps a.length a.edge =
      All-contains (λ (b : Ask). HasCappedEnd mesh caps b.length b.edge) sorted a all (Contains-permutation asks sorted a same has) in (
        ask,
        asked,
        subst (λ n. HasCappedEnd mesh caps (min ask most) n) edge
            (subst (λ n. HasCappedEnd mesh caps n a.edge) size there),
      )
]
