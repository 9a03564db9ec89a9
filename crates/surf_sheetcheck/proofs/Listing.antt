-- How a search from a part begins, lists what it settles, and ends.
use Rattle.surf_surfaces.proofs.Common.{ℕ, zero, suc, ◌≡◌, ◌≢◌, ◌<◌, ◌≤◌, ◌+◌, ◌++◌, ◌⊎◌, List, [], ◌∷◌, length, get_or, set, Some, None, refl, sym, ap, ◌∙◌, subst, arith, inl, inr, All, Contains, cases_eq, cases_lt, Graph, get_or-set_same, get_or-set_other, get_or_append_left, get_or_push, get_or_past, length-append, length-set}
use Rattle.surf_heap.specs.Entries.{Entries, entry_of, lesser, IsEmpty}
use Rattle.surf_lengths.specs.Lengths.{longest, AreLengths}
use Rattle.surf_base.specs.Tables.{at}
use Rattle.surf_sheetcheck.specs.Searches.{far, HasKey, AreSeeds, AreSettled}
use Rattle.surf_sheetcheck.proofs.SearchWords.{IsSearch, IsOrder}
use Rattle.surf_sheetcheck.proofs.Settling.{no_entry}
use Rattle.surf_sheetcheck.proofs.Offering.{offer_came, offer_here, offer_kept}

-- ---- the part

-- the first i vertices of a part are offered
pub record AreSeedsUpTo (part : List ℕ) (nodes i : ℕ) (heap : Entries) : Type 0 where
  pub places : length heap ≡ nodes
  pub came : (w k t : ℕ) → entry_of heap w ≡ Some (k, t) → Contains part w × (k ≡ 0)
  pub offered : (j : ℕ) → j < i → HasKey heap (at part j) 0

pub seeds_none : (part : List ℕ) (nodes : ℕ) (heap : Entries) → length heap ≡ nodes →
    ((v : ℕ) → entry_of heap v ≡ None) → AreSeedsUpTo part nodes 0 heap
seeds_none part nodes heap places none = record {
  places = places;
  came = λ w k t h. absurd (no_entry (entry_of heap w) k t (none w) h);
  offered = λ j l. absurd (omega (arith, l));
}

pub in_part : (part : List ℕ) (i : ℕ) → i < length part → Contains part (at part i)
in_part part i l = (i, l, sym (default part i (at part i) l))
  where
    default : (xs : List ℕ) (k d : ℕ) → k < length xs → at xs k ≡ get_or xs k d
    default [] k d m = absurd (omega (arith, m))
    default (x ∷ xs) zero d m = refl
    default (x ∷ xs) (suc k) d m = default xs k d (omega (arith, m))

pub seeds_more : (part : List ℕ) (nodes i : ℕ) (old new : Entries) → i < length part → at part i < nodes →
    AreSeedsUpTo part nodes i old → new ≡ set old (at part i) (Some (lesser (entry_of old (at part i)) 0 0)) →
    AreSeedsUpTo part nodes (i + 1) new
seeds_more part nodes i old new l inside was is =
    let w = at part i in
    let room : w < length old = omega (arith, inside, was.places) in
    rw is (record {
      places = length-set old w (Some (lesser (entry_of old w) 0 0)) ∙ was.places;
      came = λ q k t h. elim (offer_came old w 0 room q k t h) [
        | inl before ↦ was.came q k t before
        | inr (same, zero_key) ↦ (subst (Contains part) (sym same) (in_part part i l), zero_key)
      ];
      offered = λ j m. elim (cases_eq j i) [
        | inl same ↦ subst (λ n. HasKey (set old w (Some (lesser (entry_of old w) 0 0))) (at part n) 0) (sym same) (offer_here old w 0 room)
        | inr ne ↦ offer_kept old w 0 room (at part j) 0 (was.offered j (omega (arith, m, ne)))
      ];
    })

pub seeds_all : (part : List ℕ) (nodes : ℕ) (heap : Entries) → AreSeedsUpTo part nodes (length part) heap →
    AreSeeds part nodes heap
seeds_all part nodes heap all = record {
  places = all.places;
  came = all.came;
  offered = λ w on. subst (λ v. HasKey heap v 0) (found part w on.0 on.1 on.2) (all.offered on.0 on.1);
}
  where
    found : (xs : List ℕ) (w k : ℕ) → k < length xs → get_or xs k w ≡ w → at xs k ≡ w
    found [] w k m e = absurd (omega (arith, m))
    found (x ∷ xs) w zero m e = e
    found (x ∷ xs) w (suc k) m e = found xs w k (omega (arith, m)) e

-- ---- the order

pub order_none : (nodes : ℕ) (dist order : List ℕ) → ((v : ℕ) → v < nodes → at dist v ≡ far) → order ≡ [] →
    IsOrder nodes dist order 0
order_none nodes dist order free none = rw none (record {
  listed = λ v l some. absurd (some (free v l));
  inside = λ i l. absurd (omega (arith, l));
  settled = λ i l. absurd (omega (arith, l));
  up_to = λ i l. absurd (omega (arith, l));
  rise = λ i j le l. absurd (omega (arith, l));
})

module _ (nodes : ℕ) (dist order : List ℕ) (last v k : ℕ) (was : IsOrder nodes dist order last) (room : length dist ≡ nodes)
    (inside : v < nodes) (free : at dist v ≡ far) (near : k ≢ far) (later : last ≤ k) where
  new : List ℕ
  new = order ++ v ∷ []

  size : length (order ++ v ∷ []) ≡ length order + 1
  size = length-append order (v ∷ [])

  here : at (set dist v k) v ≡ k
  here = get_or-set_same dist v k 0 (omega (arith, inside, room))

  before : (i : ℕ) → i < length order → at (order ++ v ∷ []) i ≡ at order i
  before i l = get_or_append_left order (v ∷ []) 0 i l

  behind : (i : ℕ) → i ≡ length order → at (order ++ v ∷ []) i ≡ v
  behind i e = get_or_push order v 0 i (sym e)

  kept : (i : ℕ) → i < length order → at (set dist v k) (at order i) ≡ at dist (at order i)
  kept i l = get_or-set_other dist v (at order i) k 0 (λ same. was.settled i l (ap (at dist) same ∙ free))

  at_before : (i : ℕ) → i < length order → at (set dist v k) (at (order ++ v ∷ []) i) ≡ at dist (at order i)
  at_before i l = ap (at (set dist v k)) (before i l) ∙ kept i l

  at_behind : (i : ℕ) → i ≡ length order → at (set dist v k) (at (order ++ v ∷ []) i) ≡ k
  at_behind i e = ap (at (set dist v k)) (behind i e) ∙ here

  place : (i : ℕ) → i < length (order ++ v ∷ []) → (i < length order) ⊎ (i ≡ length order)
  place i l = elim (cases_lt i (length order)) [ inl less ↦ inl less | inr more ↦ inr (omega (arith, l, size, more)) ]

  up : (i : ℕ) → i < length (order ++ v ∷ []) → at (set dist v k) (at (order ++ v ∷ []) i) ≤ k
  up i l = elim (place i l) [
    | inl less ↦ let a = was.up_to i less in let b = at_before i less in omega (arith, a, b, later)
    | inr end ↦ let b = at_behind i end in omega (arith, b)
  ]

  pub order_more : IsOrder nodes (set dist v k) (order ++ v ∷ []) k
  order_more = record {
    listed = λ u l some. elim (cases_eq u v) [
      | inl same ↦ (length order, omega (arith, size), behind (length order) refl ∙ sym same)
      | inr ne ↦
          let there = was.listed u l (λ none. some (get_or-set_other dist v u k 0 ne ∙ none)) in
          (there.0, omega (arith, there.1, size), before there.0 there.1 ∙ there.2)
    ];
    inside = λ i l. elim (place i l) [
      | inl less ↦ subst (λ u. u < nodes) (sym (before i less)) (was.inside i less)
      | inr end ↦ subst (λ u. u < nodes) (sym (behind i end)) inside
    ];
    settled = λ i l. elim (place i l) [
      | inl less ↦ λ e. was.settled i less (sym (at_before i less) ∙ e)
      | inr end ↦ λ e. near (sym (at_behind i end) ∙ e)
    ];
    up_to = up;
    rise = λ i j le l. elim (place j l) [
      | inl less ↦
          let a = was.rise i j le less in
          let b = at_before i (omega (arith, le, less)) in
          let c = at_before j less in
          omega (arith, a, b, c)
      | inr end ↦ let a = up i (omega (arith, le, l)) in let b = at_behind j end in omega (arith, a, b)
    ];
  }

-- ---- the end

pub search_ends : (g : Graph) (len : ℕ → ℕ) (part : List ℕ) (limit : ℕ) (dist order : List ℕ) (heap : Entries) (last left : ℕ) →
    IsSearch g len part limit (at dist) heap last left → IsOrder g.nodes dist order last → IsEmpty heap →
    AreSettled g len part limit dist order
search_ends g len part limit dist order heap last left s o empty = record {
  on_part = λ v on. elim (s.seeds v on) [
    | inl is ↦ is
    | inr (free, key) ↦ absurd (no_entry (entry_of heap v) key.key key.tie (empty v) key.entry)
  ];
  below = s.below;
  near = λ u w e lu lw le join su less.
      let some : at dist w ≢ far = λ free.
      let key = s.offered u w e lu lw le join su free less in
      no_entry (entry_of heap w) key.key key.tie (empty w) key.entry in
      (some, s.near u w e lu lw le join su some);
  reached = λ w lw sw. elim (s.reached w lw sw) [ inl seed ↦ inl seed.0 | inr r ↦ inr r ];
  listed = o.listed;
  inside = o.inside;
  settled = o.settled;
  rise = o.rise;
}

-- ---- lengths and parts

-- no edge is longer than the longest
pub short_edges : (lengths : List ℕ) → AreLengths lengths → (e : ℕ) → at lengths e ≤ longest
short_edges lengths are e = elim (cases_lt e (length lengths)) [
  | inl l ↦ (are e 0 l).fits
  | inr past ↦ let none = get_or_past lengths e 0 past in omega (arith, none)
]

-- what each place of a list has each of its members has
pub in_all : (n : ℕ) (part : List ℕ) → All (λ v. v < n) part → (w : ℕ) → Contains part w → w < n
in_all n part all w on = subst (λ v. v < n) on.2 (all on.0 w on.1)
