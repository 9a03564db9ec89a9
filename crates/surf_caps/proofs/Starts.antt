-- Places that are sought from the start, and the sizes of loops that were found.
use Rattle.surf_surfaces.proofs.Common.{◌≡◌, ℕ, zero, suc, ◌<◌, ◌≤◌, Bool, true, ◌&&◌, not, eqb, List, [], ◌∷◌, length, map, get_or, All, sym, ap, ◌∙◌, subst, arith, inl, inr, cases_Bool, cases_lt, or_cases, or_left, or_right, and_parts, and_from, false≢true, nat_tests, length-map, get_or-map, recursion_from_All, All-from_recursion, IsInOrder, primal, Mesh, IsSurface, first, IsClosed, edge_length, walk_length, ArePositive, cells_of, loop_walk, Place, is_no_later, Found, walks_found, comes_no_later, comes_sooner, tail, IsNonDecreasing}
use Rattle.surf_surfaces.proofs.classes.ClassLaws.{runs_loop}
use Rattle.surf_surfaces.proofs.bases.FewBasesLaws.{no_later-trans}
use Rattle.surf_surfaces.proofs.walks.GraphWalkLaws.{graph_walk}
use Rattle.surf_surfaces.proofs.classes.LeastLaws.{all_mapped}
use Rattle.surf_firsts.specs.Near.{IsSoughtFromStart}
use Rattle.surf_caps.specs.Heights.{cycle_at}
use Rattle.surf_caps.specs.Caps.{Sought, AreSoughtFromStart, up_to_caps, up_to_length, either, with_places, limited, both, StartLaw, IsFoundBy, FoundAreWalks}
use Rattle.surf_caps.proofs.Covers.{no_longer_by, closed_by}

-- ---- places that are sought from the start

pub lengths_start : (most : ℕ) → IsSoughtFromStart (up_to_length most)
lengths_start most p q h k = grind (arith, nat_tests)

pub sooner_start : (limit : Place) → IsSoughtFromStart (comes_sooner limit)
sooner_start limit p q h k = elim (cases_Bool (is_no_later limit p)) [
  | inr off ↦ ap not off
  | inl on ↦ absurd (false≢true (sym (ap not (no_later-trans limit p q on h)) ∙ k))
]

pub both_start : (target other : Place → Bool) → IsSoughtFromStart target → IsSoughtFromStart other →
    IsSoughtFromStart (both target other)
both_start target other s t p q h k =
    let parts = and_parts (target q) (other q) k in
    and_from (target p) (other p) (s p q h parts.0) (t p q h parts.1)

pub on_set_start : (set : ℕ → Bool) (target : Place → Bool) → IsSoughtFromStart target →
    AreSoughtFromStart (λ z place. set z && target place)
on_set_start set target s z p q h k =
    let parts = and_parts (set z) (target q) k in and_from (set z) (target p) parts.0 (s p q h parts.1)

pub caps_start : (set : ℕ → Bool) (cap : ℕ → ℕ) → AreSoughtFromStart (up_to_caps set cap)
caps_start set cap z p q h k =
    let parts = and_parts (set z) (up_to_length (cap z) q) k in
    and_from (set z) (up_to_length (cap z) p) parts.0 (lengths_start (cap z) p q h parts.1)

pub limited_start : (target : Place → Bool) (sought : Sought) → IsSoughtFromStart target → AreSoughtFromStart sought →
    AreSoughtFromStart (limited target sought)
limited_start target sought s t z p q h k =
    let parts = and_parts (sought z q) (target q) k in
    and_from (sought z p) (target p) (t z p q h parts.0) (s p q h parts.1)

pub either_start : (sought more : Sought) → AreSoughtFromStart sought → AreSoughtFromStart more →
    AreSoughtFromStart (either sought more)
either_start sought more s t z p q h k = elim (or_cases (sought z q) (more z q) k) [
  | inl on ↦ or_left (sought z p) (more z p) (s z p q h on)
  | inr on ↦ or_right (sought z p) (more z p) (t z p q h on)
]

pub places_start : (z : ℕ) (here : Place → Bool) (sought : Sought) → IsSoughtFromStart here → AreSoughtFromStart sought →
    AreSoughtFromStart (with_places z here sought)
places_start z here sought s t y p q h k = elim (or_cases (sought y q) (eqb y z && here q) k) [
  | inl on ↦ or_left (sought y p) (eqb y z && here p) (t y p q h on)
  | inr on ↦
      let parts = and_parts (eqb y z) (here q) on in
      or_right (sought y p) (eqb y z && here p) (and_from (eqb y z) (here p) parts.0 (s p q h parts.1))
]

pub start_law : StartLaw
start_law = record {
  lengths = lengths_start;
  places = sooner_start;
  both = both_start;
  caps = caps_start;
  on_set = on_set_start;
  everywhere = λ target s z. s;
  limited = limited_start;
  either = either_start;
  with_places = places_start;
}

-- ---- sizes

module _ (mesh : Mesh) (lengths : List ℕ) (surface : IsSurface mesh) (positive : ArePositive mesh lengths) where
  closed_found : (k : Found) → IsFoundBy mesh lengths k → IsClosed mesh k.walk
  closed_found k is = closed_by mesh is.other is.trees surface (positive_other k is) is.shortest k (by_itself k is)
    where
      positive_other : (k : Found) (is : IsFoundBy mesh lengths k) → ArePositive mesh is.other
      positive_other k is e e_in =
          let one = positive e e_in in
          let more = is.no_less e e_in in
          omega (arith, one, more)

      by_itself : (k : Found) (is : IsFoundBy mesh lengths k) → IsFoundBy mesh is.other k
      by_itself k is = record {
        other = is.other;
        trees = is.trees;
        no_less = λ e l. omega arith;
        shortest = is.shortest;
        loop = is.loop;
      }

  -- a loop is no longer than its size
  no_longer_found : (k : Found) → IsFoundBy mesh lengths k → walk_length mesh lengths k.walk ≤ k.size
  no_longer_found k is =
      let walk = loop_walk mesh (is.trees is.loop.from) is.loop.edge in
      let run = runs_loop mesh is.other surface (is.trees is.loop.from) (is.shortest.is_tree is.loop.from is.loop.from_in)
      (is.shortest.shortest is.loop.from is.loop.from_in) is.loop.edge is.loop.edge_in in
      let own = graph_walk mesh surface lengths walk run.closed.is_closed in
      let other = graph_walk mesh surface is.other walk run.closed.is_closed in
      let less = no_longer_by (primal (cells_of mesh)) (edge_length lengths) (edge_length is.other) is.no_less (first walk)
      (tail walk) (first walk) own.closed in
      let own_size = own.size in
      let other_size = other.size in
      let run_size = run.size in
      let size = is.loop.at.size in
      subst (λ w. walk_length mesh lengths w ≤ k.size) (sym is.loop.at.walk)
      (omega (arith, less, own_size, other_size, run_size, size))

-- in order of place loops are in order of size
no_less : (a b : Found) → comes_no_later a b ≡ true → a.size ≤ b.size
no_less a b h = grind (arith, nat_tests)

any_found : Found
any_found = record { size = 0; through = 0; walk = [] }

sizes_rise : (found : List Found) → IsInOrder comes_no_later found → IsNonDecreasing (map (λ k. k.size) found)
sizes_rise found order i j d le l =
    let j_in : j < length found = omega (arith, length-map found (λ (k : Found). k.size)) in
    let at_i = get_or-map (λ (k : Found). k.size) found i any_found d (omega arith) in
    let at_j = get_or-map (λ (k : Found). k.size) found j any_found d j_in in
    elim (cases_lt i j) [
      | inl less ↦
          let rise = no_less (get_or found i any_found) (get_or found j any_found) (order i j any_found less j_in) in
          omega (arith, at_i, at_j, rise)
      | inr more ↦
          let same : i ≡ j = omega arith in
          let values = ap (λ n. get_or (map (λ (k : Found). k.size) found) n d) same in
          omega (arith, values)
    ]

pub found_are_walks : FoundAreWalks
found_are_walks mesh lengths found surface positive all = record {
  closed = closed_all;
  no_longer = λ j k l. no_longer_found mesh lengths surface positive (get_or found j k) (all j k l);
  up_to = λ most short. All-from_recursion (λ w. walk_length mesh lengths w ≤ most) (walks_found found)
      (all_mapped (λ w. walk_length mesh lengths w ≤ most) (λ k. k.walk) found
      (recursion_from_All (λ k. walk_length mesh lengths k.walk ≤ most) found (λ j k l.
      let one = no_longer_found mesh lengths surface positive (get_or found j k) (all j k l) in
      let other = short j k l in
      omega (arith, one, other))));
  sized = λ order. record {
    closed = All-from_recursion (IsClosed mesh) (walks_found found)
        (all_mapped (IsClosed mesh) (λ k. k.walk) found
        (recursion_from_All (λ k. IsClosed mesh k.walk) found closed_all));
    count = length-map found (λ k. k.size) ∙ sym (length-map found (λ k. k.walk));
    no_longer = sizes found all;
    order = sizes_rise found order;
  };
}
  where
    closed_all : All (λ k. IsClosed mesh k.walk) found
    closed_all j k l = closed_found mesh lengths surface positive (get_or found j k) (all j k l)

    sizes : (ks : List Found) → All (IsFoundBy mesh lengths) ks → (j : ℕ) → j < length (walks_found ks) →
        walk_length mesh lengths (cycle_at (walks_found ks) j) ≤ get_or (map (λ k. k.size) ks) j 0
    sizes [] all j l = absurd (omega arith)
    sizes (k ∷ ks) all zero l = no_longer_found mesh lengths surface positive k (all zero k (omega arith))
    sizes (k ∷ ks) all (suc j) l = sizes ks (λ i n m. all (suc i) n (omega arith)) j (omega arith)
