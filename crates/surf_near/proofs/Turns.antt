-- One turn of a search as far as a radius, its beginning and its end.
use Rattle.surf_near.proofs.Common.{ℕ, ◌<◌, ◌≤◌, ◌≡◌, ◌≢◌, ◌+◌, ◌*◌, refl, sym, ap, ◌∙◌, subst, arith, inl, inr, List, length, set, Some, None, eqb, get_or-set_same, get_or-set_other, cases_eq, count_below, Graph, length-set, Entries, entry_of, IsLeastEntry, IsEmpty, IsNearestEntry, longest, at, HasKey, IsOffered, IsSearch, one_less, all_free, IsTurn, least_turn, Tables, never, IsChoice, IsTrimmed, OffersNear, IsListed, IsChosenAt, HasRoom, IsBlank, IsFound}
use Rattle.surf_tree.proofs.Settling.{no_entry, same_key, search_begins}
use Rattle.surf_near.proofs.Ties.{tied, tied_least, search_tied, search_untied, offered_tied}
use Rattle.surf_near.proofs.Trimming.{trim_all, trim_taken, trim_least}
use Rattle.surf_near.proofs.Choices.{choice_stays, chosen_kept}

-- the state of a search: a wider search, whose fringe is trimmed
pub record IsSearchNear (g : Graph) (len : ℕ → ℕ) (base radius : ℕ) (t : Tables) (heap : Entries) : Type 0 where
  pub room : HasRoom g.nodes t
  pub wide : Entries
  pub last : ℕ
  pub search : IsSearch g len base (at t.distance.items) wide last
      (count_below g.nodes (λ u. eqb (at t.distance.items u) never))
  pub trimmed : IsTrimmed radius wide heap
  pub within : (u : ℕ) → u < g.nodes → at t.distance.items u ≢ never → at t.distance.items u ≤ radius
  pub listed : IsListed g.nodes (at t.distance.items) (at t.order.items) t.count
  pub counted : t.count + count_below g.nodes (λ u. eqb (at t.distance.items u) never) ≡ g.nodes
  pub chosen : (v : ℕ) → v < g.nodes → at t.distance.items v ≢ never → IsChosenAt g len t v

-- a list of settled nodes with one more, which is no nearer
pub list_more : (nodes : ℕ) (dist order : List ℕ) (count v k : ℕ) → IsListed nodes (at dist) (at order) count →
    v < nodes → v < length dist → count < length order → at dist v ≡ never → k ≢ never →
    ((u : ℕ) → u < nodes → at dist u ≢ never → at dist u ≤ k) →
    IsListed nodes (at (set dist v k)) (at (set order count v)) (count + 1)
list_more nodes dist order count v k old v_in v_room room free near last = record {
  inside = λ i l. elim (cases_eq i count) [
    | inl same ↦ rw (same, here) v_in
    | inr ne ↦ rw (there i ne) (old.inside i (omega arith))
  ];
  settled = λ i l. elim (cases_eq i count) [
    | inl same ↦ rw (same, here, now) near
    | inr ne ↦
        let li : i < count = omega arith in
        rw (there i ne, others (at order i) (apart i li)) (old.settled i li)
  ];
  all = λ u l settled. elim (cases_eq u v) [
    | inl same ↦ (count, omega arith, here ∙ sym same)
    | inr ne ↦
        let (i, li, is) = old.all u l (rw (others u ne) at settled) in
        (i, omega arith, there i (λ e. absurd (omega arith)) ∙ is)
  ];
  rise = λ i j lt l. elim (cases_eq j count) [
    | inl same ↦
        let li : i < count = omega arith in
        rw (same, here, now, there i (λ e. absurd (omega arith)), others (at order i) (apart i li))
        (last (at order i) (old.inside i li) (old.settled i li))
    | inr ne ↦
        let lj : j < count = omega arith in
        let li : i < count = omega arith in
        rw (there i (λ e. absurd (omega arith)), there j ne, others (at order i) (apart i li), others (at order j) (apart j lj))
        (old.rise i j lt lj)
  ];
}
  where
    here : at (set order count v) count ≡ v
    here = get_or-set_same order count v 0 room

    now : at (set dist v k) v ≡ k
    now = get_or-set_same dist v k 0 v_room

    there : (i : ℕ) → i ≢ count → at (set order count v) i ≡ at order i
    there i ne = get_or-set_other order count i v 0 ne

    others : (u : ℕ) → u ≢ v → at (set dist v k) u ≡ at dist u
    others u ne = get_or-set_other dist v u k 0 ne

    apart : (i : ℕ) → i < count → at order i ≢ v
    apart i l same = old.settled i l (ap (at dist) same ∙ free)

module _ (g : Graph) (len : ℕ → ℕ) (base radius : ℕ) (small : g.nodes ≤ longest) (short : (e : ℕ) → len e ≤ longest) where
  -- before the first node is settled
  pub near_begins : (t : Tables) (heap : Entries) → base < g.nodes → IsBlank g.nodes t → entry_of heap base ≡ Some (0, 0) →
      ((w : ℕ) → w ≢ base → entry_of heap w ≡ None) → IsSearchNear g len base radius t heap
  near_begins t heap base_in blank first none = record {
    room = blank.room;
    wide = heap;
    last = 0;
    search = search_begins g len base small short (at t.distance.items) heap
        (count_below g.nodes (λ u. eqb (at t.distance.items u) never)) base_in all_left blank.none first none;
    trimmed = trim_all radius heap (λ w k tie h. elim (cases_eq w base) [
      | inl same ↦
          let z : 0 ≡ k = same_key (entry_of heap base) 0 0 k tie first (ap (entry_of heap) (sym same) ∙ h) in
          omega arith
      | inr ne ↦ absurd (no_entry (entry_of heap w) k tie (none w ne) h)
    ]);
    within = λ u l s. absurd (s (blank.none u l));
    listed = record {
      inside = λ i l. absurd (omega (arith, blank.count));
      settled = λ i l. absurd (omega (arith, blank.count));
      all = λ u l s. absurd (s (blank.none u l));
      rise = λ i j lt l. absurd (omega (arith, blank.count));
    };
    counted = omega (arith, all_left, blank.count);
    chosen = λ u l s. absurd (s (blank.none u l));
  }
    where
      all_left : count_below g.nodes (λ u. eqb (at t.distance.items u) never) ≡ g.nodes
      all_left = all_free g.nodes t.distance.items blank.none

  module _ (t : Tables) (heap : Entries) (s : IsSearchNear g len base radius t heap) (v k : ℕ) (least : IsNearestEntry heap v k) where
    abbrev dist : List ℕ
    dist = t.distance.items

    wide_least : (k ≤ radius) × IsNearestEntry s.wide v k
    wide_least = trim_least radius s.wide heap s.trimmed v k least

    abbrev left : ℕ
    left = count_below g.nodes (λ u. eqb (at dist u) never)

    -- the same search with ties by which the node is least
    search2 : IsSearch g len base (at dist) (tied v s.wide) s.last left
    search2 = search_tied v g len base (at dist) s.wide s.last left s.search

    least2 : IsLeastEntry (tied v s.wide) v k 0
    least2 = tied_least v s.wide k wide_least.1

    holds : entry_of s.wide v ≡ Some (k, wide_least.1.holds.0)
    holds = wide_least.1.holds.1

    turn : IsTurn g len base dist (tied v s.wide) v k
    turn = least_turn small short dist s.room.distance search2 least2

    -- the node is one, and its distance is short
    pub turn_in : (v < g.nodes) × (k + longest ≤ g.nodes * longest)
    turn_in = turn.inside

    pub turn_free : at dist v ≡ never
    turn_free = (s.search.outside v k wide_least.1.holds.0 holds).unsettled

    near_end : k ≢ never
    near_end = let f = turn_in.1 in λ e. absurd (omega (arith, f, e, small))

    v_room : v < length dist
    v_room = omega (arith, turn_in.0, s.room.distance)

    pub turn_fewer : count_below g.nodes (λ u. eqb (at (set dist v k) u) never) < count_below g.nodes (λ u. eqb (at dist u) never)
    turn_fewer = turn.smaller

    pub turn_room : t.count < g.nodes
    turn_room = omega (arith, turn_fewer, s.counted)

    -- all distances leave room
    pub turn_short : (u : ℕ) → u < g.nodes → at (set dist v k) u ≢ never → at (set dist v k) u + longest ≤ g.nodes * longest
    turn_short u l settled = elim (cases_eq u v) [
      | inl same ↦ rw (same, get_or-set_same dist v k 0 v_room) turn_in.1
      | inr ne ↦ rw (get_or-set_other dist v u k 0 ne) (s.search.fits u l (rw (get_or-set_other dist v u k 0 ne) at settled))
    ]

    last_up : (u : ℕ) → u < g.nodes → at dist u ≢ never → at dist u ≤ k
    last_up u l settled =
        let a : at dist u ≤ s.last = s.search.settled u l settled in
        let b : s.last ≤ k = (s.search.outside v k wide_least.1.holds.0 holds).later in
        omega arith

    none_farther : (u : ℕ) → at (set dist v k) u ≢ never → u < g.nodes → at (set dist v k) u ≤ k
    none_farther u settled l = elim (cases_eq u v) [
      | inl same ↦ rw (same, get_or-set_same dist v k 0 v_room) (omega arith)
      | inr ne ↦ rw (get_or-set_other dist v u k 0 ne) (last_up u l (rw (get_or-set_other dist v u k 0 ne) at settled))
    ]

    module _ (positive : (e : ℕ) → e < g.edges → 1 ≤ len e) (t2 : Tables) (new : Entries) (p e m : ℕ)
        (order_is : t2.order.items ≡ set t.order.items t.count v) (count_is : t2.count ≡ t.count + 1)
        (distance_is : t2.distance.items ≡ set t.distance.items v k) (parent_is : t2.parent.items ≡ set t.parent.items v p)
        (up_is : t2.up.items ≡ set t.up.items v e) (least_is : t2.least.items ≡ set t.least.items v m)
        (choice : IsChoice g len (at (set t.distance.items v k)) (at t.least.items) v p e m)
        (offers : OffersNear g len (at (set t.distance.items v k)) v k radius (set heap v None) new) where
      offered : (wider : Entries) × IsOffered g len (at (set dist v k)) v k (set s.wide v None) wider × IsTrimmed radius wider new
      offered = offers (set s.wide v None) (trim_taken radius s.wide heap s.trimmed v)

      next_chosen : (u : ℕ) → u < g.nodes → at (set dist v k) u ≢ never →
          IsChoice g len (at (set dist v k)) (at (set t.least.items v m)) u (at (set t.parent.items v p) u)
          (at (set t.up.items v e) u) (at (set t.least.items v m) u)
      next_chosen u l settled =
          let v_in = turn_in.0 in
          let now : at (set dist v k) v ≡ k = get_or-set_same dist v k 0 v_room in
          chosen_kept g len positive (at (set dist v k)) t.parent.items t.up.items t.least.items v p e m (omega (arith, v_in, s.room.parent))
          (omega (arith, v_in, s.room.up)) (omega (arith, v_in, s.room.least)) choice u (rw now (none_farther u settled l)) (λ ne.
          let was : at dist u ≢ never = rw (get_or-set_other dist v u k 0 ne) at settled in
          let f = s.search.fits u l was in
          choice_stays g len positive dist v k v_room turn_free u (last_up u l was) (omega (arith, f, small)) ne (at t.least.items)
          (at t.parent.items u) (at t.up.items u) (at t.least.items u) (s.chosen u l was))

      pub turn_near : IsSearchNear g len base radius t2 new
      turn_near = record {
        room = record {
          order = ap length order_is ∙ length-set t.order.items t.count v ∙ s.room.order;
          distance = ap length distance_is ∙ length-set dist v k ∙ s.room.distance;
          parent = ap length parent_is ∙ length-set t.parent.items v p ∙ s.room.parent;
          up = ap length up_is ∙ length-set t.up.items v e ∙ s.room.up;
          least = ap length least_is ∙ length-set t.least.items v m ∙ s.room.least;
        };
        wide = offered.0;
        last = k;
        search = subst (λ (xs : List ℕ). IsSearch g len base (at xs) offered.0 k (count_below g.nodes (λ u. eqb (at xs u) never))) (sym distance_is)
            (search_untied v g len base (at (set dist v k)) offered.0 k (count_below g.nodes (λ u. eqb (at (set dist v k) u) never))
            (turn.keeps (set (tied v s.wide) v None) (tied v offered.0) refl
            (offered_tied v g len (at (set dist v k)) k s.wide offered.0 wide_least.1.within offered.1)));
        trimmed = offered.2;
        within = λ u l settled. elim (cases_eq u v) [
          | inl same ↦ rw (distance_is, same, get_or-set_same dist v k 0 v_room) wide_least.0
          | inr ne ↦ rw (distance_is, get_or-set_other dist v u k 0 ne)
              (s.within u l (rw (distance_is, get_or-set_other dist v u k 0 ne) at settled))
        ];
        listed = rw (distance_is, order_is, count_is) (list_more g.nodes dist t.order.items t.count v k s.listed turn_in.0 v_room
            (omega (arith, turn_room, s.room.order)) turn_free near_end last_up);
        counted =
            let one = one_less g.nodes v k dist turn_in.0 (sym s.room.distance) turn_free near_end in
            rw (distance_is, count_is) (omega (arith, one, s.counted));
        chosen = λ u l settled. rw (distance_is, parent_is, up_is, least_is) (next_chosen u l (rw distance_is at settled));
      }

  -- where nothing is left
  pub near_ends : (t : Tables) (heap : Entries) → IsSearchNear g len base radius t heap → IsEmpty heap →
      IsFound g len base radius t
  near_ends t heap s empty = record {
    room = s.room;
    count_in = omega (arith, s.counted);
    reached = record {
      at_base = elim s.search.base_first [
        | inl is ↦ is
        | inr (_, key) ↦ absurd (none_near base 0 key (omega arith))
      ];
      within = s.within;
      fits = s.search.fits;
      near = λ u w e lu lw le join su within. elim (cases_eq (at t.distance.items w) never) [
        | inl free ↦ absurd (none_near w (at t.distance.items u + len e) (s.search.offered u w e lu lw le join su free) within)
        | inr sw ↦ (sw, s.search.near u w e lu lw le join su sw)
      ];
      tight = s.search.tight;
    };
    listed = s.listed;
    chosen = s.chosen;
  }
    where
      none_near : (w x : ℕ) → HasKey s.wide w x → x ≤ radius → ⊥
      none_near w x key within =
          let b : key.key ≤ x = key.bound in
          no_entry (entry_of heap w) key.key key.tie (empty w) (s.trimmed.there w key.key key.tie key.entry (omega arith))
