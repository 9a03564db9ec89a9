use Rattle.std.proofs.Common.{ℕ, suc, ◌<◌, ◌≤◌, ◌≡◌, ◌≢◌, ◌+◌, ◌*◌, sym, ap, ◌∙◌, arith, inl, inr, set, Option, Some, None, true, false, eqb, eq-eqb, ne_eqb, get_or-set_same, get_or-set_other}
use Rattle.surf_surfaces.proofs.Common.{cases_eq, false≢true, joins_turned, joins_ends, Graph, IsGraph, IsConnectedGraph, leaves, joins}
use Rattle.surf_heap.specs.Entries.{Entries, entry_of, IsUpTo, IsLeastEntry, IsEmpty}
use Rattle.surf_lengths.specs.Lengths.{longest}
use Rattle.surf_tree.specs.Searches.{far, HasKey, IsReached, IsOffered, IsSettled}
use Rattle.surf_tree.proofs.SearchWords.{IsOutside, IsNext, IsSearch}

pub no_entry : (o : Option (ℕ × ℕ)) (k t : ℕ) → o ≡ None → ◌≡◌ {A = Option (ℕ × ℕ)} o (Some (k, t)) → ⊥
no_entry o k t none some = let e = sym none ∙ some in cc

key_of : Option (ℕ × ℕ) → ℕ
key_of None = 0
key_of (Some x) = x.0

pub same_key : (o : Option (ℕ × ℕ)) (k t k2 t2 : ℕ) → ◌≡◌ {A = Option (ℕ × ℕ)} o (Some (k, t)) → ◌≡◌ {A = Option (ℕ × ℕ)} o (Some (k2, t2)) → k ≡ k2
unfolding key_of
same_key o k t k2 t2 a b = ap key_of (sym a ∙ b)

key_up : (k t p k2 t2 p2 : ℕ) → IsUpTo k t p k2 t2 p2 → k ≤ k2
key_up k t p k2 t2 p2 h = elim h [ inl l ↦ omega arith | inr (e, _) ↦ omega arith ]

pub least_next : (heap : Entries) (v k t : ℕ) → IsLeastEntry heap v k t → IsNext heap v k t
least_next heap v k t least = record {
  within = least.within;
  holds = least.holds;
  least = λ w k2 t2 h. key_up k t v k2 t2 w (least.least w k2 t2 h);
}

-- where neighbours of settled nodes are settled and one node is, all are
module _ (g : Graph) (dist : ℕ → ℕ) (base : ℕ) (graph : IsGraph g) (connected : IsConnectedGraph g) (in_range : base < g.nodes) (first : dist base ≢ far)
    (goes_on : (u w e : ℕ) → u < g.nodes → w < g.nodes → e < g.edges → joins g u w e ≡ true → dist u ≢ far → dist w ≢ far) where
  stays : (e : ℕ) → e < g.edges → leaves g (λ v. eqb (dist v) far) e ≡ false
  stays e le =
      let ends = graph e le in
      let there = joins_ends g e in
      elim (cases_eq (dist (g.from e)) far) [
        | inl f ↦ elim (cases_eq (dist (g.to e)) far) [
          | inl f2 ↦ rw (eq-eqb (dist (g.from e)) far f, eq-eqb (dist (g.to e)) far f2)
          | inr n2 ↦ absurd (goes_on (g.to e) (g.from e) e ends.1 ends.0 le (joins_turned g (g.from e) (g.to e) e there) n2 f)
        ]
        | inr n ↦ elim (cases_eq (dist (g.to e)) far) [
          | inl f2 ↦ absurd (goes_on (g.from e) (g.to e) e ends.0 ends.1 le there n f2)
          | inr n2 ↦ rw (ne_eqb (dist (g.from e)) far n, ne_eqb (dist (g.to e)) far n2)
        ]
      ]

  pub all_or_none : (u : ℕ) → u < g.nodes → dist u ≢ far
  all_or_none u lu f =
      let same : eqb (dist u) far ≡ eqb (dist base) far = connected (λ v. eqb (dist v) far) stays u base lu in_range in
      false≢true (sym (sym (eq-eqb (dist u) far f) ∙ (same ∙ ne_eqb (dist base) far first)))

module _ (g : Graph) (len : ℕ → ℕ) (base : ℕ) (small : g.nodes ≤ longest) (short : (e : ℕ) → len e ≤ longest) where
  moved : (dist dist2 : ℕ → ℕ) (w k : ℕ) → ((u : ℕ) → dist u ≢ far → dist2 u ≡ dist u) → IsReached g len dist w k → IsReached g len dist2 w k
  moved dist dist2 w k same r = record {
    before = r.before;
    edge = r.edge;
    before_in = r.before_in;
    edge_in = r.edge_in;
    settled = rw (same r.before r.settled) r.settled;
    joined = r.joined;
    is = rw (same r.before r.settled) r.is;
  }

  module _ (dist dist2 : ℕ → ℕ) (heap mid new : Entries) (last left v k t : ℕ)
      (s : IsSearch g len base dist heap last (suc left)) (least : IsNext heap v k t) (took : mid ≡ set heap v None)
      (now : dist2 v ≡ k) (others : (q : ℕ) → q ≢ v → dist2 q ≡ dist q) (done : IsOffered g len dist2 v k mid new) where
    out : IsOutside g len base dist last (suc left) v k
    out = s.outside v k t least.holds

    near_end : k ≢ far
    near_end = let f : k + suc left * longest ≤ g.nodes * longest = out.fits in omega arith

    new_v : dist2 v ≢ far
    new_v e = near_end (sym now ∙ e)

    apart : (q : ℕ) → dist q ≢ far → q ≢ v
    apart q ne same = ne (ap dist same ∙ out.unsettled)

    apart2 : (q : ℕ) → dist2 q ≡ far → q ≢ v
    apart2 q e same = new_v (sym (ap dist2 same) ∙ e)

    kept : (u : ℕ) → dist u ≢ far → dist2 u ≡ dist u
    kept u ne = others u (apart u ne)

    was : (u : ℕ) → u ≢ v → dist2 u ≢ far → dist u ≢ far
    was u ne h e = h (others u ne ∙ e)

    in_mid : (w : ℕ) → w ≢ v → entry_of mid w ≡ entry_of heap w
    in_mid w ne = ap (λ h. entry_of h w) took ∙ get_or-set_other heap v w None None ne

    at_mid : entry_of mid v ≡ None
    at_mid = ap (λ h. entry_of h v) took ∙ get_or-set_same heap v None None least.within

    keeps_key : (w x : ℕ) → w ≢ v → HasKey heap w x → HasKey new w x
    keeps_key w x ne h =
        let n = done.kept w h.key h.tie (in_mid w ne ∙ h.entry) in
        let b1 : n.key ≤ h.key = n.bound in
        let b2 : h.key ≤ x = h.bound in
        record { key = n.key; tie = n.tie; entry = n.entry; bound = omega arith }

    v_bound : (x : ℕ) → HasKey heap v x → k ≤ x
    v_bound x h = let e : k ≡ h.key = same_key (entry_of heap v) k t h.key h.tie least.holds h.entry in let b : h.key ≤ x = h.bound in omega arith

    now_outside : (w k2 t2 : ℕ) → entry_of new w ≡ Some (k2, t2) → IsOutside g len base dist2 k left w k2
    now_outside w k2 t2 h = elim (done.came w k2 t2 h) [
      | inl old ↦
          let ne : w ≢ v = λ same. no_entry (entry_of mid w) k2 t2 (ap (entry_of mid) same ∙ at_mid) old in
          let was_in : entry_of heap w ≡ Some (k2, t2) = sym (in_mid w ne) ∙ old in
          let o = s.outside w k2 t2 was_in in
          let f : k2 + suc left * longest ≤ g.nodes * longest = o.fits in
          record {
            within = o.within;
            unsettled = others w ne ∙ o.unsettled;
            later = least.least w k2 t2 was_in;
            fits = omega arith;
            reached = λ nb. moved dist dist2 w k2 kept (o.reached nb);
          }
      | inr (e, le, lw, join, free, is) ↦
          let f : k + suc left * longest ≤ g.nodes * longest = out.fits in
          let b : len e ≤ longest = short e in
          record {
            within = lw;
            unsettled = free;
            later = omega arith;
            fits = omega arith;
            reached = λ nb. record { before = v; edge = e; before_in = out.within; edge_in = le; settled = new_v; joined = join; is = rw now is };
          }
    ]

    pub settle_one : IsSearch g len base dist2 new k left
    settle_one = record {
      outside = now_outside;
      offered = λ u w e lu lw le join su fw. elim (cases_eq u v) [
        | inl same ↦ rw (same, now) (done.offered w e le (rw same at join) fw)
        | inr ne ↦
            let nw = apart2 w fw in
            rw (others u ne) (keeps_key w (dist u + len e) nw (s.offered u w e lu lw le join (was u ne su) (sym (others w nw) ∙ fw)))
      ];
      settled = λ u lu su. elim (cases_eq u v) [
        | inl same ↦ rw (same, now) (omega arith)
        | inr ne ↦
            let a : dist u ≤ last = s.settled u lu (was u ne su) in
            let b : last ≤ k = out.later in
            rw (others u ne) (omega arith)
      ];
      fits = λ u lu su. elim (cases_eq u v) [
        | inl same ↦ let f : k + suc left * longest ≤ g.nodes * longest = out.fits in rw (same, now) (omega arith)
        | inr ne ↦ rw (others u ne) (s.fits u lu (was u ne su))
      ];
      near = λ u w e lu lw le join su sw. elim (cases_eq u v) [
        | inl same ↦ elim (cases_eq w v) [
          | inl same2 ↦ rw (same, same2, now) (omega arith)
          | inr nw ↦
              let a : dist w ≤ last = s.settled w lw (was w nw sw) in
              let b : last ≤ k = out.later in
              rw (same, now, others w nw) (omega arith)
        ]
        | inr ne ↦ elim (cases_eq w v) [
          | inl same2 ↦ rw (same2, now, others u ne) (v_bound (dist u + len e) (s.offered u v e lu out.within le (rw same2 at join) (was u ne su) out.unsettled))
          | inr nw ↦ rw (others u ne, others w nw) (s.near u w e lu lw le join (was u ne su) (was w nw sw))
        ]
      ];
      tight = λ w lw nb sw. elim (cases_eq w v) [
        | inl same ↦
            let nv : v ≢ base = λ e. nb (same ∙ e) in
            rw (same, now) (moved dist dist2 v k kept (out.reached nv))
        | inr ne ↦ rw (others w ne) (moved dist dist2 w (dist w) kept (s.tight w lw nb (was w ne sw)))
      ];
      base_first = elim (cases_eq base v) [
        | inl same ↦ elim s.base_first [
          | inl zero_there ↦ let e : far ≡ 0 = sym out.unsettled ∙ (ap dist (sym same) ∙ zero_there) in absurd (omega arith)
          | inr (_, key) ↦ let b : k ≤ 0 = v_bound 0 (rw same at key) in inl (ap dist2 same ∙ (now ∙ omega arith))
        ]
        | inr ne ↦ elim s.base_first [
          | inl zero_there ↦ inl (others base ne ∙ zero_there)
          | inr (free, key) ↦ inr (others base ne ∙ free, keeps_key base 0 ne key)
        ]
      ];
    }

  -- before the first node is settled
  pub search_begins : (dist : ℕ → ℕ) (heap : Entries) (left : ℕ) → base < g.nodes → left ≡ g.nodes → ((u : ℕ) → u < g.nodes → dist u ≡ far) → entry_of heap base ≡ Some (0, 0) → ((w : ℕ) → w ≢ base → entry_of heap w ≡ None) →
      IsSearch g len base dist heap 0 left
  search_begins dist heap left in_range all free first none = record {
    outside = λ w k t h. elim (cases_eq w base) [
      | inl same ↦
          let zero_key : 0 ≡ k = same_key (entry_of heap base) 0 0 k t first (ap (entry_of heap) (sym same) ∙ h) in
          record { within = rw same in_range; unsettled = free w (rw same in_range); later = omega arith; fits = omega arith; reached = λ nb. absurd (nb same) }
      | inr ne ↦ absurd (no_entry (entry_of heap w) k t (none w ne) h)
    ];
    offered = λ u w e lu lw le join su fw. absurd (su (free u lu));
    settled = λ u lu su. absurd (su (free u lu));
    fits = λ u lu su. absurd (su (free u lu));
    near = λ u w e lu lw le join su sw. absurd (su (free u lu));
    tight = λ w lw nb sw. absurd (sw (free w lw));
    base_first = inr (free base in_range, record { key = 0; tie = 0; entry = first; bound = omega arith });
  }

  module _ (dist : ℕ → ℕ) (heap : Entries) (last left : ℕ) (s : IsSearch g len base dist heap last left) (graph : IsGraph g) (connected : IsConnectedGraph g) (in_range : base < g.nodes) (empty : IsEmpty heap) where
    base_zero : dist base ≡ 0
    base_zero = elim s.base_first [
      | inl is ↦ is
      | inr (_, key) ↦ absurd (no_entry (entry_of heap base) key.key key.tie (empty base) key.entry)
    ]

    not_free : (u w e : ℕ) → u < g.nodes → w < g.nodes → e < g.edges → joins g u w e ≡ true → dist u ≢ far → dist w ≢ far
    not_free u w e lu lw le join su fw = let key = s.offered u w e lu lw le join su fw in no_entry (entry_of heap w) key.key key.tie (empty w) key.entry

    all_settled : (u : ℕ) → u < g.nodes → dist u ≢ far
    all_settled = all_or_none g dist base graph connected in_range (λ none. let z : dist base ≡ 0 = base_zero in absurd (omega arith)) not_free

    pub search_ends : IsSettled g len base dist
    search_ends = record {
      at_base = base_zero;
      fits = λ u lu. s.fits u lu (all_settled u lu);
      near = λ u w e lu lw le join. s.near u w e lu lw le join (all_settled u lu) (all_settled w lw);
      tight = λ w lw nb. s.tight w lw nb (all_settled w lw);
    }
