-- A search from a part, step by step.
use Rattle.std.proofs.Common.{ℕ, suc, ◌<◌, ◌≤◌, ◌≡◌, ◌≢◌, ◌+◌, ◌*◌, List, sym, ap, ◌∙◌, arith, inl, inr, set, Option, Some, None, Contains, get_or-set_same, get_or-set_other}
use Rattle.surf_surfaces.proofs.Common.{cases_eq, cases_lt, Graph}
use Rattle.surf_heap.specs.Entries.{Entries, entry_of, IsUpTo, IsLeastEntry}
use Rattle.surf_lengths.specs.Lengths.{longest}
use Rattle.surf_sheetcheck.specs.Searches.{far, HasKey, IsOffered, AreSeeds}
use Rattle.surf_sheetcheck.proofs.SearchWords.{ComesFrom, IsOutside, IsNext, IsSearch}

pub no_entry : (o : Option (ℕ × ℕ)) (k t : ℕ) → o ≡ None → ◌≡◌ {A = Option (ℕ × ℕ)} o (Some (k, t)) → ⊥
no_entry o k t none some = let e = sym none ∙ some in cc

key_of : Option (ℕ × ℕ) → ℕ
key_of None = 0
key_of (Some x) = x.0

pub same_key : (o : Option (ℕ × ℕ)) (k t k2 t2 : ℕ) → ◌≡◌ {A = Option (ℕ × ℕ)} o (Some (k, t)) → ◌≡◌ {A = Option (ℕ × ℕ)} o (Some (k2, t2)) → k ≡ k2
unfolding key_of
same_key o k t k2 t2 a b = ap key_of (sym a ∙ b)

key_up : (k t p k2 t2 p2 : ℕ) → IsUpTo k t p k2 t2 p2 → k ≤ k2
key_up k t p k2 t2 p2 h = elim h [ inl l ↦ omega arith | inr (e, _) ↦ omega arith ]

pub least_next : (heap : Entries) (v k t : ℕ) → IsLeastEntry heap v k t → IsNext heap v k t
least_next heap v k t least = record {
  within = least.within;
  holds = least.holds;
  least = λ w k2 t2 h. key_up k t v k2 t2 w (least.least w k2 t2 h);
}

module _ (g : Graph) (len : ℕ → ℕ) (part : List ℕ) (limit : ℕ) (small : g.nodes ≤ longest) (short : (e : ℕ) → len e ≤ longest) where
  moved : (dist dist2 : ℕ → ℕ) (w k : ℕ) → ((u : ℕ) → dist u ≢ far → dist2 u ≡ dist u) → ComesFrom g len part dist w k → ComesFrom g len part dist2 w k
  moved dist dist2 w k same from = elim from [
    | inl seed ↦ inl seed
    | inr r ↦ inr (record {
      before = r.before;
      edge = r.edge;
      before_in = r.before_in;
      edge_in = r.edge_in;
      settled = rw (same r.before r.settled) r.settled;
      joined = r.joined;
      is = rw (same r.before r.settled) r.is;
    })
  ]

  module _ (dist dist2 : ℕ → ℕ) (heap mid new : Entries) (last left v k t : ℕ)
      (s : IsSearch g len part limit dist heap last (suc left)) (least : IsNext heap v k t) (took : mid ≡ set heap v None)
      (now : dist2 v ≡ k) (others : (q : ℕ) → q ≢ v → dist2 q ≡ dist q) (done : IsOffered g len limit dist2 v k mid new) where
    out : IsOutside g len part limit dist last (suc left) v k
    out = s.outside v k t least.holds

    near_end : k ≢ far
    near_end = let f : k + suc left * longest ≤ g.nodes * longest = out.fits in omega arith

    new_v : dist2 v ≢ far
    new_v e = near_end (sym now ∙ e)

    apart : (q : ℕ) → dist q ≢ far → q ≢ v
    apart q ne same = ne (ap dist same ∙ out.unsettled)

    apart2 : (q : ℕ) → dist2 q ≡ far → q ≢ v
    apart2 q e same = new_v (sym (ap dist2 same) ∙ e)

    kept : (u : ℕ) → dist u ≢ far → dist2 u ≡ dist u
    kept u ne = others u (apart u ne)

    was : (u : ℕ) → u ≢ v → dist2 u ≢ far → dist u ≢ far
    was u ne h e = h (others u ne ∙ e)

    in_mid : (w : ℕ) → w ≢ v → entry_of mid w ≡ entry_of heap w
    in_mid w ne = ap (λ h. entry_of h w) took ∙ get_or-set_other heap v w None None ne

    at_mid : entry_of mid v ≡ None
    at_mid = ap (λ h. entry_of h v) took ∙ get_or-set_same heap v None None least.within

    keeps_key : (w x : ℕ) → w ≢ v → HasKey heap w x → HasKey new w x
    keeps_key w x ne h =
        let n = done.kept w h.key h.tie (in_mid w ne ∙ h.entry) in
        let b1 : n.key ≤ h.key = n.bound in
        let b2 : h.key ≤ x = h.bound in
        record { key = n.key; tie = n.tie; entry = n.entry; bound = omega arith }

    v_bound : (x : ℕ) → HasKey heap v x → k ≤ x
    v_bound x h = let e : k ≡ h.key = same_key (entry_of heap v) k t h.key h.tie least.holds h.entry in let b : h.key ≤ x = h.bound in omega arith

    now_outside : (w k2 t2 : ℕ) → entry_of new w ≡ Some (k2, t2) → IsOutside g len part limit dist2 k left w k2
    now_outside w k2 t2 h = elim (done.came w k2 t2 h) [
      | inl old ↦
          let ne : w ≢ v = λ same. no_entry (entry_of mid w) k2 t2 (ap (entry_of mid) same ∙ at_mid) old in
          let was_in : entry_of heap w ≡ Some (k2, t2) = sym (in_mid w ne) ∙ old in
          let o = s.outside w k2 t2 was_in in
          let f : k2 + suc left * longest ≤ g.nodes * longest = o.fits in
          record {
            within = o.within;
            unsettled = others w ne ∙ o.unsettled;
            later = least.least w k2 t2 was_in;
            fits = omega arith;
            under = o.under;
            reached = moved dist dist2 w k2 kept o.reached;
          }
      | inr (e, le, lw, join, free, less, is) ↦
          let f : k + suc left * longest ≤ g.nodes * longest = out.fits in
          let b : len e ≤ longest = short e in
          record {
            within = lw;
            unsettled = free;
            later = omega arith;
            fits = omega arith;
            under = omega (arith, less, is);
            reached = inr (record { before = v; edge = e; before_in = out.within; edge_in = le; settled = new_v; joined = join; is = rw now is });
          }
    ]

    pub settle_one : IsSearch g len part limit dist2 new k left
    settle_one = record {
      outside = now_outside;
      offered = λ u w e lu lw le join su fw less. elim (cases_eq u v) [
        | inl same ↦ rw (same, now) (done.offered w e le (rw same at join) fw (rw (same, now) at less))
        | inr ne ↦
            let nw = apart2 w fw in
            rw (others u ne) (keeps_key w (dist u + len e) nw (s.offered u w e lu lw le join (was u ne su) (sym (others w nw) ∙ fw) (rw (others u ne) at less)))
      ];
      settled = λ u lu su. elim (cases_eq u v) [
        | inl same ↦ rw (same, now) (omega arith)
        | inr ne ↦
            let a : dist u ≤ last = s.settled u lu (was u ne su) in
            let b : last ≤ k = out.later in
            rw (others u ne) (omega arith)
      ];
      below = λ u lu su. elim (cases_eq u v) [
        | inl same ↦ rw (same, now) out.under
        | inr ne ↦ rw (others u ne) (s.below u lu (was u ne su))
      ];
      near = λ u w e lu lw le join su sw. elim (cases_eq u v) [
        | inl same ↦ elim (cases_eq w v) [
          | inl same2 ↦ rw (same, same2, now) (omega arith)
          | inr nw ↦
              let a : dist w ≤ last = s.settled w lw (was w nw sw) in
              let b : last ≤ k = out.later in
              rw (same, now, others w nw) (omega arith)
        ]
        | inr ne ↦ elim (cases_eq w v) [
          | inl same2 ↦
              let under : k < limit = out.under in
              elim (cases_lt (dist u + len e) limit) [
                | inl less ↦ rw (same2, now, others u ne) (v_bound (dist u + len e) (s.offered u v e lu out.within le (rw same2 at join) (was u ne su) out.unsettled less))
                | inr more ↦ rw (same2, now, others u ne) (omega (arith, under, more))
              ]
          | inr nw ↦ rw (others u ne, others w nw) (s.near u w e lu lw le join (was u ne su) (was w nw sw))
        ]
      ];
      reached = λ w lw sw. elim (cases_eq w v) [
        | inl same ↦ rw (same, now) (moved dist dist2 v k kept out.reached)
        | inr ne ↦ rw (others w ne) (moved dist dist2 w (dist w) kept (s.reached w lw (was w ne sw)))
      ];
      seeds = λ w on. elim (cases_eq w v) [
        | inl same ↦ elim (s.seeds w on) [
          | inl zero_there ↦ let e : far ≡ 0 = sym out.unsettled ∙ (ap dist (sym same) ∙ zero_there) in absurd (omega arith)
          | inr (_, key) ↦ let b : k ≤ 0 = v_bound 0 (rw same at key) in inl (ap dist2 same ∙ (now ∙ omega arith))
        ]
        | inr ne ↦ elim (s.seeds w on) [
          | inl zero_there ↦ inl (others w ne ∙ zero_there)
          | inr (free, key) ↦ inr (others w ne ∙ free, keeps_key w 0 ne key)
        ]
      ];
    }

  -- before the first node is settled
  pub search_begins : (dist : ℕ → ℕ) (heap : Entries) (left : ℕ) → left ≡ g.nodes → 0 < limit → ((u : ℕ) → u < g.nodes → dist u ≡ far) →
      ((w : ℕ) → Contains part w → w < g.nodes) → AreSeeds part g.nodes heap → IsSearch g len part limit dist heap 0 left
  search_begins dist heap left all some free inside seeds = record {
    outside = λ w k t h.
        let came = seeds.came w k t h in
        record { within = inside w came.0; unsettled = free w (inside w came.0); later = omega arith; fits = omega (arith, came.1, all); under = omega (arith, came.1, some); reached = inl came };
    offered = λ u w e lu lw le join su fw less. absurd (su (free u lu));
    settled = λ u lu su. absurd (su (free u lu));
    below = λ u lu su. absurd (su (free u lu));
    near = λ u w e lu lw le join su sw. absurd (su (free u lu));
    reached = λ w lw sw. absurd (sw (free w lw));
    seeds = λ w on. inr (free w (inside w on), seeds.offered w on);
  }
