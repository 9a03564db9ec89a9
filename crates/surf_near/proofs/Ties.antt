-- Ties by which one place comes first among those that have its key. A search doesn't look at ties.
use Rattle.surf_near.proofs.Common.{ℕ, ◌<◌, ◌≤◌, ◌≡◌, ◌≢◌, refl, sym, ap, ◌∙◌, arith, inl, inr, length, set, Option, Some, None, map, eqb, if◌then◌else◌, eq-eqb, ne_eqb, get_or-set_same, get_or-set_other, length-set, cases_eq, cases_lt, get_or_past, get_or-map-range_with_len, length-map-range_with_len, range_with_len, Graph, Entries, entry_of, IsLeastEntry, IsNearestEntry, HasKey, IsOffered, IsSearch}

with_tie : ℕ → Option (ℕ × ℕ) → Option (ℕ × ℕ)
with_tie tie None = None
with_tie tie (Some x) = Some (x.0, tie)

pair_of : Option (ℕ × ℕ) → ℕ × ℕ
pair_of None = (0, 0)
pair_of (Some x) = x

with_some : (tie k t : ℕ) (o : Option (ℕ × ℕ)) → ◌≡◌ {A = Option (ℕ × ℕ)} o (Some (k, t)) → with_tie tie o ≡ Some (k, tie)
unfolding with_tie
with_some tie k t o e = ap (with_tie tie) e

with_none : (tie : ℕ) (o : Option (ℕ × ℕ)) → ◌≡◌ {A = Option (ℕ × ℕ)} o None → with_tie tie o ≡ None
unfolding with_tie
with_none tie o e = ap (with_tie tie) e

from_tie : (tie k t : ℕ) (o : Option (ℕ × ℕ)) → ◌≡◌ {A = Option (ℕ × ℕ)} (with_tie tie o) (Some (k, t)) →
    (old : ℕ) × (◌≡◌ {A = Option (ℕ × ℕ)} o (Some (k, old))) × (t ≡ tie)
unfolding with_tie pair_of
from_tie tie k t None e = absurd (let x = e in cc)
from_tie tie k t (Some x) e =
    let key : x.0 ≡ k = ap (λ o. (pair_of o).0) e in
    (x.1, ap (λ n. Some (n, x.1)) key, ap (λ o. (pair_of o).1) (sym e))

module _ (v : ℕ) where
  tie_of : ℕ → ℕ
  tie_of w = if eqb w v then 0 else 1

  tie_here : tie_of v ≡ 0
  unfolding tie_of
  tie_here = rw (eq-eqb v v refl) refl

  tie_other : (w : ℕ) → w ≢ v → tie_of w ≡ 1
  unfolding tie_of
  tie_other w ne = rw (ne_eqb w v ne) refl

  pub tied : Entries → Entries
  tied heap = map (λ w. with_tie (tie_of w) (entry_of heap w)) (range_with_len 0 (length heap))

  tied_length : (heap : Entries) → length (tied heap) ≡ length heap
  unfolding tied
  tied_length heap = length-map-range_with_len (λ w. with_tie (tie_of w) (entry_of heap w)) 0 (length heap)

  tied_at : (heap : Entries) (w : ℕ) → entry_of (tied heap) w ≡ with_tie (tie_of w) (entry_of heap w)
  unfolding tied
  tied_at heap w = elim (cases_lt w (length heap)) [
    | inl l ↦ get_or-map-range_with_len (λ u. with_tie (tie_of u) (entry_of heap u)) 0 (length heap) w w None l (omega arith)
    | inr past ↦
        let long = length-map-range_with_len (λ u. with_tie (tie_of u) (entry_of heap u)) 0 (length heap) in
        get_or_past (map (λ u. with_tie (tie_of u) (entry_of heap u)) (range_with_len 0 (length heap))) w None (omega arith)
        ∙ sym (with_none (tie_of w) (entry_of heap w) (get_or_past heap w None past))
  ]

  tied_some : (heap : Entries) (w k t : ℕ) → entry_of heap w ≡ Some (k, t) → entry_of (tied heap) w ≡ Some (k, tie_of w)
  tied_some heap w k t e = tied_at heap w ∙ with_some (tie_of w) k t (entry_of heap w) e

  untied : (heap : Entries) (w k t : ℕ) → entry_of (tied heap) w ≡ Some (k, t) →
      (old : ℕ) × (entry_of heap w ≡ Some (k, old)) × (t ≡ tie_of w)
  untied heap w k t e = from_tie (tie_of w) k t (entry_of heap w) (sym (tied_at heap w) ∙ e)

  key_tied : (heap : Entries) (w x : ℕ) → HasKey heap w x → HasKey (tied heap) w x
  key_tied heap w x has = record {
    key = has.key;
    tie = tie_of w;
    entry = tied_some heap w has.key has.tie has.entry;
    bound = has.bound;
  }

  key_untied : (heap : Entries) (w x : ℕ) → HasKey (tied heap) w x → HasKey heap w x
  key_untied heap w x has =
      let (old, entry, _) = untied heap w has.key has.tie has.entry in
      record { key = has.key; tie = old; entry = entry; bound = has.bound }

  -- the place is least by key, tie and place
  pub tied_least : (heap : Entries) (k : ℕ) → IsNearestEntry heap v k → IsLeastEntry (tied heap) v k 0
  tied_least heap k near = record {
    within = let long = tied_length heap in let l = near.within in omega arith;
    holds = tied_some heap v k near.holds.0 near.holds.1 ∙ ap (λ t. Some (k, t)) tie_here;
    least = λ p k2 t2 h.
        let (old, was, tie) = untied heap p k2 t2 h in
        let le : k ≤ k2 = near.least p k2 old was in
        elim (cases_lt k k2) [
          | inl less ↦ inl less
          | inr ge ↦
              let same : k ≡ k2 = omega arith in
              elim (cases_eq p v) [
                | inl e ↦
                    let zero_tie : t2 ≡ 0 = tie ∙ ap tie_of e ∙ tie_here in
                    inr (same, inr (sym zero_tie, omega arith))
                | inr ne ↦
                    let one_tie : t2 ≡ 1 = tie ∙ tie_other p ne in
                    inr (same, inl (omega arith))
              ]
        ];
  }

  module _ (g : Graph) (len : ℕ → ℕ) (base : ℕ) (dist : ℕ → ℕ) (heap : Entries) (last left : ℕ) where
    pub search_tied : IsSearch g len base dist heap last left → IsSearch g len base dist (tied heap) last left
    search_tied s = record {
      outside = λ w k t h. let (old, was, _) = untied heap w k t h in s.outside w k old was;
      offered = λ u w e lu lw le join su fw. key_tied heap w (_) (s.offered u w e lu lw le join su fw);
      settled = s.settled;
      fits = s.fits;
      near = s.near;
      tight = s.tight;
      base_first = elim s.base_first [ inl z ↦ inl z | inr (free, key) ↦ inr (free, key_tied heap base 0 key) ];
    }

    pub search_untied : IsSearch g len base dist (tied heap) last left → IsSearch g len base dist heap last left
    search_untied s = record {
      outside = λ w k t h. s.outside w k (tie_of w) (tied_some heap w k t h);
      offered = λ u w e lu lw le join su fw. key_untied heap w (_) (s.offered u w e lu lw le join su fw);
      settled = s.settled;
      fits = s.fits;
      near = s.near;
      tight = s.tight;
      base_first = elim s.base_first [ inl z ↦ inl z | inr (free, key) ↦ inr (free, key_untied heap base 0 key) ];
    }

  -- what is offered when the place was taken out
  module _ (g : Graph) (len dist : ℕ → ℕ) (d : ℕ) (heap new : Entries) (within : v < length heap) where
    taken_at : (w : ℕ) → entry_of (set (tied heap) v None) w ≡ with_tie (tie_of w) (entry_of (set heap v None) w)
    taken_at w = elim (cases_eq w v) [
      | inl e ↦
          let long = tied_length heap in
          let here : entry_of (set heap v None) w ≡ None = ap (entry_of (set heap v None)) e ∙ get_or-set_same heap v None None within in
          ap (entry_of (set (tied heap) v None)) e ∙ get_or-set_same (tied heap) v None None (omega arith)
          ∙ sym (with_none (tie_of w) (entry_of (set heap v None) w) here)
      | inr ne ↦ get_or-set_other (tied heap) v w None None ne ∙ tied_at heap w
          ∙ ap (with_tie (tie_of w)) (sym (get_or-set_other heap v w None None ne))
    ]

    pub offered_tied : IsOffered g len dist v d (set heap v None) new → IsOffered g len dist v d (set (tied heap) v None) (tied new)
    offered_tied done = record {
      same_length = tied_length new ∙ done.same_length ∙ length-set heap v None ∙ sym (length-set (tied heap) v None ∙ tied_length heap);
      came = λ w k t h.
          let (old, was, tie) = untied new w k t h in
          elim (done.came w k old was) [
            | inl there ↦ inl (taken_at w ∙ with_some (tie_of w) k old (entry_of (set heap v None) w) there ∙ ap (λ n. Some (k, n)) (sym tie))
            | inr fresh ↦ inr fresh
          ];
      kept = λ w k t h.
          let (old, was, _) = from_tie (tie_of w) k t (entry_of (set heap v None) w) (sym (taken_at w) ∙ h) in
          key_tied new w k (done.kept w k old was);
      offered = λ w e le join f. key_tied new w (_) (done.offered w e le join f);
    }
