-- What keys have of each place.
use Rattle.std.proofs.Common.{ℕ, ◌<◌, ◌≤◌, ◌≡◌, ◌≢◌, refl, sym, ap, ◌∙◌, arith, inl, inr, length, set, Option, Some, None, Bool, true, false, ◌&&◌, replicate, eqb, if◌then◌else◌, get_or, get_or-set_same, get_or-set_other, lt-ltb}
use Rattle.std.proofs.Math.ListN.{length-set, length-replicate}
use Rattle.std.proofs.lemmas.Bool.{cases_eq, cases_lt, le-ltb}
use Rattle.std.proofs.lemmas.List.{same_lists, get_or_past, get_or-replicate, set-get_or}
use Rattle.std.proofs.lemmas.List.FromFn.{get_or-map-range_with_len, length-map-range_with_len}
use Rattle.surf_heap.specs.Entries.{entry_of, lesser, IsEmpty}
use Rattle.surf_buckets.specs.Circles.{nothing}
use Rattle.surf_buckets.specs.Buckets.{entry_at, entries_of, IsNearest, IsNearestEntry}
use Rattle.surf_buckets.proofs.Circling.{when, unless}
use Rattle.surf_buckets.proofs.Filing.{keyed}

pub entry_none : (key : ℕ → ℕ) (p : ℕ) → key p ≡ nothing → entry_at key p ≡ None
entry_none key p e = when (key p) nothing None (Some (key p, 0)) e

pub entry_some : (key : ℕ → ℕ) (p : ℕ) → key p ≢ nothing → entry_at key p ≡ Some (key p, 0)
entry_some key p ne = unless (key p) nothing None (Some (key p, 0)) ne

first_of : Option (ℕ × ℕ) → ℕ
first_of None = 0
first_of (Some x) = x.0

key_is : (x k t : ℕ) → ◌≡◌ {A = Option (ℕ × ℕ)} (Some (x, 0)) (Some (k, t)) → x ≡ k
unfolding first_of
key_is x k t e = ap first_of e

no_tie : (b : Bool) → (b && false) ≡ false
no_tie true = refl
no_tie false = refl

module _ (places : ℕ) (key : ℕ → ℕ) where
  pub entries_length : length (entries_of places key) ≡ places
  entries_length = length-map-range_with_len (entry_at key) 0 places

  pub entries_at : (p : ℕ) (d : Option (ℕ × ℕ)) → p < places → get_or (entries_of places key) p d ≡ entry_at key p
  entries_at p d l = get_or-map-range_with_len (entry_at key) 0 places p p d l (omega arith)

  -- what a place must be like to have an entry
  pub holder : (p k t : ℕ) → entry_of (entries_of places key) p ≡ Some (k, t) →
      (p < places) × (key p ≢ nothing) × (key p ≡ k)
  holder p k t h = elim (cases_lt p places) [
    | inl l ↦ elim (cases_eq (key p) nothing) [
      | inl none ↦ let e = sym (entries_at p None l ∙ entry_none key p none) ∙ h in cc
      | inr some ↦ (l, some, key_is (key p) k t (sym (entries_at p None l ∙ entry_some key p some) ∙ h))
    ]
    | inr past ↦ let e = sym (get_or_past (entries_of places key) p None (let n = entries_length in omega arith)) ∙ h in cc
  ]

  pub all_none : ((p : ℕ) → p < places → key p ≡ nothing) → IsEmpty (entries_of places key)
  all_none none p = elim (cases_lt p places) [
    | inl l ↦ entries_at p None l ∙ entry_none key p (none p l)
    | inr past ↦ get_or_past (entries_of places key) p None (let n = entries_length in omega arith)
  ]

  pub none_held : ((p : ℕ) → p < places → key p ≡ nothing) → entries_of places key ≡ replicate places None
  none_held none =
      same_lists (entries_of places key) (replicate places None) (entries_length ∙ sym (length-replicate places None)) (λ q d l.
      let n = entries_length in
      let lq : q < places = omega arith in
      entries_at q d lq ∙ entry_none key q (none q lq) ∙ sym (get_or-replicate places q None d lq))

  -- a place has another key
  pub entries_set : (key2 : ℕ → ℕ) (p k : ℕ) (x : Option (ℕ × ℕ)) → p < places →
      ((i : ℕ) → i < places → key2 i ≡ keyed p k key i) → entry_at key2 p ≡ x →
      entries_of places key2 ≡ set (entries_of places key) p x
  entries_set key2 p k x lp keys here =
      let n = entries_length in
      let n2 : length (entries_of places key2) ≡ places = length-map-range_with_len (entry_at key2) 0 places in
      same_lists (entries_of places key2) (set (entries_of places key) p x) (n2 ∙ sym n ∙ sym (length-set (entries_of places key) p x)) (λ q d l.
      let lq : q < places = omega arith in
      let now : get_or (entries_of places key2) q d ≡ entry_at key2 q = get_or-map-range_with_len (entry_at key2) 0 places q q d lq (omega arith) in
      elim (cases_eq q p) [
        | inl e ↦ now ∙ ap (entry_at key2) e ∙ here
            ∙ sym (ap (λ i. get_or (set (entries_of places key) p x) i d) e ∙ get_or-set_same (entries_of places key) p x d (omega arith))
        | inr ne ↦ now ∙ ap (λ j. if eqb j nothing then None else Some (j, 0)) (keys q lq ∙ unless q p k (key q) ne)
            ∙ sym (get_or-set_other (entries_of places key) p q x d ne ∙ entries_at q d lq)
      ])

  -- a place has none any more
  pub entries_without : (key2 : ℕ → ℕ) (p : ℕ) → p < places → ((i : ℕ) → i < places → key2 i ≡ keyed p nothing key i) →
      entries_of places key2 ≡ set (entries_of places key) p None
  entries_without key2 p lp keys =
      entries_set key2 p nothing None lp keys (entry_none key2 p (keys p lp ∙ when p p nothing (key p) refl))

  pub nearest_entry : (p k : ℕ) → IsNearest places key p k → IsNearestEntry (entries_of places key) p k
  nearest_entry p k near = record {
    within = let n = entries_length in let l = near.within in omega arith;
    holds = (
      0,
      entries_at p None near.within ∙ entry_some key p (λ e. absurd (omega (arith, near.holds, near.key_in, e)))
          ∙ ap (λ j. Some (j, 0)) near.holds,
    );
    least = λ q j t h.
        let (l, some, is) = holder q j t h in
        let le : k ≤ key q = near.least q l some in
        omega arith;
  }

  module _ (p k : ℕ) (lp : p < places) where
    -- the lesser of a key and a greater one
    pub offered_less : (key2 : ℕ → ℕ) → k < key p → k < nothing → ((i : ℕ) → i < places → key2 i ≡ keyed p k key i) →
        entries_of places key2 ≡ set (entries_of places key) p (Some (lesser (entry_of (entries_of places key) p) k 0))
    offered_less key2 less fits keys =
        let here : key2 p ≡ k = keys p lp ∙ when p p k (key p) refl in
        let now : entry_at key2 p ≡ Some (k, 0) = entry_some key2 p (λ e. absurd (omega arith)) ∙ ap (λ j. Some (j, 0)) here in
        entries_set key2 p k (Some (lesser (entry_of (entries_of places key) p) k 0)) lp keys (now ∙ sym (ap (λ x. Some x) (less_is less)))
      where
        less_is : k < key p → lesser (entry_of (entries_of places key) p) k 0 ≡ (k, 0)
        less_is l = elim (cases_eq (key p) nothing) [
          | inl none ↦ ap (λ o. lesser o k 0) (entries_at p None lp ∙ entry_none key p none)
          | inr some ↦ ap (λ o. lesser o k 0) (entries_at p None lp ∙ entry_some key p some) ∙ rw (lt-ltb k (key p) l) refl
        ]

    -- of a key and one that is no greater
    pub offered_more : key p ≤ k → k < nothing →
        entries_of places key ≡ set (entries_of places key) p (Some (lesser (entry_of (entries_of places key) p) k 0))
    offered_more le fits =
        let some : key p ≢ nothing = λ e. absurd (omega arith) in
        let here : entry_of (entries_of places key) p ≡ Some (key p, 0) = entries_at p None lp ∙ entry_some key p some in
        let stays : lesser (Some (key p, 0)) k 0 ≡ (key p, 0) = stays_is (key p) le in
        sym (ap (λ o. set (entries_of places key) p (Some (lesser o k 0))) here
        ∙ ap (λ x. set (entries_of places key) p (Some x)) stays
        ∙ ap (λ o. set (entries_of places key) p o) (sym here)
        ∙ set-get_or (entries_of places key) p None)
      where
        stays_is : (j : ℕ) → j ≤ k → lesser (Some (j, 0)) k 0 ≡ (j, 0)
        stays_is j l = rw (le-ltb k j l, no_tie (eqb k j)) refl
