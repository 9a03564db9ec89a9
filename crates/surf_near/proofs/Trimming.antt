-- A fringe that has what a wider one has, as far as a radius.
use Rattle.surf_near.proofs.Common.{ℕ, ◌<◌, ◌≤◌, ◌≡◌, refl, sym, ap, ◌∙◌, arith, inl, inr, length, set, Option, Some, None, ◌&&◌, eqb, ltb, get_or-set_same, get_or-set_other, ne_eqb, length-set, cases_eq, cases_lt, cases_Bool, lt-ltb, le-ltb, get_or_past, Entries, entry_of, lesser, IsNearestEntry, IsTrimmed}
use Rattle.surf_tree.proofs.Settling.{no_entry}

-- a lesser pair has a key between what it was made of
bounds : (key k t : ℕ) → ((lesser (Some (k, t)) key 0).0 ≤ key) × (key ≤ k → key ≤ (lesser (Some (k, t)) key 0).0)
bounds key k t = elim (cases_lt key k) [
  | inl l ↦ rw (lt-ltb key k l) (omega arith, λ le. omega arith)
  | inr ge ↦ elim (cases_Bool (eqb key k && ltb 0 t)) [
    | inl new ↦ rw (le-ltb key k ge, new) (omega arith, λ le. omega arith)
    | inr old ↦ rw (le-ltb key k ge, old) (omega arith, λ le. omega arith)
  ]
]

at_most : (o : Option (ℕ × ℕ)) (key : ℕ) → (lesser o key 0).0 ≤ key
at_most None key = omega arith
at_most (Some (k, t)) key = (bounds key k t).0

-- an entry that is less stays
stays : (key k t : ℕ) → k < key → lesser (Some (k, t)) key 0 ≡ (k, t)
stays key k t l = rw (le-ltb key k (omega arith), ne_eqb key k (λ e. absurd (omega arith))) refl

-- one that is greater goes
goes : (key k t : ℕ) → key < k → lesser (Some (k, t)) key 0 ≡ (key, 0)
goes key k t l = rw (lt-ltb key k l) refl

-- a key within the radius makes the same of both
alike : (radius key : ℕ) (o h : Option (ℕ × ℕ)) → key ≤ radius →
    ((k t : ℕ) → ◌≡◌ {A = Option (ℕ × ℕ)} h (Some (k, t)) → (◌≡◌ {A = Option (ℕ × ℕ)} o (Some (k, t))) × (k ≤ radius)) →
    ((k t : ℕ) → ◌≡◌ {A = Option (ℕ × ℕ)} o (Some (k, t)) → k ≤ radius → ◌≡◌ {A = Option (ℕ × ℕ)} h (Some (k, t))) →
    lesser h key 0 ≡ lesser o key 0
alike radius key None None le here there = refl
alike radius key None (Some (k, t)) le here there = absurd (no_entry None k t refl (here k t refl).0)
alike radius key (Some (k, t)) None le here there = elim (cases_lt radius k) [
  | inl past ↦ sym (goes key k t (omega arith))
  | inr within ↦ absurd (no_entry None k t refl (there k t refl within))
]
alike radius key (Some (k, t)) (Some (k2, t2)) le here there = ap (λ o. lesser o key 0) (sym (here k2 t2 refl).0)

-- what a key past the radius leaves within it was there
was_there : (radius key k t : ℕ) (o : Option (ℕ × ℕ)) → radius < key → k ≤ radius → lesser o key 0 ≡ (k, t) →
    ◌≡◌ {A = Option (ℕ × ℕ)} o (Some (k, t))
was_there radius key k t None past within is = let e = ap (λ (x : ℕ × ℕ). x.0) is in absurd (omega arith)
was_there radius key k t (Some (a, b)) past within is = elim (cases_lt a key) [
  | inl less ↦ ap (λ (x : ℕ × ℕ). Some x) (sym (stays key a b less) ∙ is)
  | inr more ↦
      let low : key ≤ (lesser (Some (a, b)) key 0).0 = (bounds key a b).1 more in
      let e : (lesser (Some (a, b)) key 0).0 ≡ k = ap (λ (x : ℕ × ℕ). x.0) is in
      absurd (omega arith)
]

value_of : Option (ℕ × ℕ) → ℕ × ℕ
value_of None = (0, 0)
value_of (Some x) = x

some_is : (x : ℕ × ℕ) (k t : ℕ) → ◌≡◌ {A = Option (ℕ × ℕ)} (Some x) (Some (k, t)) → x ≡ (k, t)
unfolding value_of
some_is x k t h = ap value_of h

module _ (radius : ℕ) (wide heap : Entries) (trimmed : IsTrimmed radius wide heap) where
  -- taking an entry out of both
  pub trim_taken : (v : ℕ) → IsTrimmed radius (set wide v None) (set heap v None)
  trim_taken v = record {
    same_length = length-set heap v None ∙ trimmed.same_length ∙ sym (length-set wide v None);
    here = λ w k t h. elim (cases_eq w v) [
      | inl same ↦ absurd (gone heap w v k t same h)
      | inr ne ↦
          let was = trimmed.here w k t (sym (get_or-set_other heap v w None None ne) ∙ h) in
          (get_or-set_other wide v w None None ne ∙ was.0, was.1)
    ];
    there = λ w k t h within. elim (cases_eq w v) [
      | inl same ↦ absurd (gone wide w v k t same h)
      | inr ne ↦ get_or-set_other heap v w None None ne
          ∙ trimmed.there w k t (sym (get_or-set_other wide v w None None ne) ∙ h) within
    ];
  }
    where
      gone : (entries : Entries) (w v k t : ℕ) → w ≡ v → entry_of (set entries v None) w ≡ Some (k, t) → ⊥
      gone entries w v k t same h = elim (cases_lt v (length entries)) [
        | inl l ↦ no_entry (entry_of (set entries v None) w) k t (ap (entry_of (set entries v None)) same ∙ get_or-set_same entries v None None l) h
        | inr past ↦ no_entry (entry_of (set entries v None) w) k t
            (get_or_past (set entries v None) w None (let n = length-set entries v None in omega arith)) h
      ]

  -- what is nearest in the trimmed fringe is nearest in the wider one
  pub trim_least : (v k : ℕ) → IsNearestEntry heap v k → (k ≤ radius) × IsNearestEntry wide v k
  trim_least v k least =
      let t = least.holds.0 in
      let at = trimmed.here v k t least.holds.1 in
      let within : v < length heap = least.within in
      let same = trimmed.same_length in (
        at.1,
        record {
          within = omega arith;
          holds = (t, at.0);
          least = λ p k2 t2 h. elim (cases_lt radius k2) [
            | inl past ↦ let le = at.1 in omega arith
            | inr inside ↦ least.least p k2 t2 (trimmed.there p k2 t2 h inside)
          ];
        },
      )

  module _ (w key : ℕ) (l : w < length heap) where
    wide_in : w < length wide
    wide_in = let same = trimmed.same_length in omega arith

    -- offering a key within the radius to both
    pub trim_offered : key ≤ radius → IsTrimmed radius (set wide w (Some (lesser (entry_of wide w) key 0)))
        (set heap w (Some (lesser (entry_of heap w) key 0)))
    trim_offered le =
        let same = alike radius key (entry_of wide w) (entry_of heap w) le (trimmed.here w) (trimmed.there w) in
        let new_wide = Some (lesser (entry_of wide w) key 0) in
        let new_heap = Some (lesser (entry_of heap w) key 0) in
        record {
          same_length = length-set heap w new_heap ∙ trimmed.same_length ∙ sym (length-set wide w new_wide);
          here = λ q k t h. elim (cases_eq q w) [
            | inl is ↦
                let at : ◌≡◌ {A = Option (ℕ × ℕ)} new_heap (Some (k, t)) = sym (ap (entry_of (set heap w new_heap)) is ∙ get_or-set_same heap w new_heap None l) ∙ h in
                let pair : lesser (entry_of wide w) key 0 ≡ (k, t) = sym same ∙ some_is (lesser (entry_of heap w) key 0) k t at in
                let first : (lesser (entry_of wide w) key 0).0 ≡ k = ap (λ (x : ℕ × ℕ). x.0) pair in
                let up = at_most (entry_of wide w) key in (
                  ap (entry_of (set wide w new_wide)) is ∙ get_or-set_same wide w new_wide None wide_in ∙ ap (λ (x : ℕ × ℕ). Some x) pair,
                  omega arith,
                )
            | inr ne ↦
                let was = trimmed.here q k t (sym (get_or-set_other heap w q new_heap None ne) ∙ h) in
                (get_or-set_other wide w q new_wide None ne ∙ was.0, was.1)
          ];
          there = λ q k t h within. elim (cases_eq q w) [
            | inl is ↦
                let at : ◌≡◌ {A = Option (ℕ × ℕ)} new_wide (Some (k, t)) = sym (ap (entry_of (set wide w new_wide)) is ∙ get_or-set_same wide w new_wide None wide_in) ∙ h in
                ap (entry_of (set heap w new_heap)) is ∙ get_or-set_same heap w new_heap None l ∙ ap (λ (x : ℕ × ℕ). Some x) same ∙ at
            | inr ne ↦ get_or-set_other heap w q new_heap None ne
                ∙ trimmed.there q k t (sym (get_or-set_other wide w q new_wide None ne) ∙ h) within
          ];
        }

    -- offering a key past it to the wider one alone
    pub trim_passed : radius < key → IsTrimmed radius (set wide w (Some (lesser (entry_of wide w) key 0))) heap
    trim_passed past =
        let new_wide = Some (lesser (entry_of wide w) key 0) in
        record {
          same_length = trimmed.same_length ∙ sym (length-set wide w new_wide);
          here = λ q k t h. elim (cases_eq q w) [
            | inl is ↦
                let was = trimmed.here q k t h in
                let le = was.1 in
                let there : entry_of wide w ≡ Some (k, t) = ap (entry_of wide) (sym is) ∙ was.0 in (
                  ap (entry_of (set wide w new_wide)) is ∙ get_or-set_same wide w new_wide None wide_in
                      ∙ ap (λ (o : Option (ℕ × ℕ)). Some (lesser o key 0)) there ∙ ap (λ (x : ℕ × ℕ). Some x) (stays key k t (omega arith)),
                  le,
                )
            | inr ne ↦
                let was = trimmed.here q k t h in
                (get_or-set_other wide w q new_wide None ne ∙ was.0, was.1)
          ];
          there = λ q k t h within. elim (cases_eq q w) [
            | inl is ↦
                let at : ◌≡◌ {A = Option (ℕ × ℕ)} new_wide (Some (k, t)) = sym (ap (entry_of (set wide w new_wide)) is ∙ get_or-set_same wide w new_wide None wide_in) ∙ h in
                let was = was_there radius key k t (entry_of wide w) past within (some_is (lesser (entry_of wide w) key 0) k t at) in
                trimmed.there q k t (ap (entry_of wide) is ∙ was) within
            | inr ne ↦ trimmed.there q k t (sym (get_or-set_other wide w q new_wide None ne) ∙ h) within
          ];
        }

-- a fringe of entries within the radius is its own wider one
pub trim_all : (radius : ℕ) (heap : Entries) → ((w k t : ℕ) → entry_of heap w ≡ Some (k, t) → k ≤ radius) → IsTrimmed radius heap heap
trim_all radius heap all = record { same_length = refl; here = λ w k t h. (h, all w k t h); there = λ w k t h le. h }
