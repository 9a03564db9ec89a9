-- What searches in their order show at the vertices that they serve.
use Rattle.surf_surfaces.proofs.Common.{◌≡◌, ℕ, zero, suc, ◌+◌, ◌<◌, ◌≤◌, ◌⊎◌, Bool, true, false, max, ◌||◌, List, [], ◌∷◌, length, get_or, set, take, refl, sym, ap, ◌∙◌, subst, arith, inl, inr, cases_lt, cases_eq, or_cases, eqb, eqb-true, false≢true, All, Contains, All-contains, length-set, get_or-set_same, get_or-set_other, get_or_default, IsSurface, Place}
use Rattle.surf_base.specs.Tables.{at}
use Rattle.surf_choice.specs.Places.{is_sought}
use Rattle.surf_sheetorder.specs.Searches.{IsLoopPast}
use Rattle.surf_sheetorder.specs.Needs.{IsPastNeed, NoneNeedsSoonerAt, place_in}
use Rattle.surf_sheetorder.proofs.Needs.{searches_show_needs}
use Rattle.surf_shown.specs.Shown.{AreServedTo, AreShownTo, IsClaim, IsLeast, IsRaised, IsSearched, claimed, is_in, is_served_by, loops_of}
use Rattle.surf_shown.specs.declared.record.Claim.{Claim}
use Rattle.surf_shown.specs.declared.record.SearchRecord.{SearchRecord}

-- ---- tables

pub raised : (old new : List ℕ) (v end value : ℕ) → v < length old → new ≡ set old v value → value ≡ max (at old v) end →
    IsRaised v end old new
raised old new v end value inside is same =
    let here : at new v ≡ value = ap (λ xs. at xs v) is ∙ get_or-set_same old v value 0 inside in
    let there : (u : ℕ) → (u ≡ v → ⊥) → at new u ≡ at old u =
    λ u ne. ap (λ xs. at xs u) is ∙ get_or-set_other old v u value 0 ne in
    record {
      there = omega (arith, here, same);
      more = λ u. elim (cases_eq u v) [
        | inl eq ↦ let a = ap (at old) eq in let b = ap (at new) eq in omega (arith, a, b, here, same)
        | inr ne ↦ let a = there u ne in omega (arith, a)
      ];
      each = λ u i less. elim (cases_eq u v) [
        | inl eq ↦
            let a = ap (at old) eq in
            let b = ap (at new) eq in
            elim (cases_lt i end) [
              | inl low ↦ inr (low, eq)
              | inr high ↦ inl (omega (arith, a, b, here, same, less, high))
            ]
        | inr ne ↦ let a = there u ne in inl (omega (arith, a, less))
      ];
      count = ap (λ (xs : List ℕ). length xs) is ∙ length-set old v value;
    }

-- what a table has of the first of some vertices was raised to a number, and no more
pub record AreRaised (vertices : List ℕ) (end n : ℕ) (old new : List ℕ) : Type 0 where
  pub each : (v i : ℕ) → i < at new v → (i < at old v) ⊎ ((i < end) × Contains vertices v)
  pub raised : (k d : ℕ) → k < n → end ≤ at new (get_or vertices k d)
  pub more : (v : ℕ) → at old v ≤ at new v
  pub count : length new ≡ length old

pub raised_none : (vertices : List ℕ) (end : ℕ) (old : List ℕ) → AreRaised vertices end 0 old old
raised_none vertices end old = record {
  each = λ v i l. inl l;
  raised = λ k d l. absurd (omega (arith, l));
  more = λ v. omega arith;
  count = refl;
}

pub raised_next : (vertices : List ℕ) (end n v : ℕ) (old mid new : List ℕ) → n < length vertices → v ≡ get_or vertices n v →
    AreRaised vertices end n old mid → IsRaised v end mid new → AreRaised vertices end (n + 1) old new
raised_next vertices end n v old mid new inside is before here = record {
  each = λ u i l. elim (here.each u i l) [
    | inl was ↦ before.each u i was
    | inr (less, same) ↦
        inr (less, (n, inside, get_or_default vertices n u v inside ∙ sym is ∙ sym same))
  ];
  raised = λ k d l. elim (cases_lt k n) [
    | inl less ↦
        let a = before.raised k d less in
        let b = here.more (get_or vertices k d) in
        omega (arith, a, b)
    | inr no_less ↦
        let same : n ≡ k = omega (arith, l, no_less) in
        subst (λ x. end ≤ at new x) (is ∙ get_or_default vertices n v d inside ∙ ap (λ j. get_or vertices j d) same)
        here.there
  ];
  more = λ u. let a = before.more u in let b = here.more u in omega (arith, a, b);
  count = here.count ∙ before.count;
}

pub raised_all : (vertices : List ℕ) (end n : ℕ) (old new : List ℕ) → length vertices ≤ n → AreRaised vertices end n old new →
    All (λ v. end ≤ at new v) vertices
raised_all vertices end n old new many are k d l = are.raised k d (omega (arith, l, many))

-- ---- vertices that are served

pub in_contains : (xs : List ℕ) (v : ℕ) → is_in xs v ≡ true → Contains xs v
in_contains [] v h = absurd (false≢true h)
in_contains (x ∷ xs) v h = elim (or_cases (eqb x v) (is_in xs v) h) [
  | inl here ↦ (0, omega arith, eqb-true x v here)
  | inr there ↦ let (k, l, is) = in_contains xs v there in (suc k, omega (arith, l), is)
]

or_false : (a : Bool) → (a || false) ≡ true → a ≡ true
or_false true h = refl
or_false false h = h

served_next : (records : List SearchRecord) (t : ℕ) (r : SearchRecord) (v : ℕ) → t < length records →
    is_served_by (take (suc t) records) v ≡ true →
    (is_served_by (take t records) v ≡ true) ⊎ (is_in (get_or records t r).served.items v ≡ true)
served_next [] t r v l h = absurd (omega (arith, l))
served_next (x ∷ xs) zero r v l h = inr (or_false (is_in x.served.items v) h)
served_next (x ∷ xs) (suc t) r v l h =
    elim (or_cases (is_in x.served.items v) (is_served_by (take (suc t) xs) v) h) [
      | inl here ↦ inl (ap (λ b. b || is_served_by (take t xs) v) here)
      | inr there ↦ elim (served_next xs t r v (omega (arith, l)) there) [
        | inl before ↦ inl (or_second (is_in x.served.items v) before)
        | inr last ↦ inr last
      ]
    ]
  where
    or_second : (a : Bool) → is_served_by (take t xs) v ≡ true → (a || is_served_by (take t xs) v) ≡ true
    or_second true h = refl
    or_second false h = h

pub served_more : (records : List SearchRecord) (t end to : ℕ) (r : SearchRecord) (old new : List ℕ) →
    t < length records → r ≡ get_or records t r → end ≤ to → AreServedTo (take t records) to old →
    ((v : ℕ) → at old v ≤ at new v) → All (λ v. end ≤ at new v) r.served.items →
    AreServedTo (take (t + 1) records) end new
served_more records t end to r old new inside is le before more here v on =
    let next : t + 1 ≡ suc t = omega arith in
    elim (served_next records t r v inside (subst (λ n. is_served_by (take n records) v ≡ true) next on)) [
      | inl old_on ↦ let a = before v old_on in let b = more v in omega (arith, a, b, le)
      | inr last ↦
          All-contains (λ v. end ≤ at new v) r.served.items v here
          (in_contains r.served.items v
          (subst (λ (s : SearchRecord). is_in s.served.items v ≡ true) (sym is) last))
    ]

-- ---- what a search shows

pub record_shows : (c : Claim) (r : SearchRecord) (off : ℕ → Bool) (from to end : ℕ) (old new : List ℕ) →
    IsSurface c.mesh.now → IsClaim c → IsSearched c off r → end ≤ to → length old ≡ c.mesh.now.vertices →
    AreShownTo c old → IsLeast from old → ((v : ℕ) → off v ≡ true → to ≤ at old v) →
    ((i : ℕ) → from ≤ i → i < end → (place : Place) → is_sought r.limit place ≡ false →
    IsLoopPast r.margin (place_in (claimed c) i) place) →
    ((i : ℕ) → from ≤ i → i < end → All (IsPastNeed (claimed c) r.margin i) (loops_of r.loops.items)) →
    ((v i : ℕ) → i < at new v → (i < at old v) ⊎ ((i < end) × Contains r.served.items v)) → AreShownTo c new
record_shows c r off from to end old new surface claim searched le count shown least off_to unsought past each d signed v i
    v_in i_to i_in = elim (each v i i_to) [
      | inl before ↦ shown d signed v i v_in before i_in
      | inr (less, among) ↦ elim (cases_lt i from) [
        | inl low ↦
            let l = least v (omega (arith, v_in, count)) in shown d signed v i v_in (omega (arith, low, l)) i_in
        | inr high ↦
            All-contains (NoneNeedsSoonerAt c.mesh.now c.lengths.now d (claimed c) i) r.served.items v
            (searches_show_needs c.mesh.now d c.lengths.now (claimed c) off r.base r.margin i (is_sought r.limit)
            (loops_of r.loops.items) r.served.items surface signed.split (claim.loops d signed) i_in (searched d signed)
            (past i (omega (arith, high)) less) (unsought i (omega (arith, high)) less)
            (λ y y_in out. let f = off_to y out in shown d signed y i y_in (omega (arith, f, less, le)) i_in)) among
      ]
    ]
