-- The first of the loops that a search tells, without a list of them.
use Rattle.surf_finder.proofs.Common.{Contains, All-push, All-contains, Contains-append_left, Contains-append_right, Contains-get_or, get_or, cases_lt, arith, subst, edge_count, ◌≡◌, ℕ, ◌<◌, ◌≤◌, ◌+◌, true, false, List, [], ◌∷◌, ◌++◌, All, Option, Some, None, refl, sym, ◌∙◌, ap, inl, inr, slice_index, cases_Bool, cases_eq, both_ways, fold-append, Candidate, Signed, Search, IsTold, is_wanted, told_loop, earlier_of, first_from, is_earlier, first_with, IsFirstTold}
use Rattle.surf_finder.proofs.Rising.{starts_all}
use Rattle.surf_finder.specs.Rises.{AreStarts}

earlier_kept : (first : Option Candidate) (s : Signed) → is_earlier first s.candidate ≡ true → first ≡ earlier_of first s
earlier_kept None s h = absurd cc
earlier_kept (Some d) s h = rw h refl

earlier_taken : (first : Option Candidate) (s : Signed) → is_earlier first s.candidate ≡ false → Some s.candidate ≡ earlier_of first s
earlier_taken None s h = refl
earlier_taken (Some d) s h = rw h refl

-- a candidate that comes before the loop of an edge, whether or not this is wanted
pub first_kept : (x : Search) (limit first : Option Candidate) (e : ℕ) → is_earlier first (told_loop x e).candidate ≡ true → first ≡ first_with x limit first e
first_kept x limit first e h = elim (cases_Bool (is_wanted x limit e)) [
  | inl wanted ↦ rw wanted (earlier_kept first (told_loop x e) h)
  | inr out ↦ rw out refl
]

-- one that doesn't
pub first_taken : (x : Search) (limit first : Option Candidate) (e : ℕ) → is_wanted x limit e ≡ true → is_earlier first (told_loop x e).candidate ≡ false →
    Some (told_loop x e).candidate ≡ first_with x limit first e
first_taken x limit first e wanted h = rw wanted (earlier_taken first (told_loop x e) h)

-- what a list has of the edges between two numbers, and of what it had before
pub record HasListedTo (x : Search) (limit : Option Candidate) (start : ℕ) (old found : List Signed) (e : ℕ) : Type 0 where
  pub each : All (IsTold x limit) found
  pub kept : All (Contains found) old
  pub here : (f : ℕ) → start ≤ f → f < e → is_wanted x limit f ≡ true → Contains found (told_loop x f)

members : (found : List Signed) → All (Contains found) found
members found k c l = Contains-get_or found k c l

-- one more edge
has_more : (x : Search) (limit : Option Candidate) (start : ℕ) (old found new : List Signed) (e : ℕ) →
    HasListedTo x limit start old found e → All (IsTold x limit) new → All (Contains new) found →
    (is_wanted x limit e ≡ true → Contains new (told_loop x e)) → HasListedTo x limit start old new (e + 1)
has_more x limit start old found new e h each kept here = record {
  each = each;
  kept = λ i d l. All-contains (Contains new) found (get_or old i d) kept (h.kept i d l);
  here = λ f le l on. elim (cases_eq f e) [
    | inl same ↦ subst (λ n. Contains new (told_loop x n)) (sym same) (here (ap (is_wanted x limit) (sym same) ∙ on))
    | inr ne ↦ All-contains (Contains new) found (told_loop x f) kept (h.here f le (omega arith) on)
  ];
}

-- the first of a limit and the loops that the edges between two numbers give, put to others
pub record IsFirstListedTo (x : Search) (limit : Option Candidate) (start : ℕ) (old : List Signed) (e : ℕ) (first : Option Candidate) : Type 0 where
  pub found : List Signed
  pub to : HasListedTo x limit start old found e
  pub is_first : first ≡ first_from limit found

module _ (x : Search) (limit : Option Candidate) (start : ℕ) (old : List Signed) where
  pub first_begun : (first : Option Candidate) → All (IsTold x limit) old → first ≡ first_from limit old → IsFirstListedTo x limit start old start first
  first_begun first told is = record { found = old; to = record { each = told; kept = members old; here = λ f le l. absurd (omega (arith, le, l)) }; is_first = is }

  -- an edge whose loop isn't wanted
  pub first_same : (e n : ℕ) (first : Option Candidate) → IsFirstListedTo x limit start old e first → n ≡ e →
      (is_wanted x limit n ≡ true → ⊥) → IsFirstListedTo x limit start old (e + 1) first
  first_same e n first h at off = record {
    found = h.found;
    to = has_more x limit start old h.found h.found e h.to h.to.each (members h.found)
        (λ on. absurd (off (ap (is_wanted x limit) at ∙ on)));
    is_first = h.is_first;
  }

  -- one whose loop may be
  pub first_more : (e n : ℕ) (first next : Option Candidate) → IsFirstListedTo x limit start old e first → n ≡ e →
      n < edge_count x.mesh → next ≡ first_with x limit first n → IsFirstListedTo x limit start old (e + 1) next
  first_more e n first next h at n_in with_n =
      let is : next ≡ first_with x limit first e = with_n ∙ ap (first_with x limit first) at in
      let e_in : e < edge_count x.mesh = omega (arith, at, n_in) in
      elim (cases_Bool (is_wanted x limit e)) [
        | inl wanted ↦
            let here : next ≡ earlier_of first (told_loop x e) = rw wanted at is in
            record {
              found = h.found ++ told_loop x e ∷ [];
              to = has_more x limit start old h.found (h.found ++ told_loop x e ∷ []) e h.to
                  (All-push (IsTold x limit) h.found (told_loop x e) h.to.each (record { edge_in = e_in; wanted = wanted; told = refl }))
                  (λ i d l. Contains-append_left h.found (told_loop x e ∷ []) (get_or h.found i d) (Contains-get_or h.found i d l))
                  (λ on. Contains-append_right h.found (told_loop x e ∷ []) (told_loop x e) (0, omega arith, refl));
              is_first = here ∙ ap (λ (o : Option Candidate). earlier_of o (told_loop x e)) h.is_first ∙ sym (fold-append earlier_of limit h.found (told_loop x e ∷ []));
            }
        | inr out ↦
            let here : next ≡ first = rw out at is in
            subst (IsFirstListedTo x limit start old (e + 1)) (sym here) (first_same e e first h refl (λ on. both_ways (is_wanted x limit e) out on))
      ]

-- all edges with one more lesser end
pub first_settled : (x : Search) (limit : Option Candidate) (v e : ℕ) (starts : List ℕ) (count : ℕ) (before first : Option Candidate) →
    (told : IsFirstTold x limit count before) → v ≡ slice_index x.near.settled count → AreStarts x.mesh starts → v < x.mesh.vertices →
    IsFirstListedTo x limit (slice_index starts v) told.found e first → slice_index starts (v + 1) ≤ e → IsFirstTold x limit (count + 1) first
first_settled x limit v e starts count before first told is are v_in h past = record {
  found = h.found;
  each = h.to.each;
  all = λ j l f f_in low on. elim (cases_lt j count) [
    | inl less ↦ All-contains (Contains h.found) told.found (told_loop x f) h.to.kept (told.all j less f f_in low on)
    | inr more ↦
        let same : j ≡ count = omega arith in
        let (after, below) = starts_all x.mesh starts v f are v_in f_in (low ∙ ap (slice_index x.near.settled) same ∙ sym is) in
        h.to.here f after (omega (arith, below, past)) on
  ];
  is_first = h.is_first;
}
