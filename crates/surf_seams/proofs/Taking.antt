-- The cut through given vertices is what is left when edges are taken back to the end.
use Rattle.std.proofs.Common.{◌≡◌, ◌≢◌, ℕ, zero, suc, ◌+◌, ◌<◌, ◌≤◌, ◌⊎◌, inl, inr, sym, refl, ap, ◌∙◌, Bool, true, false, not, ◌&&◌, eqb, arith, ne_eqb}
use Rattle.surf_surfaces.proofs.Common.{cases_eq, cases_Bool, and_parts, and_from, not-true, eqb-false, both_ways, Chain, count_below-same, Mesh, edge_count, ends, touches, degree_in}
use Rattle.surf_surfaces.proofs.meshes.FaceLaws.{touches_first}
use Rattle.surf_opening.specs.ChosenCut.{SameEdges, IsWithin}
use Rattle.surf_opening.specs.Laws.{cut_count, without}
use Rattle.surf_opening.proofs.cuts.Chosen.{same_where}
use Rattle.surf_seams.specs.Through.{HasEndsIn, IsCutThrough, IsLooseAt, IsTakenBackTo, whole, taken}
use Rattle.surf_seams.specs.Laws.{CutsThroughExist, CutsThroughAreOne, TakenBackAreThrough, TakingBackKeeps, TakingBackEnds, TakingBackGoesOn, EndlessAreThroughNone, CutsThroughGrow}
use Rattle.surf_z2.proofs.Counting.{count_mono, count_some, count_found, count_one, count_less}

-- a wider set has no less edges, in all and at a vertex
pub within_count : (mesh : Mesh) (cut other : Chain) → IsWithin mesh cut other → cut_count mesh cut ≤ cut_count mesh other
within_count mesh cut other within = count_mono (edge_count mesh) cut other within

pub within_degree : (mesh : Mesh) (cut other : Chain) (v : ℕ) → IsWithin mesh cut other →
    degree_in mesh cut v ≤ degree_in mesh other v
within_degree mesh cut other v within =
    count_mono (edge_count mesh) (λ e. cut e && touches v (ends mesh e)) (λ e. other e && touches v (ends mesh e))
    (λ e h held. let parts = and_parts (cut e) (touches v (ends mesh e)) held in
    and_from (other e) (touches v (ends mesh e)) (within e h parts.0) parts.1)

pub degree_count : (mesh : Mesh) (cut : Chain) (v : ℕ) → degree_in mesh cut v ≤ cut_count mesh cut
degree_count mesh cut v =
    count_mono (edge_count mesh) (λ e. cut e && touches v (ends mesh e)) cut
    (λ e h held. (and_parts (cut e) (touches v (ends mesh e)) held).0)

pub degree_some : (mesh : Mesh) (cut : Chain) (v e : ℕ) → e < edge_count mesh → cut e ≡ true →
    touches v (ends mesh e) ≡ true → 1 ≤ degree_in mesh cut v
degree_some mesh cut v e h held end =
    count_some (edge_count mesh) e (λ e. cut e && touches v (ends mesh e)) h
    (and_from (cut e) (touches v (ends mesh e)) held end)

pub degree_found : (mesh : Mesh) (cut : Chain) (v : ℕ) → 1 ≤ degree_in mesh cut v →
    (e : ℕ) × (e < edge_count mesh) × (cut e ≡ true) × (touches v (ends mesh e) ≡ true)
degree_found mesh cut v some =
    let e = count_found (edge_count mesh) (λ e. cut e && touches v (ends mesh e)) some in
    let parts = and_parts (cut e.0) (touches v (ends mesh e.0)) e.2 in
    (e.0, e.1, parts.0, parts.1)

-- the only edge at its vertex
pub loose_only : (mesh : Mesh) (points : ℕ → Bool) (cut : Chain) (e p h : ℕ) → IsLooseAt mesh points cut e p →
    h < edge_count mesh → cut h ≡ true → touches p (ends mesh h) ≡ true → h ≡ e
loose_only mesh points cut e p h loose h_in held end =
    count_one (edge_count mesh) h e (λ e. cut e && touches p (ends mesh e)) h_in loose.is_edge
    (and_from (cut h) (touches p (ends mesh h)) held end)
    (and_from (cut e) (touches p (ends mesh e)) loose.is_cut loose.its_end) loose.only

-- what is left without an edge
pub left_with : (mesh : Mesh) (cut next : Chain) (e h : ℕ) → SameEdges mesh next (without cut e) →
    h < edge_count mesh → cut h ≡ true → h ≢ e → next h ≡ true
left_with mesh cut next e h same h_in held differ =
    same h h_in ∙ and_from (cut h) (not (eqb h e)) held (ap not (ne_eqb h e differ))

pub left_from : (mesh : Mesh) (cut next : Chain) (e h : ℕ) → SameEdges mesh next (without cut e) →
    h < edge_count mesh → next h ≡ true → (cut h ≡ true) × (h ≢ e)
left_from mesh cut next e h same h_in held =
    let parts = and_parts (cut h) (not (eqb h e)) (sym (same h h_in) ∙ held) in
    (parts.0, eqb-false h e (not-true (eqb h e) parts.1))

pub taking_back_ends : TakingBackEnds
taking_back_ends mesh points cut next e p loose same =
    let less : cut_count mesh cut ≡ suc (cut_count mesh (without cut e)) =
    count_less (edge_count mesh) e cut loose.is_edge loose.is_cut in
    let left : cut_count mesh next ≡ cut_count mesh (without cut e) =
    count_below-same (edge_count mesh) next (without cut e) same in
    omega arith

-- taking back takes no edge of a set whose ends are points
pub taking_stays : {mesh : Mesh} {points : ℕ → Bool} {full cut : Chain} (other : Chain) → IsWithin mesh other full →
    HasEndsIn mesh points other → IsTakenBackTo mesh points full cut → IsWithin mesh other cut
taking_stays other within ends_in (whole cut same) e h held = same e h ∙ within e h held
taking_stays {mesh} {points} other within ends_in (taken {cut} next e p before loose same) h h_in held =
    let so_far = taking_stays other within ends_in before in
    elim (cases_eq h e) [
      | inr differ ↦ left_with mesh cut next e h same h_in (so_far h h_in held) differ
      | inl is ↦
          let some : 1 ≤ degree_in mesh other p = degree_some mesh other p h h_in held
          (ap (λ h. touches p (ends mesh h)) is ∙ loose.its_end) in
          let few : degree_in mesh other p ≤ degree_in mesh cut p = within_degree mesh other cut p so_far in
          let one : degree_in mesh cut p ≡ 1 = loose.only in
          absurd (ends_in p loose.vertex loose.no_point (omega arith))
    ]

pub taking_within : {mesh : Mesh} {points : ℕ → Bool} {full cut : Chain} → IsTakenBackTo mesh points full cut →
    IsWithin mesh cut full
taking_within (whole cut same) e h held = sym (same e h) ∙ held
taking_within {mesh} (taken {cut} next e p before loose same) h h_in held =
    taking_within before h h_in (left_from mesh cut next e h same h_in held).0

pub taken_back_are_through : TakenBackAreThrough
taken_back_are_through mesh full points cut before ends_in = record {
  within = taking_within before;
  ends_in = ends_in;
  largest = λ other within ends'. taking_stays other within ends' before;
}

pub taking_back_keeps : TakingBackKeeps
taking_back_keeps mesh full points cut some through before = taking_stays cut through.within through.ends_in before

pub cuts_through_are_one : CutsThroughAreOne
cuts_through_are_one mesh full points cut other a b e h =
    same_where (cut e) (other e) (λ held. b.largest cut a.within a.ends_in e h held)
    (λ held. a.largest other b.within b.ends_in e h held)

pub endless_are_through_none : EndlessAreThroughNone
endless_are_through_none mesh full cut = (
  (λ a. record {
    within = a.within;
    ends_in = λ v h none. a.no_end v h;
    largest = λ other within ends_in. a.largest other within (λ v h. ends_in v h refl);
  }),
  (λ a. record {
    within = a.within;
    no_end = λ v h. a.ends_in v h refl;
    largest = λ other within no_end. a.largest other within (λ v h none. no_end v h);
  }),
)

pub cuts_through_grow : CutsThroughGrow
cuts_through_grow mesh full points more cut wider all a b = b.largest cut a.within (λ v h out. a.ends_in v h
    (elim (cases_Bool (points v)) [
      | inr none ↦ none
      | inl is ↦ absurd (both_ways (more v) out (all v h is))
    ]))

-- a vertex below n that is no point and has one edge, or there is none
loose_below : (mesh : Mesh) (points : ℕ → Bool) (cut : Chain) (n : ℕ) →
    ((v : ℕ) × (v < n) × (points v ≡ false) × (degree_in mesh cut v ≡ 1))
    ⊎ ((v : ℕ) → v < n → points v ≡ false → degree_in mesh cut v ≢ 1)
loose_below mesh points cut zero = inr (λ v h out one. omega arith)
loose_below mesh points cut (suc n) = elim (loose_below mesh points cut n) [
  | inl found ↦ let h : found.0 < n = found.1 in inl (found.0, omega arith, found.2, found.3)
  | inr none ↦ elim (cases_Bool (points n)) [
    | inl is ↦ inr (λ v h out one. elim (cases_eq v n) [
      | inl same ↦ both_ways (points n) (ap points (sym same) ∙ out) is
      | inr differ ↦ none v (omega arith) out one
    ])
    | inr out ↦ elim (cases_eq (degree_in mesh cut n) 1) [
      | inl one ↦ inl (n, omega arith, out, one)
      | inr other ↦ inr (λ v h out one. elim (cases_eq v n) [
        | inl same ↦ other (ap (λ v. degree_in mesh cut v) (sym same) ∙ one)
        | inr differ ↦ none v (omega arith) out one
      ])
    ]
  ]
]

-- taken back to the end
pub record IsTakenOut (mesh : Mesh) (points : ℕ → Bool) (full : Chain) : Type 0 where
  pub cut : Chain
  pub is_taken : IsTakenBackTo mesh points full cut
  pub ends_in : HasEndsIn mesh points cut

take_on : (mesh : Mesh) (points : ℕ → Bool) (full : Chain) (steps : ℕ) (cut : Chain) →
    IsTakenBackTo mesh points full cut → cut_count mesh cut ≤ steps → IsTakenOut mesh points full
take_on mesh points full zero cut before few = record {
  cut = cut;
  is_taken = before;
  ends_in = λ v h out one. let less : degree_in mesh cut v ≤ cut_count mesh cut = degree_count mesh cut v in
      omega arith;
}
take_on mesh points full (suc steps) cut before few = elim (loose_below mesh points cut mesh.vertices) [
  | inr none ↦ record { cut = cut; is_taken = before; ends_in = none }
  | inl found ↦
      let one : degree_in mesh cut found.0 ≡ 1 = found.3 in
      let e = degree_found mesh cut found.0 (omega arith) in
      let loose : IsLooseAt mesh points cut e.0 found.0 = record {
        is_edge = e.1;
        is_cut = e.2;
        vertex = found.1;
        no_point = found.2;
        its_end = e.3;
        only = found.3;
      } in
      let same : SameEdges mesh (without cut e.0) (without cut e.0) = λ h h_in. refl in
      let less : cut_count mesh cut ≡ cut_count mesh (without cut e.0) + 1 =
      taking_back_ends mesh points cut (without cut e.0) e.0 found.0 loose same in
      take_on mesh points full steps (without cut e.0) (taken (without cut e.0) e.0 found.0 before loose same)
      (omega arith)
]

pub take_all : (mesh : Mesh) (points : ℕ → Bool) (full : Chain) → IsTakenOut mesh points full
take_all mesh points full =
    take_on mesh points full (cut_count mesh full) full (whole full (λ e h. refl)) (omega arith)

pub cuts_through_exist : CutsThroughExist
cuts_through_exist mesh full points =
    let out = take_all mesh points full in
    (out.cut, taken_back_are_through mesh full points out.cut out.is_taken out.ends_in, out.is_taken)

-- each cut through the points has the edges of what is left
pub through_is_taken : (mesh : Mesh) (points : ℕ → Bool) (full cut : Chain) → IsCutThrough mesh full points cut →
    SameEdges mesh cut (take_all mesh points full).cut
through_is_taken mesh points full cut through =
    let out = take_all mesh points full in
    cuts_through_are_one mesh full points cut out.cut through
    (taken_back_are_through mesh full points out.cut out.is_taken out.ends_in)

pub taking_back_goes_on : TakingBackGoesOn
taking_back_goes_on mesh full points cut next e p q before e_in held is p_in out one same =
    taken next e p before
    (record {
      is_edge = e_in;
      is_cut = held;
      vertex = p_in;
      no_point = out;
      its_end = ap (touches p) is ∙ touches_first p q;
      only = one;
    }) same
