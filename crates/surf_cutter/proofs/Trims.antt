-- Counts of cut edges while a cut is trimmed.
use Rattle.surf_slit.proofs.Common.{◌≡◌, ◌≢◌, ℕ, suc, ◌+◌, ◌-◌, ◌<◌, ◌≤◌, ◌⊎◌, ◌&&◌, not, inl, inr, sym, refl, subst, ap, ◌∙◌, eqb, List, ◌∷◌, length, get_or, Bool, true, false, IsTrue, arith, ne_eqb, set, cases_eq, cases_lt, and_from, and_parts, eq-eqb, Chain, count_below-same, count_below-without, eqb_comm, Mesh, pair, edge_count, ends, touches, IsSurface, slice_index, count_found, get_or-set_same, get_or-set_other, length-set, get_or_default, ends_below, pair_comm, degree_in, is_in_at, touches_end, touches_no, ends_pair, AreEdgesAt}
use Rattle.surf_cutter.proofs.Common.{TellsCut, cut_count, without, trimming_by_greatest_goes_on, is_cut, AreDegrees, IsTakenBack, IsTrimmedFrom, HasNoLeafFrom, HasEndedBy}
use Rattle.surf_slit.proofs.VertexLabels.{an_end}

-- while more than two edges are cut, no vertex from low on but this one has exactly one (HasNoLeafFrom is of all)
abbrev pub HasNoOtherLeaf : Mesh → ℕ → ℕ → List ℕ → ℕ → Type 0
HasNoOtherLeaf mesh low leaf degree count = 2 < count → (v : ℕ) → low ≤ v → v < mesh.vertices → v ≢ leaf → slice_index degree v ≢ 1

-- the edge of a leaf is in the list of the edges there
pub leaf_edge : (mesh : Mesh) (cut : List Bool) (v : ℕ) (edges : List ℕ) → AreEdgesAt mesh v edges → degree_in mesh (is_cut cut) v ≡ 1 → (k : ℕ) × (k < length edges) × (get_or cut (get_or edges k 0) false ≡ true)
leaf_edge mesh cut v edges are one =
    let e = count_found (edge_count mesh) (is_in_at mesh (is_cut cut) v) (omega arith) in
    let both = and_parts (get_or cut e.0 false) (touches v (ends mesh e.0)) e.2 in
    let k = are.all e.0 (e.1, both.1) in
    (k.0, k.1, ap (λ e. get_or cut e false) k.2 ∙ both.0)

-- the same without one edge
pub flag_off : (cut : List Bool) (e h : ℕ) → e < length cut → is_cut (set cut e false) h ≡ without (is_cut cut) e h
flag_off cut e h lt = elim (cases_eq h e) [
  | inl i ↦ let z : without (is_cut cut) e h ≡ false = rw (eq-eqb h e i) (Rattle.std.proofs.lemmas.Bool.and_right (get_or cut h false) false refl) in ap (λ h. get_or (set cut e false) h false) i ∙ get_or-set_same cut e false false lt ∙ sym z
  | inr ne ↦ let z : without (is_cut cut) e h ≡ get_or cut h false = rw (ne_eqb h e ne) (and_true (get_or cut h false)) in get_or-set_other cut e h false false ne ∙ sym z
]
  where
    and_true : (b : Bool) → (b && true) ≡ b
    and_true true = refl
    and_true false = refl

pub count_without : (mesh : Mesh) (cut : List Bool) (e : ℕ) → e < edge_count mesh → e < length cut → get_or cut e false ≡ true → cut_count mesh (is_cut cut) ≡ suc (cut_count mesh (is_cut (set cut e false)))
count_without mesh cut e h lt is =
    count_below-without (edge_count mesh) e (is_cut cut) h is
    ∙ ap suc (count_below-same (edge_count mesh) (λ k. is_cut cut k && not (eqb e k)) (is_cut (set cut e false)) (λ k l. ap (λ b. is_cut cut k && not b) (eqb_comm e k) ∙ sym (flag_off cut e k lt)))

degree_same : (mesh : Mesh) (cut : List Bool) (e v : ℕ) → e < length cut → touches v (ends mesh e) ≡ false → degree_in mesh (is_cut (set cut e false)) v ≡ degree_in mesh (is_cut cut) v
degree_same mesh cut e v lt off = count_below-same (edge_count mesh) (is_in_at mesh (is_cut (set cut e false)) v) (is_in_at mesh (is_cut cut) v) (λ k l. elim (cases_eq k e) [
  | inl i ↦ let z : touches v (ends mesh k) ≡ false = ap (λ k. touches v (ends mesh k)) i ∙ off in Rattle.std.proofs.lemmas.Bool.and_right (get_or (set cut e false) k false) (touches v (ends mesh k)) z ∙ sym (Rattle.std.proofs.lemmas.Bool.and_right (get_or cut k false) (touches v (ends mesh k)) z)
  | inr ne ↦ ap (λ b. b && touches v (ends mesh k)) (get_or-set_other cut e k false false ne)
])

degree_less : (mesh : Mesh) (cut : List Bool) (e v : ℕ) → e < edge_count mesh → e < length cut → get_or cut e false ≡ true → touches v (ends mesh e) ≡ true → degree_in mesh (is_cut cut) v ≡ suc (degree_in mesh (is_cut (set cut e false)) v)
degree_less mesh cut e v h lt is on =
    count_below-without (edge_count mesh) e (is_in_at mesh (is_cut cut) v) h (and_from (get_or cut e false) (touches v (ends mesh e)) is on)
    ∙ ap suc (count_below-same (edge_count mesh) (λ k. is_in_at mesh (is_cut cut) v k && not (eqb e k)) (is_in_at mesh (is_cut (set cut e false)) v) (λ k l.
    ap (λ b. is_in_at mesh (is_cut cut) v k && not b) (eqb_comm e k) ∙ swap (is_cut cut k) (touches v (ends mesh k)) (not (eqb k e)) ∙ ap (λ b. b && touches v (ends mesh k)) (sym (flag_off cut e k lt))))
  where
    swap : (a b c : Bool) → (a && b && c) ≡ (a && c && b)
    swap true true true = refl
    swap true true false = refl
    swap true false true = refl
    swap true false false = refl
    swap false b c = refl

-- the edge with the given ends is taken back, and its ends count one less
pub taken_back : {mesh : Mesh} → IsSurface mesh → (cut : List Bool) (degree less : List ℕ) (p q e : ℕ) → AreDegrees mesh cut degree → length cut ≡ edge_count mesh → e < edge_count mesh → get_or cut e false ≡ true →
    length less ≡ length degree → get_or less (ends mesh e).0 0 + 1 ≡ get_or degree (ends mesh e).0 0 → get_or less (ends mesh e).1 0 + 1 ≡ get_or degree (ends mesh e).1 0 →
    ((v : ℕ) → v ≢ (ends mesh e).0 → v ≢ (ends mesh e).1 → get_or less v 0 ≡ get_or degree v 0) → get_or degree p 0 ≡ 1 →
    (((ends mesh e).0 ≡ p) × ((ends mesh e).1 ≡ q)) ⊎ (((ends mesh e).1 ≡ p) × ((ends mesh e).0 ≡ q)) → IsTakenBack mesh p q cut (set cut e false) degree less
taken_back {mesh} surface cut degree less p q e are flags h is size first second rest one which =
    let lt : e < length cut = omega arith in
    let below = ends_below mesh surface.is_mesh e h in
    let u = (ends mesh e).0 in
    let w = (ends mesh e).1 in
    let in_u : u < mesh.vertices = omega (arith, below.0, below.1) in
    record {
      taken = (
        e,
        record {
          is_edge = h;
          is_cut = is;
          its_ends = elim which [
            | inl o ↦ sym (ends_pair surface e h) ∙ ap (λ x. pair x (ends mesh e).1) o.0 ∙ ap (pair p) o.1
            | inr o ↦ sym (ends_pair surface e h) ∙ pair_comm (ends mesh e).0 (ends mesh e).1 ∙ ap (λ x. pair x (ends mesh e).0) o.0 ∙ ap (pair p) o.1
          ];
        },
        refl,
      );
      other_end = elim which [ inl o ↦ subst (λ q. q < mesh.vertices) o.1 below.1 | inr o ↦ subst (λ q. q < mesh.vertices) o.1 in_u ];
      degrees = record {
        flags = length-set cut e false ∙ flags;
        size = size ∙ are.size;
        counted = λ v v_in. elim (cases_eq u v) [
          | inl i ↦
              let s = degree_less mesh cut e v h lt is (touches_end v (ends mesh e).0 (ends mesh e).1 (inl i)) in
              let d = are.counted v v_in in
              let f : get_or less v 0 + 1 ≡ get_or degree v 0 = subst (λ u. get_or less u 0 + 1 ≡ get_or degree u 0) i first in
              omega arith
          | inr nu ↦ elim (cases_eq w v) [
            | inl i ↦
                let s = degree_less mesh cut e v h lt is (touches_end v (ends mesh e).0 (ends mesh e).1 (inr i)) in
                let d = are.counted v v_in in
                let f : get_or less v 0 + 1 ≡ get_or degree v 0 = subst (λ u. get_or less u 0 + 1 ≡ get_or degree u 0) i second in
                omega arith
            | inr nw ↦ rest v (λ i. nu (sym i)) (λ i. nw (sym i)) ∙ are.counted v v_in ∙ sym (degree_same mesh cut e v lt (touches_no v (ends mesh e).0 (ends mesh e).1 nu nw))
          ]
        ];
      };
      leaf_done = elim which [
        | inl o ↦ let f : get_or less p 0 + 1 ≡ get_or degree p 0 = subst (λ u. get_or less u 0 + 1 ≡ get_or degree u 0) o.0 first in omega arith
        | inr o ↦ let f : get_or less p 0 + 1 ≡ get_or degree p 0 = subst (λ u. get_or less u 0 + 1 ≡ get_or degree u 0) o.0 second in omega arith
      ];
      others = λ v np nq. elim which [
        | inl o ↦ rest v (λ i. np (i ∙ o.0)) (λ i. nq (i ∙ o.1))
        | inr o ↦ rest v (λ i. nq (i ∙ o.1)) (λ i. np (i ∙ o.0))
      ];
    }

-- sets of edges that agree have one list
pub told_same : (mesh : Mesh) (uncut : List (ℕ × ℕ)) (a b : Chain) → ((e : ℕ) → e < edge_count mesh → a e ≡ b e) → TellsCut mesh uncut a → TellsCut mesh uncut b
told_same mesh uncut a b same told e h = let k = told e h in ((λ x. k.0 (subst (λ t. IsTrue t) (sym (same e h)) x)), (λ n. subst (λ t. IsTrue t) (same e h) (k.1 n)))

-- the lists of uncut edges go along
pub trimmed_none : (mesh : Mesh) (cut : List Bool) → IsTrimmedFrom mesh cut cut
trimmed_none mesh cut list uncut trimmed told = (uncut, trimmed, told)

pub trimmed_more : {mesh : Mesh} → IsSurface mesh → (first old new : List Bool) (degree less : List ℕ) (p q : ℕ) → IsTrimmedFrom mesh first old → AreDegrees mesh old degree → length old ≡ edge_count mesh → p < mesh.vertices →
    get_or degree p 0 ≡ 1 → 2 < cut_count mesh (is_cut old) → ((v : ℕ) → p < v → v < mesh.vertices → get_or degree v 0 ≢ 1) → IsTakenBack mesh p q old new degree less → IsTrimmedFrom mesh first new
trimmed_more {mesh} surface first old new degree less p q before are flags p_in one many above taken list uncut trimmed told =
    let b = before list uncut trimmed told in
    let e = taken.taken.0 in
    let is = taken.taken.1 in
    let edge : e < edge_count mesh = is.is_edge in
    let lt : e < length old = omega arith in
    let goes = trimming_by_greatest_goes_on mesh list b.0 (is_cut old) e p q surface b.1 b.2 edge is.is_cut is.its_ends (sym (are.counted p p_in) ∙ one) (omega arith)
    (λ v v_in d. elim (cases_lt p v) [ inl gt ↦ absurd (above v gt v_in (are.counted v v_in ∙ d)) | inr le ↦ le ]) in
    ((p, q) ∷ b.0, goes.0, told_same mesh ((p, q) ∷ b.0) (without (is_cut old) e) (is_cut new) (λ h _. sym (ap (λ (cut : List Bool). get_or cut h false) taken.taken.2 ∙ flag_off old e h lt)) goes.1)

-- a cut edge counts at its ends
pub end_counts : (mesh : Mesh) (cut : List Bool) (degree : List ℕ) (e v : ℕ) → AreDegrees mesh cut degree → v < mesh.vertices → e < edge_count mesh → get_or cut e false ≡ true → ((ends mesh e).0 ≡ v) ⊎ ((ends mesh e).1 ≡ v) → length cut ≡ edge_count mesh → 0 < get_or degree v 0
end_counts mesh cut degree e v are v_in h is at flags = let d = degree_less mesh cut e v h (omega arith) is (touches_end v (ends mesh e).0 (ends mesh e).1 at) in let c = are.counted v v_in in omega arith

-- there is one cut edge less
pub count_taken : {mesh : Mesh} (p q : ℕ) (old new : List Bool) (degree less : List ℕ) → length old ≡ edge_count mesh → IsTakenBack mesh p q old new degree less → cut_count mesh (is_cut old) ≡ suc (cut_count mesh (is_cut new))
count_taken {mesh} p q old new degree less flags t =
    let e = t.taken.0 in
    let is = t.taken.1 in
    let lt = is.is_edge in
    count_without mesh old e is.is_edge (omega arith) is.is_cut ∙ ap (λ (cut : List Bool). suc (cut_count mesh (is_cut cut))) (sym t.taken.2)

-- trimming from a vertex on has come to its end
pub no_other_left : {mesh : Mesh} (p q low : ℕ) (old new : List Bool) (degree less : List ℕ) (left : ℕ) → 2 < left → HasNoOtherLeaf mesh low p degree left → IsTakenBack mesh p q old new degree less → HasNoOtherLeaf mesh low q less (left - 1)
no_other_left {mesh} p q low old new degree less left many none t more v from v_in nq = elim (cases_eq v p) [
  | inl i ↦ λ one. let z = t.leaf_done in let y = ap (λ v. get_or less v 0) i in absurd (omega arith)
  | inr np ↦ λ one. none many v from v_in np (sym (t.others v np nq) ∙ one)
]

pub has_ended : {mesh : Mesh} (cut : List Bool) (degree : List ℕ) (left : ℕ) → AreDegrees mesh cut degree → left ≡ cut_count mesh (is_cut cut) → HasNoLeafFrom mesh 0 degree left → HasEndedBy mesh cut
has_ended {mesh} cut degree left are counted none = elim (cases_lt 2 left) [
  | inr few ↦ inl (omega arith)
  | inl many ↦ inr (λ v h one. none many v (omega arith) h (are.counted v h ∙ one))
]

-- a cut edge at a leaf, seen from its two ends
pub record IsCutAt (mesh : Mesh) (cut : List Bool) (leaf e : ℕ) (tips : ℕ × ℕ) : Type 0 where
  pub is_edge : e < edge_count mesh
  pub is_cut : get_or cut e false ≡ true
  pub first : tips.0 ≡ (ends mesh e).0
  pub second : tips.1 ≡ (ends mesh e).1
  pub first_in : tips.0 < mesh.vertices
  pub second_in : tips.1 < mesh.vertices
  pub differ : tips.0 ≢ tips.1
  pub other : tips.0 ≢ leaf → tips.1 ≡ leaf

-- the edge at a place in the list of the edges there, where it is cut
pub cut_at : {mesh : Mesh} → IsSurface mesh → {cut : List Bool} {leaf : ℕ} {edges : List ℕ} → AreEdgesAt mesh leaf edges → (k e : ℕ) → k < length edges → get_or cut (get_or edges k 0) false ≡ true → e ≡ get_or edges k e → {tips : ℕ × ℕ} → tips ≡ ends mesh e → IsCutAt mesh cut leaf e tips
cut_at {mesh} surface {cut} {leaf} {edges} are k e lt found at {tips} is =
    let own : e ≡ get_or edges k 0 = at ∙ get_or_default edges k e 0 lt in
    let there = are.at k lt in
    let edge : e < edge_count mesh = omega (arith, own, there.0) in
    let b = ends_below mesh surface.is_mesh e edge in
    let first : tips.0 ≡ (ends mesh e).0 = ap (λ (p : ℕ × ℕ). p.0) is in
    let second : tips.1 ≡ (ends mesh e).1 = ap (λ (p : ℕ × ℕ). p.1) is in
    record {
      is_edge = edge;
      is_cut = ap (λ e. get_or cut e false) own ∙ found;
      first = first;
      second = second;
      first_in = omega (arith, first, b.0, b.1);
      second_in = omega (arith, second, b.1);
      differ = λ same. omega (arith, first, second, b.0, same);
      other = λ no. elim (an_end mesh leaf e (ap (λ e. touches leaf (ends mesh e)) own ∙ there.1)) [ inl i ↦ absurd (no (first ∙ i)) | inr i ↦ second ∙ i ];
    }

-- the same as taken_back, of a cut edge at the leaf p, with its number as it was computed
pub taken_back_at : {mesh : Mesh} → IsSurface mesh → {cut : List Bool} {degree : List ℕ} → AreDegrees mesh cut degree → length cut ≡ edge_count mesh → {e at p : ℕ} {tips : ℕ × ℕ} → IsCutAt mesh cut p e tips → at ≡ e → (less : List ℕ) (q : ℕ) → get_or degree p 0 ≡ 1 → length less ≡ length degree →
    get_or less tips.0 0 + 1 ≡ get_or degree tips.0 0 → get_or less tips.1 0 + 1 ≡ get_or degree tips.1 0 → ((v : ℕ) → v ≢ tips.0 → v ≢ tips.1 → get_or less v 0 ≡ get_or degree v 0) →
    ((tips.0 ≡ p) × (tips.1 ≡ q)) ⊎ ((tips.1 ≡ p) × (tips.0 ≡ q)) → IsTakenBack mesh p q cut (set cut at false) degree less
taken_back_at {mesh} surface {cut} {degree} are flags {e} {at} {p} {tips} is same less q one size first second rest which =
    let P : ℕ → Type 0 = λ v. get_or less v 0 + 1 ≡ get_or degree v 0 in
    subst (λ e. IsTakenBack mesh p q cut (set cut e false) degree less) (sym same)
    (taken_back surface cut degree less p q e are flags is.is_edge is.is_cut size (subst P is.first first) (subst P is.second second) (λ v nu nw. rest v (λ i. nu (i ∙ is.first)) (λ i. nw (i ∙ is.second))) one
    (elim which [ inl o ↦ inl (sym is.first ∙ o.0, sym is.second ∙ o.1) | inr o ↦ inr (sym is.second ∙ o.0, sym is.first ∙ o.1) ]))
