-- Taking a cut back to given vertices.
use Rattle.surf_slit.proofs.Common.{◌≡◌, ◌≢◌, ℕ, ◌+◌, ◌<◌, ◌≤◌, inl, inr, refl, sym, subst, ap, ◌∙◌, eqb, List, length, take, get_or, Bool, true, false, not, ◌||◌, arith, ne_eqb, set, cases_eq, eq-eqb, or_right, Contains, count_below, Chain, Tree, Mesh, edge_count, IsSurface, get_or-set_same, get_or-set_other}
use Rattle.surf_cutter.proofs.Common.{AreDivided, full_cut, cut_count, some_list, taken_back_are_trimmed, is_point, through, MarksCotree, IsHeld, IsNearFor, IsChosenCut, AreTurnedOver, is_cut, is_marked, AreDegrees, IsTakenBack, IsTakenFrom, IsTakenTo, HasNoLooseBelow, HasMarkedEnds}
use Rattle.std.proofs.lemmas.List.Folds.{list_any_more, list_any_at}
use Rattle.surf_seams.specs.Through.{IsCutThrough, IsTakenBackTo}
use Rattle.surf_seams.proofs.AtBase.{full_cuts_start}
use Rattle.surf_seams.proofs.Taking.{taking_back_goes_on, taken_back_are_through}
use Rattle.surf_cutter.proofs.Trims.{flag_off}

-- ---- marks

-- one more vertex is marked
pub marked_more : (points : List ℕ) (k : ℕ) (marks : List Bool) (p : ℕ) → k < length points → get_or points k 0 ≡ p → p < length marks →
    ((v : ℕ) → v < length marks → is_marked marks v ≡ is_point (take k points) v) →
    (v : ℕ) → v < length marks → is_marked (set marks p true) v ≡ is_point (take (k + 1) points) v
marked_more points k marks p lt is p_in before v v_in =
    let more : is_point (take (k + 1) points) v ≡ (is_point (take k points) v || eqb p v) =
    list_any_more (λ p. eqb p v) points k 0 lt ∙ ap (λ (p : ℕ). is_point (take k points) v || eqb p v) is in
    elim (cases_eq p v) [
      | inl same ↦ subst (λ (v : ℕ). get_or (set marks p true) v false ≡ true) same (get_or-set_same marks p true false p_in)
          ∙ sym (more ∙ or_right (is_point (take k points) v) (eqb p v) (eq-eqb p v same))
      | inr differ ↦ get_or-set_other marks p v true false (λ i. differ (sym i)) ∙ before v v_in
          ∙ sym (more ∙ ap (λ (b : Bool). is_point (take k points) v || b) (ne_eqb p v differ) ∙ or_no (is_point (take k points) v))
    ]
  where
    or_no : (b : Bool) → (b || false) ≡ b
    or_no true = refl
    or_no false = refl

-- a vertex of a list is found there
pub point_found : (points : List ℕ) (v : ℕ) → Contains points v → is_point points v ≡ true
point_found points v (k, lt, is) =
    list_any_at (λ p. eqb p v) points k v lt (eq-eqb (get_or points k v) v is)

-- ---- one edge after another

-- below a vertex, none without a mark but the leaf has exactly one cut edge (HasNoLooseBelow is of all)
abbrev pub HasNoOtherLoose : Mesh → List Bool → ℕ → ℕ → List ℕ → Type 0
HasNoOtherLoose mesh marks high leaf degree =
    (v : ℕ) → v < high → v < mesh.vertices → v ≢ leaf → is_marked marks v ≡ false → get_or degree v 0 ≢ 1

pub taken_none : (mesh : Mesh) (marks cut : List Bool) → IsTakenFrom mesh marks cut cut
taken_none mesh marks cut whole before = before

pub taken_more : {mesh : Mesh} (marks first old new : List Bool) (degree less : List ℕ) (p q : ℕ) → IsTakenFrom mesh marks first old →
    AreDegrees mesh old degree → length old ≡ edge_count mesh → p < mesh.vertices → is_marked marks p ≡ false → get_or degree p 0 ≡ 1 →
    IsTakenBack mesh p q old new degree less → IsTakenFrom mesh marks first new
taken_more {mesh} marks first old new degree less p q before are flags p_in no_mark one taken whole started =
    let e = taken.taken.0 in
    let is = taken.taken.1 in
    let edge : e < edge_count mesh = is.is_edge in
    let lt : e < length old = omega (arith, edge, flags) in
    taking_back_goes_on mesh whole (is_marked marks) (is_cut old) (is_cut new) e p q (before whole started) edge is.is_cut is.its_ends p_in no_mark
    (sym (are.counted p p_in) ∙ one) (λ h _. ap (λ (cut : List Bool). get_or cut h false) taken.taken.2 ∙ flag_off old e h lt)

pub taken_then : {mesh : Mesh} (marks first old new : List Bool) → IsTakenFrom mesh marks first old → IsTakenFrom mesh marks old new → IsTakenFrom mesh marks first new
taken_then marks first old new before after whole started = after whole (before whole started)

-- the leaf has none then, so that its other end alone may have one
pub no_other_loose : {mesh : Mesh} (marks : List Bool) (high p q : ℕ) (old new : List Bool) (degree less : List ℕ) → HasNoOtherLoose mesh marks high p degree →
    IsTakenBack mesh p q old new degree less → HasNoOtherLoose mesh marks high q less
no_other_loose {mesh} marks high p q old new degree less none t v lt v_in nq no_mark = elim (cases_eq v p) [
  | inl i ↦ λ one. let z = t.leaf_done in let y = ap (λ v. get_or less v 0) i in absurd (omega arith)
  | inr np ↦ λ one. none v lt v_in np no_mark (sym (t.others v np nq) ∙ one)
]

pub begun_at : (mesh : Mesh) (marks : List Bool) (start : ℕ) (degree : List ℕ) → HasNoLooseBelow mesh marks start degree → HasNoOtherLoose mesh marks (start + 1) start degree
begun_at mesh marks start degree none v lt v_in differ no_mark = none v (omega (arith, lt, differ)) v_in no_mark

pub leaf_kept : (mesh : Mesh) (marks : List Bool) (high leaf : ℕ) (degree : List ℕ) → HasNoOtherLoose mesh marks high leaf degree →
    (is_marked marks leaf ≡ false → get_or degree leaf 0 ≢ 1) → HasNoLooseBelow mesh marks high degree
leaf_kept mesh marks high leaf degree none kept v lt v_in no_mark = elim (cases_eq v leaf) [
  | inl i ↦ λ one. kept (subst (λ (v : ℕ). is_marked marks v ≡ false) i no_mark) (subst (λ (v : ℕ). get_or degree v 0 ≡ 1) i one)
  | inr differ ↦ none v lt v_in differ no_mark
]

pub all_taken : {mesh : Mesh} (marks cut : List Bool) (high : ℕ) (degree : List ℕ) → AreDegrees mesh cut degree → mesh.vertices ≤ high → HasNoLooseBelow mesh marks high degree → HasMarkedEnds mesh marks cut
all_taken marks cut high degree are all none v v_in no_mark one = none v (omega (arith, v_in, all)) v_in no_mark (are.counted v v_in ∙ one)

-- how many flags there are is how many edges are cut
pub counted_cut : (mesh : Mesh) (cut : List Bool) → length cut ≡ edge_count mesh → (n : ℕ) → n ≡ count_below (length cut) (is_cut cut) → n ≡ cut_count mesh (is_cut cut)
counted_cut mesh cut flags n is = is ∙ ap (λ (size : ℕ). count_below size (is_cut cut)) flags

-- ---- the cut through the vertices

-- a cut through vertices that are told by another test
told_so : {mesh : Mesh} {full : Chain} {some other : ℕ → Bool} {cut : Chain} → ((v : ℕ) → v < mesh.vertices → some v ≡ other v) →
    IsCutThrough mesh full some cut → IsCutThrough mesh full other cut
told_so same is = record {
  within = is.within;
  ends_in = λ v v_in no_point. is.ends_in v v_in (same v v_in ∙ no_point);
  largest = λ rest within ends_in. is.largest rest within (λ v v_in no_point. ends_in v v_in (sym (same v v_in) ∙ no_point));
}

module _ {mesh : Mesh} (surface : IsSurface mesh) (held cut : List Bool) (flags : length held ≡ edge_count mesh) (over : AreTurnedOver held cut) (is : IsHeld mesh held)
    (points : List ℕ) (less : List Bool) (same : length less ≡ length cut) (taken : IsTakenTo mesh points cut less) where
  abbrev test : ℕ → Bool
  test = is_marked taken.marks

  -- the edges that are left come of the full cut
  back_to : (tree cotree : Tree) → AreDivided mesh tree cotree → MarksCotree mesh cotree held → IsTakenBackTo mesh test (full_cut mesh tree cotree) (is_cut less)
  back_to tree cotree split marks =
      taken.taken (full_cut mesh tree cotree)
      (full_cuts_start mesh tree cotree test (is_cut cut) split (λ e h. over.1 e (omega (arith, h, flags)) ∙ ap not (marks e h)))

  is_through : (tree cotree : Tree) → AreDivided mesh tree cotree → MarksCotree mesh cotree held → IsCutThrough mesh (full_cut mesh tree cotree) (is_point points) (is_cut less)
  is_through tree cotree split marks =
      told_so taken.are.at
      (taken_back_are_through mesh (full_cut mesh tree cotree) test (is_cut less) (back_to tree cotree split marks) taken.ended)

  pub through_is_near : cut_count mesh (is_cut less) < 2 → IsNearFor mesh held (through points)
  through_is_near few tree cotree split marks = (is_cut less, is_through tree cotree split marks, few)

  pub through_is_chosen : 2 ≤ cut_count mesh (is_cut less) → IsChosenCut mesh held (through points) less
  through_is_chosen many = record {
    disc = record {
      flags = same ∙ over.0 ∙ flags;
      opens = (let l = some_list surface is.2 in
          let t = taken_back_are_trimmed mesh is.0 is.1 l.0 test (is_cut less) surface is.2 l.1 (back_to is.0 is.1 is.2 is.3) many in
          (l.0, t.0, l.1.grows, t.1, t.2));
    };
    chosen = λ opened in_order tree cotree split marks.
        record { cut = is_cut less; is_through = is_through tree cotree split marks; some = many; opened = in_order.0; in_order = in_order.1 };
  }
