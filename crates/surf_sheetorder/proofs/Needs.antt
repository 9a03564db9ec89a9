-- Claimed loops, and what is shown of closed walks that need one of them.
use Rattle.surf_surfaces.proofs.Common.{◌≡◌, ◌≢◌, ℕ, suc, ◌<◌, ◌≤◌, Bool, true, false, IsTrue, List, [], length, map, get_or, sym, ap, ◌∙◌, subst, arith, inl, inr, cases_lt, length-map, map-map, get_or-map, get_or_default, numbers, Independent, false≢true, Split, Mesh, class_of, loop_walk, Place, is_no_later}
use Rattle.std.specs.Prelude.{take}
use Rattle.std.proofs.lemmas.List.{get_or-take, length-take}
use Rattle.surf_surfaces.proofs.classes.ClassLaws.{independent_by_classes}
use Rattle.surf_sheets.specs.Sheets.{walk_at}
use Rattle.surf_sheetorder.specs.Off.{place_at_number, ComesFirst, ComesFirstAt}
use Rattle.surf_sheetorder.specs.Searches.{IsLinear, IsLoopPast, ListedLoop, edges_passing}
use Rattle.surf_sheetorder.specs.Rounds.{AreFirst}
use Rattle.surf_sheetorder.specs.Needs.{told_of_walk, classes_of, place_in, AreClaimedLoops, TellsNeed}
use Rattle.surf_sheetorder.specs.Laws.{SumsNeedFirst, SearchesShowNeeds, LabelledEdgesShowNeeds, LoopsHavePlacesOfBasis}
use Rattle.surf_sheetorder.proofs.DualTests.{bases_have_tests}
use Rattle.surf_sheetorder.proofs.FirstBases.{first_walks_have_places_of_basis}
use Rattle.surf_sheetorder.proofs.SearchSheets.{searches_show_more}
use Rattle.surf_sheetorder.proofs.Tests.{labelled_edges_show, sums_pass_none, tests_pair_walks}

-- ---- sums of the first

pub sums_need_first : SumsNeedFirst
sums_need_first loops i n class test tells sum passes = elim (cases_lt i n) [
  | inl less ↦ less
  | inr no_less ↦
      absurd (false≢true (sym (sums_pass_none test (take n (classes_of loops)) class tells.linear
      (λ k e l.
      let many = length-take n (classes_of loops) in
      let before : k < n = omega (arith, l, many) in
      let inside : k < length (classes_of loops) = omega (arith, l, many) in
      ap test (get_or-take n (classes_of loops) k e before ∙ get_or_default (classes_of loops) k e 0 inside)
      ∙ tells.others k inside (λ same. omega (arith, same, before, no_less))) sum) ∙ passes))
]

-- ---- the walks that are claimed

module _ (mesh : Mesh) (lengths : List ℕ) (d : Split) (loops : List ListedLoop)
    (claim : AreClaimedLoops mesh lengths d loops) where
  as_many : length loops ≡ length claim.walks
  as_many = ap (λ (xs : List ListedLoop). length xs) (sym claim.told) ∙ length-map claim.walks (told_of_walk mesh lengths d)

  loop_same : (i : ℕ) (e : ListedLoop) → i < length loops →
      get_or loops i e ≡ told_of_walk mesh lengths d (get_or claim.walks i [])
  loop_same i e l =
      ap (λ (xs : List ListedLoop). get_or xs i e) (sym claim.told)
      ∙ get_or-map (told_of_walk mesh lengths d) claim.walks i [] e (omega (arith, l, as_many))

  place_same : (i : ℕ) → i < length loops → place_in loops i ≡ place_at_number mesh lengths claim.walks i
  place_same i l = ap (λ (c : ListedLoop). c.place) (loop_same i (record { place = (0, 0); class = 0 }) l)

  class_same : (i : ℕ) → i < length loops → get_or (classes_of loops) i 0 ≡ class_of mesh d (get_or claim.walks i [])
  class_same i l =
      get_or-map (λ (c : ListedLoop). c.class) loops i (record { place = (0, 0); class = 0 }) 0 l
      ∙ ap (λ (c : ListedLoop). c.class) (loop_same i (record { place = (0, 0); class = 0 }) l)

-- ---- searches and labels

pub searches_show_needs : SearchesShowNeeds
searches_show_needs mesh d lengths loops off z margin i sought listed near surface split claim i_in search past unsought shown =
    λ k e l test tells.
    let same = place_same mesh lengths d loops claim i i_in in
    let many = as_many mesh lengths d loops claim in
    let at : (j : ℕ) → i ≤ j → j < suc i → i ≡ j = λ j low high. omega (arith, low, high) in
    subst (λ (p : Place). ComesFirstAt mesh lengths (edges_passing mesh d test) p (get_or near k e)) (sym same)
    (searches_show_more mesh d lengths search.other claim.walks (λ j. test) search.trees off z i (suc i) margin sought listed
    surface split (λ j. tells.linear) search.positive search.shortest search.agree search.inside
    (λ j h low high h_in wanted passes.
    let some : class_of mesh d (loop_walk mesh (search.trees z) h) ≢ 0 =
    λ none. false≢true (sym tells.linear.none ∙ ap test (sym none) ∙ passes) in
    let (found, among, is, no_later) = search.listed_are h h_in wanted some in
    (found, among, ap test is ∙ passes, no_later))
    (λ j low high j_in k2 e2 l2 passes.
    subst (λ (p : Place). IsLoopPast margin p (get_or listed k2 e2).place)
    (same ∙ ap (place_at_number mesh lengths claim.walks) (at j low high))
    (let (n, sum, late) = past k2 e2 l2 in
    late (sums_need_first loops i n (get_or listed k2 e2).class test tells sum passes)))
    (λ j place low high j_in out.
    subst (λ (p : Place). IsLoopPast margin p place) (same ∙ ap (place_at_number mesh lengths claim.walks) (at j low high))
    (unsought place out))
    i (omega arith) (omega arith) (omega (arith, i_in, many))
    (λ y y_in out. subst (λ (p : Place). ComesFirstAt mesh lengths (edges_passing mesh d test) p y) same
    (shown y y_in out test tells))
    (get_or near k e) (search.near_are k e l))

pub labelled_edges_show_needs : LabelledEdgesShowNeeds
labelled_edges_show_needs mesh d lengths loops labels i surface each test tells =
    labelled_edges_show mesh d lengths test labels (place_in loops i) surface tells.linear
    (λ e e_in passes.
    let (n, sum, shown) = each e e_in in
    elim (shown (sums_need_first loops i n _ test tells sum passes)) [
      | inl one ↦ inl (one test tells)
      | inr other ↦ inr (other test tells)
    ])

-- ---- places

pub loops_have_places_of_basis : LoopsHavePlacesOfBasis
loops_have_places_of_basis mesh d lengths loops trees basis surface split positive claim none chosen is =
    ap (map (λ (c : ListedLoop). c.place)) (sym claim.told)
    ∙ map-map (λ (c : ListedLoop). c.place) (told_of_walk mesh lengths d) claim.walks
    ∙ first_walks_have_places_of_basis mesh lengths claim.walks (λ i. edges_passing mesh d (tests i)) trees basis surface
    positive first chosen is
  where
    many : length loops ≡ length claim.walks
    many = as_many mesh lengths d loops claim

    classes_same : classes_of loops ≡ map (class_of mesh d) claim.walks
    classes_same =
        ap classes_of (sym claim.told) ∙ map-map (λ (c : ListedLoop). c.class) (told_of_walk mesh lengths d) claim.walks

    dual : (tests : ℕ → ℕ → Bool) × ((i : ℕ) → IsLinear (tests i))
        × ((i : ℕ) → i < length claim.walks → tests i (class_of mesh d (walk_at claim.walks i)) ≡ true)
        × ((i j : ℕ) → i < length claim.walks → j < length claim.walks → i ≢ j →
        tests i (class_of mesh d (walk_at claim.walks j)) ≡ false)
    dual = bases_have_tests mesh d claim.walks surface split (record {
      closed = claim.closed;
      count = claim.count;
      independent = (independent_by_classes mesh d surface split claim.walks claim.closed).1
          (subst (Independent numbers) classes_same claim.independent);
    })

    tests : ℕ → ℕ → Bool
    tests = dual.0

    tells : (i : ℕ) → i < length loops → TellsNeed (classes_of loops) i (tests i)
    tells i l = record {
      linear = dual.1 i;
      own = ap (tests i) (class_same mesh lengths d loops claim i l) ∙ dual.2 i (omega (arith, l, many));
      others = λ j j_in ne.
          (let few = length-map loops (λ (c : ListedLoop). c.class) in
          let inside : j < length loops = omega (arith, j_in, few) in
          ap (tests i) (class_same mesh lengths d loops claim j inside)
          ∙ dual.3 i j (omega (arith, l, many)) (omega (arith, inside, many)) (λ same. ne (sym same)));
    }

    first : AreFirst mesh lengths claim.walks (λ i. edges_passing mesh d (tests i))
    first = record {
      claimed = tests_pair_walks mesh d lengths claim.walks tests surface split dual.1 claim.closed claim.count
          (λ i j lt l.
          let one = place_same mesh lengths d loops claim i (omega (arith, lt, l, many)) in
          let two = place_same mesh lengths d loops claim j (omega (arith, l, many)) in
          subst (λ (p : Place). IsTrue (is_no_later p (place_at_number mesh lengths claim.walks j))) one
          (subst (λ (p : Place). IsTrue (is_no_later (place_in loops i) p)) two
          (claim.order i j lt (omega (arith, l, many)))))
          dual.2
          (λ i j lt l. dual.3 j i l (omega (arith, lt, l)) (λ same. omega (arith, same, lt)));
      first = λ i l.
          (let inside : i < length loops = omega (arith, l, many) in
          subst (λ (p : Place). ComesFirst mesh lengths (edges_passing mesh d (tests i)) p)
          (place_same mesh lengths d loops claim i inside) (none i inside (tests i) (tells i inside)));
    }
