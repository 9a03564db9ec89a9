-- What is left of edges, as numbers are taken out.
use Rattle.surf_surfaces.proofs.Common.{◌≡◌, ◌≢◌, ℕ, ◌<◌, ◌≤◌, ◌+◌, ◌⊎◌, ◌&&◌, Bool, true, false, not, eqb, List, length, get_or, set, refl, sym, ap, ◌∙◌, subst, arith, inl, inr, cases_eq, cases_Bool, eq-eqb, ne_eqb, IsSurface, get_or_default, get_or-set_same, get_or-set_other, get_or-map, length-map, length-set, map, has, joins, joins_ends, joins_turned, primal, cells_of, Mesh, edge_count, ends, or_cases, eqb-true, or_left, or_right, false≢true}
use Rattle.surf_surfaces.specs.Surface.{touches}
use Rattle.surf_mesh.specs.Links.{IsRow, edge_link, other_of}
use Rattle.surf_treecheck.proofs.Common.{place_of-ends, place_of, edges}
use Rattle.surf_graphs.proofs.Trees.{one_of}
use Rattle.surf_certcheck.proofs.Placing.{has_none}
use Rattle.surf_signatures.specs.Tables.{Signed}
use Rattle.surf_base.specs.Tables.{at, nobody}
use Rattle.surf_sheets.specs.Rows.{SheetRow}
use Rattle.surf_sheetcheck.specs.Cocycles.{pair_at}
use Rattle.surf_sheetcheck.specs.Tables.{IsReady, IsCleared, is_within, distance_in}
use Rattle.surf_sheetcheck.specs.Serving.{AreLefts, left_of, IsTaken, IsKept, IsNearBy}
use Rattle.surf_sheetcheck.specs.Searches.{far, AreSettled}
use Rattle.surf_surfaces.specs.Walk.{edge_length}
use Rattle.surf_surfaces.proofs.meshes.CellLaws.{surfaces_are_cells}
use Rattle.surf_sheetcheck.specs.declared.cases.SheetCase.{SheetCase}

-- taken out twice is taken out
pub cleared_twice : (from to a b d : ℕ) → IsCleared from to a b → IsCleared from to b d → IsCleared from to a d
cleared_twice from to a b d one two i =
    two i ∙ ap (λ x. x && not (is_within from to i)) (one i) ∙ twice (has a i) (not (is_within from to i))
  where
    twice : (x y : Bool) → ((x && y) && y) ≡ (x && y)
    twice true true = refl
    twice true false = refl
    twice false y = refl

module _ (c : SheetCase) (row : SheetRow) (old mid new : Signed) (e : ℕ) where
  pub taken_kept : IsTaken c row old mid e → IsKept c mid new e → IsTaken c row old new e
  taken_kept taken kept i = ap (λ x. has x i) kept ∙ taken i

  pub any_taken : IsTaken c row old mid e ⊎ IsKept c old mid e → IsTaken c row mid new e → IsTaken c row old new e
  any_taken any taken = elim any [
    | inl before ↦ cleared_twice row.from row.to (left_of c old e) (left_of c mid e) (left_of c new e) before taken
    | inr same ↦ λ i. taken i ∙ ap (λ x. has x i && not (is_within row.from row.to i)) same
  ]

  pub any_kept : IsTaken c row old mid e ⊎ IsKept c old mid e → IsKept c mid new e → IsTaken c row old new e ⊎ IsKept c old new e
  any_kept any kept = elim any [
    | inl before ↦ inl (taken_kept before kept)
    | inr same ↦ inr (kept ∙ same)
  ]

-- ---- one edge

module _ (c : SheetCase) (ready : IsReady c) (row : SheetRow) (e : ℕ) (l : e < edge_count c.mesh.now) where
  pub none_taken : (old : Signed) → at c.slots.items e ≡ nobody → IsTaken c row old old e
  none_taken old none i =
      let is : left_of c old e ≡ 0 = rw (eq-eqb (at c.slots.items e) nobody none) refl in
      ap (λ x. has x i) is ∙ has_none i
      ∙ sym (ap (λ x. has x i && not (is_within row.from row.to i)) is ∙ ap (λ b. b && not (is_within row.from row.to i)) (has_none i))

  module _ (old : Signed) (x : ℕ) (lefts : AreLefts c old) (some : at c.slots.items e ≢ nobody) where
    abbrev new : Signed
    new = record old { sets = set old.sets (at c.slots.items e) x }

    slot_in : at c.slots.items e < length old.sets
    slot_in =
        let there = (ready.slots.each e l).some some in
        omega (arith, there.0, lefts.room)

    pub set_lefts : AreLefts c (record old { sets = set old.sets (at c.slots.items e) x })
    set_lefts = record { width = lefts.width; room = length-set old.sets (at c.slots.items e) x ∙ lefts.room }

    pub set_taken : IsCleared row.from row.to (at old.sets (at c.slots.items e)) x →
        IsTaken c row old (record old { sets = set old.sets (at c.slots.items e) x }) e
    set_taken cleared i =
        let was : left_of c old e ≡ at old.sets (at c.slots.items e) = rw (ne_eqb (at c.slots.items e) nobody some) refl in
        let now : left_of c (record old { sets = set old.sets (at c.slots.items e) x }) e ≡ x =
        rw (ne_eqb (at c.slots.items e) nobody some) (get_or-set_same old.sets (at c.slots.items e) x 0 slot_in) in
        ap (λ y. has y i) now ∙ cleared i ∙ ap (λ y. has y i && not (is_within row.from row.to i)) (sym was)

    pub set_kept : (f : ℕ) → f < edge_count c.mesh.now → f ≢ e →
        IsKept c old (record old { sets = set old.sets (at c.slots.items e) x }) f
    set_kept f lf ne = elim (cases_eq (at c.slots.items f) nobody) [
      | inl none ↦ rw (eq-eqb (at c.slots.items f) nobody none) refl
      | inr other ↦
          rw (ne_eqb (at c.slots.items f) nobody other)
          (get_or-set_other old.sets (at c.slots.items e) (at c.slots.items f) x 0 (λ same. ne (one_edge other same)))
    ]
      where
        one_edge : at c.slots.items f ≢ nobody → at c.slots.items f ≡ at c.slots.items e → f ≡ e
        one_edge other same =
            let here = (ready.slots.each e l).some some in
            let there = (ready.slots.each f lf).some other in
            sym (place_of-ends c.mesh.now f lf)
            ∙ ap (λ p. place_of p (edges c.mesh.now)) (sym there.1 ∙ ap (pair_at c.cert.now) same ∙ here.1)
            ∙ place_of-ends c.mesh.now e l

-- ---- the edges at a vertex

-- the first edges of a list, and no others, have lost the numbers of a sheet
pub record AreTakenFirst (c : SheetCase) (row : SheetRow) (items : List ℕ) (n : ℕ) (old new : Signed) : Type 0 where
  pub lefts : AreLefts c new
  pub taken : (i : ℕ) → i < n → IsTaken c row old new (at items i)
  pub kept : (f : ℕ) → f < edge_count c.mesh.now → ((i : ℕ) → i < n → at items i ≢ f) → IsKept c old new f
  pub any : (f : ℕ) → f < edge_count c.mesh.now → IsTaken c row old new f ⊎ IsKept c old new f

pub taken_first_none : (c : SheetCase) (row : SheetRow) (items : List ℕ) (old : Signed) → AreLefts c old →
    AreTakenFirst c row items 0 old old
taken_first_none c row items old lefts = record {
  lefts = lefts;
  taken = λ i l. absurd (omega (arith, l));
  kept = λ f l none. refl;
  any = λ f l. inr refl;
}

pub taken_first_more : (c : SheetCase) (row : SheetRow) (items : List ℕ) (n e : ℕ) (old mid new : Signed) →
    n < length items → e ≡ get_or items n e → e < edge_count c.mesh.now → AreTakenFirst c row items n old mid →
    AreLefts c new → IsTaken c row mid new e → ((f : ℕ) → f < edge_count c.mesh.now → f ≢ e → IsKept c mid new f) →
    ((i : ℕ) → i < length items → at items i < edge_count c.mesh.now) → AreTakenFirst c row items (n + 1) old new
taken_first_more c row items n e old mid new l is le was lefts taken kept inside =
    let here : e ≡ at items n = is ∙ get_or_default items n e 0 l in
    let own = any_taken c row old mid new e (was.any e le) taken in
    record {
      lefts = lefts;
      taken = λ i li. elim (cases_eq (at items i) e) [
        | inl same ↦ subst (IsTaken c row old new) (sym same) own
        | inr ne ↦ elim (cases_eq i n) [
          | inl last ↦ absurd (ne (ap (at items) last ∙ sym here))
          | inr before ↦
              let li2 : i < n = omega (arith, li, before) in
              taken_kept c row old mid new (at items i) (was.taken i li2) (kept (at items i) (inside i (omega (arith, li2, l))) ne)
        ]
      ];
      kept = λ f lf none.
          let ne : f ≢ e = λ same. none n (omega arith) (sym here ∙ sym same) in
          kept f lf ne ∙ was.kept f lf (λ i li. none i (omega (arith, li)));
      any = λ f lf. elim (cases_eq f e) [
        | inl same ↦ inl (subst (IsTaken c row old new) (sym same) own)
        | inr ne ↦ any_kept c row old mid new f (was.any f lf) (kept f lf ne)
      ];
    }

-- the edges at a vertex are those that touch it
module _ (mesh : Mesh) (v : ℕ) (items : List ℕ) (row : IsRow (primal (cells_of mesh)) v (map (edge_link mesh v) items)) where
  pub item_at : (e : ℕ) → e < edge_count mesh → touches v (ends mesh e) ≡ true → (i : ℕ) × (i < length items) × (at items i ≡ e)
  item_at e l on = elim (or_cases (eqb (ends mesh e).0 v) (eqb (ends mesh e).1 v) on) [
    | inl first ↦ by (ends mesh e).1 (subst (λ x. joins (primal (cells_of mesh)) x (ends mesh e).1 e ≡ true) (eqb-true (ends mesh e).0 v first) there)
    | inr second ↦ by (ends mesh e).0 (subst (λ x. joins (primal (cells_of mesh)) x (ends mesh e).0 e ≡ true) (eqb-true (ends mesh e).1 v second)
        (joins_turned (primal (cells_of mesh)) (ends mesh e).0 (ends mesh e).1 e there))
  ]
    where
      there : joins (primal (cells_of mesh)) (ends mesh e).0 (ends mesh e).1 e ≡ true
      there = joins_ends (primal (cells_of mesh)) e

      by : (w : ℕ) → joins (primal (cells_of mesh)) v w e ≡ true → (i : ℕ) × (i < length items) × (at items i ≡ e)
      by w join =
          let (i, li, is) = row.whole e w l join in
          let size = length-map items (edge_link mesh v) in
          let in_items : i < length items = omega (arith, li, size) in
          (i, in_items, ap (λ (x : ℕ × ℕ). x.1) (sym (get_or-map (edge_link mesh v) items i 0 (0, 0) in_items) ∙ is))

  pub item_touches : (i : ℕ) → i < length items → touches v (ends mesh (at items i)) ≡ true
  item_touches i l =
      let size = length-map items (edge_link mesh v) in
      let li : i < length (map (edge_link mesh v) items) = omega (arith, l, size) in
      let is = get_or-map (edge_link mesh v) items i 0 (0, 0) l in
      let join = row.joined i li in
      let here : joins (primal (cells_of mesh)) v (other_of (ends mesh (at items i)) v) (at items i) ≡ true =
      subst (λ (x : ℕ × ℕ). joins (primal (cells_of mesh)) v x.0 x.1 ≡ true) is join in
      elim (one_of (primal (cells_of mesh)) v (other_of (ends mesh (at items i)) v) (at items i) here) [
        | inl (first, other) ↦ or_left (eqb (ends mesh (at items i)).0 v) (eqb (ends mesh (at items i)).1 v) (eq-eqb (ends mesh (at items i)).0 v first)
        | inr (other, second) ↦ or_right (eqb (ends mesh (at items i)).0 v) (eqb (ends mesh (at items i)).1 v) (eq-eqb (ends mesh (at items i)).1 v second)
      ]

  pub item_in_mesh : (i : ℕ) → i < length items → at items i < edge_count mesh
  item_in_mesh i l =
      let size = length-map items (edge_link mesh v) in
      let li : i < length (map (edge_link mesh v) items) = omega (arith, l, size) in
      let is = get_or-map (edge_link mesh v) items i 0 (0, 0) l in
      subst (λ (x : ℕ × ℕ). x.1 < edge_count mesh) is (row.edge_in i li)

-- all of them
pub taken_first_all : (c : SheetCase) (row : SheetRow) (v : ℕ) (items : List ℕ) (n : ℕ) (old new : Signed) →
    IsRow (primal (cells_of c.mesh.now)) v (map (edge_link c.mesh.now v) items) → n ≡ length items → AreTakenFirst c row items n old new →
    ((e : ℕ) → e < edge_count c.mesh.now → touches v (ends c.mesh.now e) ≡ true → IsTaken c row old new e)
    × ((e : ℕ) → e < edge_count c.mesh.now → touches v (ends c.mesh.now e) ≡ false → IsKept c old new e)
taken_first_all c row v items n old new links all are = (
  (λ e l on.
      let (i, li, is) = item_at c.mesh.now v items links e l on in
      subst (IsTaken c row old new) is (are.taken i (omega (arith, li, all)))),
  (λ e l off. are.kept e l (λ i li same.
      false≢true (sym off ∙ ap (λ f. touches v (ends c.mesh.now f)) (sym same) ∙ item_touches c.mesh.now v items links i (omega (arith, li, all))))),
)

-- ---- the vertices near a part

-- the edges at the first near vertices of a list, and no others, have lost the numbers of a sheet
pub record AreTakenNear (c : SheetCase) (row : SheetRow) (dist order : List ℕ) (n : ℕ) (old new : Signed) : Type 0 where
  pub lefts : AreLefts c new
  pub taken : (k e : ℕ) → k < n → e < edge_count c.mesh.now → at dist (at order k) ≤ row.margin →
      touches (at order k) (ends c.mesh.now e) ≡ true → IsTaken c row old new e
  pub kept : (e : ℕ) → e < edge_count c.mesh.now →
      ((k : ℕ) → k < n → at dist (at order k) ≤ row.margin → touches (at order k) (ends c.mesh.now e) ≡ true → ⊥) → IsKept c old new e
  pub any : (e : ℕ) → e < edge_count c.mesh.now → IsTaken c row old new e ⊎ IsKept c old new e

pub taken_near_none : (c : SheetCase) (row : SheetRow) (dist order : List ℕ) (old : Signed) → AreLefts c old →
    AreTakenNear c row dist order 0 old old
taken_near_none c row dist order old lefts = record {
  lefts = lefts;
  taken = λ k e l. absurd (omega (arith, l));
  kept = λ e l none. refl;
  any = λ e l. inr refl;
}

module _ (c : SheetCase) (row : SheetRow) (dist order : List ℕ) (n : ℕ) (old mid : Signed) (was : AreTakenNear c row dist order n old mid) where
  -- a vertex that isn't near
  pub near_skip : row.margin < at dist (at order n) → AreTakenNear c row dist order (n + 1) old mid
  near_skip far_off = record {
    lefts = was.lefts;
    taken = λ k e l le near on. elim (cases_eq k n) [
      | inl same ↦ let is = ap (λ j. at dist (at order j)) same in absurd (omega (arith, is, near, far_off))
      | inr ne ↦ was.taken k e (omega (arith, l, ne)) le near on
    ];
    kept = λ e le none. was.kept e le (λ k l. none k (omega (arith, l)));
    any = was.any;
  }

  -- a near one
  pub near_more : (new : Signed) → at dist (at order n) ≤ row.margin → AreLefts c new →
      ((e : ℕ) → e < edge_count c.mesh.now → touches (at order n) (ends c.mesh.now e) ≡ true → IsTaken c row mid new e) →
      ((e : ℕ) → e < edge_count c.mesh.now → touches (at order n) (ends c.mesh.now e) ≡ false → IsKept c mid new e) →
      AreTakenNear c row dist order (n + 1) old new
  near_more new near lefts taken kept = record {
    lefts = lefts;
    taken = λ k e l le close on. elim (cases_Bool (touches (at order n) (ends c.mesh.now e))) [
      | inl here ↦ any_taken c row old mid new e (was.any e le) (taken e le here)
      | inr away ↦ elim (cases_eq k n) [
        | inl same ↦ absurd (false≢true (sym away ∙ ap (λ j. touches (at order j) (ends c.mesh.now e)) (sym same) ∙ on))
        | inr ne ↦ taken_kept c row old mid new e (was.taken k e (omega (arith, l, ne)) le close on) (kept e le away)
      ]
    ];
    kept = λ e le none. elim (cases_Bool (touches (at order n) (ends c.mesh.now e))) [
      | inl here ↦ absurd (none n (omega arith) near here)
      | inr away ↦ kept e le away ∙ was.kept e le (λ k l. none k (omega (arith, l)))
    ];
    any = λ e le. elim (cases_Bool (touches (at order n) (ends c.mesh.now e))) [
      | inl here ↦ inl (any_taken c row old mid new e (was.any e le) (taken e le here))
      | inr away ↦ any_kept c row old mid new e (was.any e le) (kept e le away)
    ];
  }

-- all of them
module _ (c : SheetCase) (row : SheetRow) (part : List ℕ) (limit : ℕ) (dist order : List ℕ) (n : ℕ) (old new : Signed)
    (settled : AreSettled (primal (cells_of c.mesh.now)) (edge_length c.lengths.now) part limit dist order) (surface : IsSurface c.mesh.now)
    (less : row.margin < limit) (all : n ≡ length order) (are : AreTakenNear c row dist order n old new) where
  near_taken : (e v : ℕ) → e < edge_count c.mesh.now → v < c.mesh.now.vertices → touches v (ends c.mesh.now e) ≡ true →
      distance_in limit dist v ≤ row.margin → IsTaken c row old new e
  near_taken e v le lv on near =
      let some : at dist v ≢ far = λ none.
      let is : distance_in limit dist v ≡ limit = rw (eq-eqb (at dist v) far none) refl in
      absurd (omega (arith, is, near, less)) in
      let told : distance_in limit dist v ≡ at dist v = rw (ne_eqb (at dist v) far some) refl in
      let (k, lk, is) = settled.listed v lv some in
      let same = ap (at dist) is in
      are.taken k e (omega (arith, lk, all)) le (omega (arith, same, told, near))
      (subst (λ x. touches x (ends c.mesh.now e) ≡ true) (sym is) on)

  pub near_all_taken : (e : ℕ) → e < edge_count c.mesh.now → IsNearBy c row (distance_in limit dist) e → IsTaken c row old new e
  near_all_taken e le near =
      let inside = (surfaces_are_cells c.mesh.now surface).complex.primal_ends e le in
      let u = (ends c.mesh.now e).0 in
      let v = (ends c.mesh.now e).1 in
      elim near [
        | inl first ↦ near_taken e u le inside.0 (or_left (eqb u u) (eqb v u) (eq-eqb u u refl)) first
        | inr second ↦ near_taken e v le inside.1 (or_right (eqb u v) (eqb v v) (eq-eqb v v refl)) second
      ]

  pub near_all_kept : (e : ℕ) → e < edge_count c.mesh.now → (IsNearBy c row (distance_in limit dist) e → ⊥) → IsKept c old new e
  near_all_kept e le not_near = are.kept e le (λ k l close on.
      let lk : k < length order = omega (arith, l, all) in
      let some = settled.settled k lk in
      let told : distance_in limit dist (at order k) ≡ at dist (at order k) = rw (ne_eqb (at dist (at order k)) far some) refl in
      let near : distance_in limit dist (at order k) ≤ row.margin = omega (arith, told, close) in
      elim (or_cases (eqb (ends c.mesh.now e).0 (at order k)) (eqb (ends c.mesh.now e).1 (at order k)) on) [
        | inl first ↦ not_near (inl (subst (λ x. distance_in limit dist x ≤ row.margin) (sym (eqb-true (ends c.mesh.now e).0 (at order k) first)) near))
        | inr second ↦ not_near (inr (subst (λ x. distance_in limit dist x ≤ row.margin) (sym (eqb-true (ends c.mesh.now e).1 (at order k) second)) near))
      ])
