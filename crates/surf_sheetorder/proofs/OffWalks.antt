-- Closed walks over what a sheet serves that leaves out vertices.
use Rattle.surf_surfaces.proofs.Common.{◌≡◌, ℕ, suc, ◌+◌, ◌*◌, ◌<◌, ◌≤◌, ◌⊎◌, ◌&&◌, ◌||◌, Bool, true, false, cond, List, [], ◌∷◌, ◌++◌, length, refl, sym, ap, ◌∙◌, subst, arith, inl, inr, AllByRecursion, cases_Bool, false≢true, Contains, All-contains, All-from_recursion, xor_comm, odd_below-same, Chain, IsGraphWalk, walk_chain, graph_walk_length, primal, cells_of, walk-append, walk_parts, Mesh, edge_count, ends, IsSurface, edge_length, first, walk_length, is_no_later}
use Rattle.surf_graphs.proofs.Walks.{same_off, walk_in, walk_has_ends}
use Rattle.surf_surfaces.proofs.bases.FewBasesLaws.{no_later_from}
use Rattle.surf_surfaces.proofs.meshes.CellLaws.{surfaces_are_cells}
use Rattle.surf_surfaces.proofs.walks.GraphWalkLaws.{graph_walk}
use Rattle.surf_sheets.specs.Sheets.{walk_at, IsInRange, is_crossed}
use Rattle.surf_sheets.proofs.Oddness.{odd_in, odd_same, odd_graph_walk}
use Rattle.surf_sheets.proofs.Ways.{crossed_round}
use Rattle.surf_sheets.proofs.TightWays.{IsJust, end_passes, walk_past}
use Rattle.surf_sheetorder.specs.Off.{place_at_number, OffSheet, IsClear, IsPlacedSheetOff}
use Rattle.surf_sheetorder.specs.Laws.{SheetsShowMore}

-- ---- lists

parts_of : {X : Type 0} (P : X → Type 0) (u v : List X) → AllByRecursion P (u ++ v) →
    AllByRecursion P u × AllByRecursion P v
parts_of P [] v all = (tt, all)
parts_of P (x ∷ u) v all = let rest = parts_of P u v all.1 in ((all.0, rest.0), rest.1)

both_of : {X : Type 0} (P : X → Type 0) (u v : List X) → AllByRecursion P u → AllByRecursion P v →
    AllByRecursion P (u ++ v)
both_of P [] v one two = two
both_of P (x ∷ u) v one two = (one.0, both_of P u v one.1 two)

-- all members are off the set, or one is in it
none_or_one : (set : ℕ → Bool) (xs : List ℕ) →
    AllByRecursion (λ n. set n ≡ false) xs ⊎ ((y : ℕ) × Contains xs y × (set y ≡ true))
none_or_one set [] = inl tt
none_or_one set (x ∷ xs) = elim (cases_Bool (set x)) [
  | inl in_set ↦ inr (x, (0, omega arith, refl), in_set)
  | inr out ↦ elim (none_or_one set xs) [
    | inl none ↦ inl (out, none)
    | inr (y, (k, l, e), in_set) ↦ inr (y, (suc k, omega (arith, l), e), in_set)
  ]
]

neither : (a b : Bool) → (a || b) ≡ false → (a ≡ false) × (b ≡ false)
neither false b h = (refl, h)
neither true b h = absurd (false≢true (sym h))

or_none : (a b : Bool) → a ≡ false → b ≡ false → (a || b) ≡ false
or_none a b one two = rw (one, two) refl

module _ (mesh : Mesh) (lengths : List ℕ) (walks : List (List ℕ)) (cocycles : ℕ → Chain) (s : OffSheet)
    (surface : IsSurface mesh) (is : IsPlacedSheetOff mesh lengths walks cocycles s) (i : ℕ)
    (in_range : IsInRange s.placed.sheet i) (i_in : i < length walks) where
  -- an end of the edge is left out
  abbrev is_cut : ℕ → Bool
  is_cut e = s.off (ends mesh e).0 || s.off (ends mesh e).1

  abbrev far : ℕ → ℕ
  far = s.placed.sheet.distance

  -- lengths by which cut edges are too long for any way
  abbrev len : ℕ → ℕ
  len e = cond (is_cut e) (suc (s.placed.sheet.distance (ends mesh e).0 + s.placed.sheet.distance (ends mesh e).1))
      (edge_length lengths e)

  abbrev least : ℕ → ℕ
  least v = cond (s.off v) 0 (s.placed.least v)

  abbrev crossed : ℕ → Bool
  crossed e = is_crossed mesh (cocycles i) (s.placed.sheet.label i) e

  -- the edges that are crossed and not cut
  abbrev set : Chain
  set e = cond (is_cut e) false (is_crossed mesh (cocycles i) (s.placed.sheet.label i) e)

  clear : (e : ℕ) → is_cut e ≡ false → IsClear mesh s.off e
  clear e out = let both = neither (s.off (ends mesh e).0) (s.off (ends mesh e).1) out in
      record { one = both.0; other = both.1 }

  own_length : (e : ℕ) → is_cut e ≡ false → len e ≡ edge_length lengths e
  own_length e out =
      ap (λ b. cond b (suc (s.placed.sheet.distance (ends mesh e).0 + s.placed.sheet.distance (ends mesh e).1))
      (edge_length lengths e)) out

  cut_length : (e : ℕ) → is_cut e ≡ true →
      len e ≡ suc (s.placed.sheet.distance (ends mesh e).0 + s.placed.sheet.distance (ends mesh e).1)
  cut_length e in_cut =
      ap (λ b. cond b (suc (s.placed.sheet.distance (ends mesh e).0 + s.placed.sheet.distance (ends mesh e).1))
      (edge_length lengths e)) in_cut

  own_least : (v : ℕ) → s.off v ≡ false → least v ≡ s.placed.least v
  own_least v out = ap (λ b. cond b 0 (s.placed.least v)) out

  slack : (e : ℕ) → e < edge_count mesh →
      (far (ends mesh e).0 ≤ far (ends mesh e).1 + len e) × (far (ends mesh e).1 ≤ far (ends mesh e).0 + len e)
  slack e e_in = elim (cases_Bool (is_cut e)) [
    | inl in_cut ↦ let long = cut_length e in_cut in (omega (arith, long), omega (arith, long))
    | inr out ↦
        let both = is.slack e e_in (clear e out) in
        let one = both.0 in
        let two = both.1 in
        let same = own_length e out in
        (omega (arith, one, same), omega (arith, two, same))
  ]

  low : (v : ℕ) → v < mesh.vertices → least v ≤ v
  low v v_in = elim (cases_Bool (s.off v)) [
    | inl left ↦ let none : least v ≡ 0 = ap (λ b. cond b 0 (s.placed.least v)) left in omega (arith, none)
    | inr out ↦ let same = own_least v out in let mine = is.own v v_in out in omega (arith, same, mine)
  ]

  bounds : (e : ℕ) → e < edge_count mesh →
      (far (ends mesh e).1 ≡ far (ends mesh e).0 + len e → least (ends mesh e).1 ≤ least (ends mesh e).0)
      × (far (ends mesh e).0 ≡ far (ends mesh e).1 + len e → least (ends mesh e).0 ≤ least (ends mesh e).1)
  bounds e e_in = elim (cases_Bool (is_cut e)) [
    | inl in_cut ↦
        let long = cut_length e in_cut in
        (λ h. absurd (omega (arith, long, h)), λ h. absurd (omega (arith, long, h)))
    | inr out ↦
        let c = clear e out in
        let none = is.before e e_in c in
        let same = own_length e out in
        let one = own_least (ends mesh e).0 c.one in
        let two = own_least (ends mesh e).1 c.other in (
          (λ h. let falls = none.there (omega (arith, h, same)) in omega (arith, falls, one, two)),
          (λ h. let falls = none.back (omega (arith, h, same)) in omega (arith, falls, one, two)),
        )
  ]

  abbrev size : ℕ
  size = walk_length mesh lengths (walk_at walks i)

  abbrev base : ℕ
  base = first (walk_at walks i)

  -- on a walk that keeps off what is left out the crossed edges are not cut
  off_set : (x : ℕ) (w : List ℕ) → IsGraphWalk (primal (cells_of mesh)) x w x →
      AllByRecursion (λ n. s.off n ≡ false) (x ∷ w) →
      odd_in (edge_count mesh) set (walk_chain (primal (cells_of mesh)) x w)
      ≡ odd_in (edge_count mesh) crossed (walk_chain (primal (cells_of mesh)) x w)
  off_set x w walk off =
      let g = primal (cells_of mesh) in
      odd_below-same (edge_count mesh) (λ e. walk_chain g x w e && set e) (λ e. walk_chain g x w e && crossed e)
      (λ e l. elim (cases_Bool (walk_chain g x w e)) [
        | inr none ↦
            ap (λ b. b && set e) none ∙ sym (ap (λ b. b && crossed e) none)
        | inl on ↦
            let over = walk_has_ends g x w x e walk on in
            let all = All-from_recursion (λ n. s.off n ≡ false) (x ∷ w) off in
            let one = All-contains (λ n. s.off n ≡ false) (x ∷ w) (ends mesh e).0 all over.0 in
            let two = All-contains (λ n. s.off n ≡ false) (x ∷ w) (ends mesh e).1 all over.1 in
            ap (λ b. walk_chain g x w e && b) (ap (λ b. cond b false (crossed e))
            (or_none (s.off (ends mesh e).0) (s.off (ends mesh e).1) one two))
      ])

  -- a closed walk that keeps off what is left out, at a vertex within the margin
  kept_off : (x : ℕ) (w : List ℕ) → far x ≤ s.placed.sheet.margin → x < mesh.vertices →
      IsGraphWalk (primal (cells_of mesh)) x w x → AllByRecursion (λ n. s.off n ≡ false) (x ∷ w) →
      odd_in (edge_count mesh) (cocycles i) (walk_chain (primal (cells_of mesh)) x w) ≡ true →
      (size < graph_walk_length (primal (cells_of mesh)) (edge_length lengths) x w)
      ⊎ ((size ≡ graph_walk_length (primal (cells_of mesh)) (edge_length lengths) x w)
      × AllByRecursion (λ y. base ≤ y) (x ∷ w))
  kept_off x w near x_in walk off on =
      let g = primal (cells_of mesh) in
      let margin = s.placed.sheet.margin in
      let inside = walk_in g (surfaces_are_cells mesh surface).complex.primal_ends x w x x_in walk in
      let same_length : graph_walk_length g len x w ≡ graph_walk_length g (edge_length lengths) x w =
      same_off g (edge_length lengths) len s.off
      (λ e l one two. own_length e (or_none (s.off (ends mesh e).0) (s.off (ends mesh e).1) one two)) x w x walk off in
      elim (walk_past g len far least slack low bounds set (size + 2 * margin) margin base (λ e l on_set. past e l on_set)
      x w x walk inside
      (off_set x w walk off ∙ crossed_round g (cocycles i) (s.placed.sheet.label i) x w walk ∙ on)) [
        | inl more ↦ inl (omega (arith, more, near, same_length))
        | inr just ↦
            let none = just.none in
            let same = just.same in
            inr (omega (arith, none, same, near, same_length), just.all)
      ]
    where
      past : (e : ℕ) → e < edge_count mesh → set e ≡ true →
          (size + 2 * s.placed.sheet.margin < far (ends mesh e).0 + len e + far (ends mesh e).1)
          ⊎ IsJust s.placed.sheet.margin (size + 2 * s.placed.sheet.margin)
          (far (ends mesh e).0 + len e + far (ends mesh e).1) base (least (ends mesh e).0) (least (ends mesh e).1)
      past e l on_set = elim (cases_Bool (is_cut e)) [
        | inl in_cut ↦ absurd (false≢true (sym (ap (λ b. cond b false (crossed e)) in_cut) ∙ on_set))
        | inr out ↦
            let c = clear e out in
            let same = own_length e out in
            let one = own_least (ends mesh e).0 c.one in
            let two = own_least (ends mesh e).1 c.other in
            let crosses : is_crossed mesh (cocycles i) (s.placed.sheet.label i) e ≡ true =
            sym (ap (λ b. cond b false (crossed e)) out) ∙ on_set in
            elim (is.past i e in_range i_in l c crosses) [
              | inl more ↦ inl (omega (arith, more, same))
              | inr at ↦
                  let none = at.no_margin in
                  let long = at.as_long in
                  let first_end = at.one_end in
                  let second_end = at.other_end in
                  inr (record {
                    none = none;
                    same = omega (arith, none, long, same);
                    first_low = omega (arith, first_end, one);
                    second_low = omega (arith, second_end, two);
                  })
            ]
      ]

  -- one over such a vertex, turned to begin there
  over_kept : (a x : ℕ) (w : List ℕ) → far x ≤ s.placed.sheet.margin → a < mesh.vertices →
      IsGraphWalk (primal (cells_of mesh)) a w a → Contains (a ∷ w) x →
      AllByRecursion (λ n. s.off n ≡ false) (a ∷ w) →
      odd_in (edge_count mesh) (cocycles i) (walk_chain (primal (cells_of mesh)) a w) ≡ true →
      is_no_later (place_at_number mesh lengths walks i)
      (graph_walk_length (primal (cells_of mesh)) (edge_length lengths) a w, a) ≡ true
  over_kept a x w near a_in walk over off on =
      let g = primal (cells_of mesh) in
      let own = edge_length lengths in
      let inside = walk_in g (surfaces_are_cells mesh surface).complex.primal_ends a w a a_in walk in
      let x_in : x < mesh.vertices = All-contains (λ n. n < mesh.vertices) (a ∷ w) x
      (All-from_recursion (λ n. n < mesh.vertices) (a ∷ w) inside) over in
      let x_off : s.off x ≡ false = All-contains (λ n. s.off n ≡ false) (a ∷ w) x
      (All-from_recursion (λ n. s.off n ≡ false) (a ∷ w) off) over in
      let (start, second, is_both, there, back) = walk_parts g a w a x walk over in
      let straight = walk-append g own a start x second a there back in
      let turned = walk-append g own x second a start x back there in
      let whole : graph_walk_length g own a w ≡ graph_walk_length g own a start + graph_walk_length g own x second =
      ap (graph_walk_length g own a) is_both ∙ straight.2 in
      let other_way : graph_walk_length g own x (second ++ start)
      ≡ graph_walk_length g own x second + graph_walk_length g own a start = turned.2 in
      let same : (e : ℕ) → walk_chain g x (second ++ start) e ≡ walk_chain g a w e =
      λ e. turned.1 e ∙ xor_comm (walk_chain g x second e) (walk_chain g a start e) ∙ sym (straight.1 e)
      ∙ ap (λ v. walk_chain g a v e) (sym is_both) in
      let in_parts = parts_of (λ n. s.off n ≡ false) start second
      (subst (AllByRecursion (λ n. s.off n ≡ false)) is_both off.1) in
      elim (kept_off x (second ++ start) near x_in turned.0
      (x_off, both_of (λ n. s.off n ≡ false) second start in_parts.1 in_parts.0)
      (odd_same (edge_count mesh) (cocycles i) (walk_chain g x (second ++ start)) (walk_chain g a w) (λ e l. same e) ∙ on)) [
        | inl more ↦
            no_later_from size base (graph_walk_length g own a w) a (omega (arith, more, whole, other_way))
            (λ as_long. absurd (omega (arith, more, whole, other_way, as_long)))
        | inr (as_long, all_low) ↦
            no_later_from size base (graph_walk_length g own a w) a (omega (arith, as_long, whole, other_way))
            (λ k. end_passes g (λ y. base ≤ y) x second start a back all_low)
      ]

pub sheets_show_more : SheetsShowMore
sheets_show_more mesh lengths walks cocycles s surface is i in_range i_in shown x near [] closed over on =
    absurd (omega (arith, closed.is_walk.begins))
sheets_show_more mesh lengths walks cocycles s surface is i in_range i_in shown x near (u ∷ rest) closed over on =
    let w = graph_walk mesh surface lengths (u ∷ rest) closed in
    elim (none_or_one s.off (u ∷ rest)) [
      | inr (y, over_y, left) ↦
          let y_in = All-contains (λ n. n < mesh.vertices) (u ∷ rest) y closed.is_walk.vertices over_y in
          shown y y_in left (u ∷ rest) closed over_y on
      | inl off ↦
          subst (λ n. is_no_later (place_at_number mesh lengths walks i) (n, u) ≡ true) (sym w.size)
          (over_kept mesh lengths walks cocycles s surface is i in_range i_in u x rest near w.start_in w.closed over off
          (sym (odd_graph_walk mesh surface (cocycles i) u rest closed) ∙ on))
    ]
