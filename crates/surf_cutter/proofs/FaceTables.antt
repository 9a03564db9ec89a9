-- Faces in one table, by the places where they begin.
use Rattle.surf_slit.proofs.Common.{◌≡◌, ℕ, suc, ◌+◌, ◌-◌, ◌<◌, ◌≤◌, List, [], ◌∷◌, ◌++◌, length, get_or, take, drop, refl, sym, ap, subst, ◌∙◌, inl, inr, arith, flat_map, sum_by, cases_eq, Mesh, face_count, face_at, side_count, first_side, take-length, length-drop, length-take, get_or-take, get_or-drop, get_or_read, length_push, get_or_push, get_or_append_left, spans}
use Rattle.surf_cutter.proofs.Common.{AreBounds, rows_from, AreStartsTo, AreRowsOf}
use Rattle.surf_rows.specs.Rows.{AreEnds}
use Rattle.surf_rows.proofs.Cuts.{length-cut, span_at, row_is-cut, sum-first, flat-cut, ends_push}

-- the first n faces with the numbers of their corners' labels in place of the corners
pub record AreCopied (mesh : Mesh) (labels numbers : List ℕ) (n : ℕ) (faces : List (List ℕ)) : Type 0 where
  pub size : length faces ≡ n
  pub row_sizes : (f : ℕ) → f < n → length (get_or faces f []) ≡ length (face_at mesh f)
  pub entries : (f k : ℕ) → f < n → k < length (face_at mesh f) →
      get_or (get_or faces f []) k 0 ≡ get_or numbers (get_or labels (first_side mesh f + k) 0) 0

-- the places again, from those behind the first
again : (starts : List ℕ) → 0 < length starts → get_or starts 0 0 ≡ 0 → 0 ∷ drop 1 starts ≡ starts
again [] some first = absurd (omega arith)
again (s ∷ ends) some first = ap (λ (n : ℕ). n ∷ ends) (sym first)

module _ (starts items : List ℕ) (are : AreBounds starts (length items)) where
  place : (f : ℕ) → get_or (0 ∷ drop 1 starts) f 0 ≡ get_or starts f 0
  place f = ap (λ (xs : List ℕ). get_or xs f 0) (again starts are.some are.first)

  end_place : (f : ℕ) → get_or (drop 1 starts) f 0 ≡ get_or starts (f + 1) 0
  end_place f = let z : suc f ≡ f + 1 = omega arith in place (suc f) ∙ ap (λ (n : ℕ). get_or starts n 0) z

  pub row_count : length (rows_from starts items) + 1 ≡ length starts
  row_count =
      let some = are.some in
      omega (arith, length-cut 0 (drop 1 starts) items, length-drop 1 starts)

  row_in : (f : ℕ) → f < length (rows_from starts items) → f < length (drop 1 starts)
  row_in f lt = omega (arith, length-cut 0 (drop 1 starts) items)

  pub row_starts : (f : ℕ) → f ≤ length (rows_from starts items) → sum_by length (take f (rows_from starts items)) ≡ get_or starts f 0
  row_starts f le =
      let n = length-cut 0 (drop 1 starts) items in
      omega (arith, sum-first 0 (drop 1 starts) (length items) items f are.ends (omega arith) (omega (arith, n)), place f)

  pub all_rows : flat_map (λ row. row) (rows_from starts items) ≡ items
  all_rows = flat-cut 0 (drop 1 starts) (length items) items are.ends (omega arith)

  -- where a row begins and ends
  pub row_spans : (f : ℕ) → f < length (rows_from starts items) → (get_or starts f 0 ≤ get_or starts (f + 1) 0) × (get_or starts (f + 1) 0 ≤ length items)
  row_spans f lt =
      let s = span_at 0 (drop 1 starts) (length items) f are.ends (row_in f lt) in
      (omega (arith, s.ordered, place f, end_place f), omega (arith, s.inside, end_place f))

  pub row_at : (f : ℕ) → f < length (rows_from starts items) → get_or (rows_from starts items) f [] ≡ take (get_or starts (f + 1) 0 - get_or starts f 0) (drop (get_or starts f 0) items)
  row_at f lt =
      row_is-cut (drop 1 starts) (length items) items f are.ends (row_in f lt)
      ∙ ap (λ (n : ℕ). take (get_or (drop 1 starts) f 0 - n) (drop n items)) (place f)
      ∙ ap (λ (n : ℕ). take (n - get_or starts f 0) (drop (get_or starts f 0) items)) (end_place f)

  row_long : (f : ℕ) → f < length (rows_from starts items) → length (get_or (rows_from starts items) f []) ≡ get_or starts (f + 1) 0 - get_or starts f 0
  row_long f lt =
      let s = row_spans f lt in
      let n = get_or starts (f + 1) 0 - get_or starts f 0 in
      ap length (row_at f lt) ∙ omega (arith, length-take n (drop (get_or starts f 0) items), length-drop (get_or starts f 0) items, s.0, s.1)

  row_entry : (f k : ℕ) → f < length (rows_from starts items) → k < get_or starts (f + 1) 0 - get_or starts f 0 → get_or (get_or (rows_from starts items) f []) k 0 ≡ get_or items (get_or starts f 0 + k) 0
  row_entry f k lt h =
      ap (λ (row : List ℕ). get_or row k 0) (row_at f lt)
      ∙ get_or-take (get_or starts (f + 1) 0 - get_or starts f 0) (drop (get_or starts f 0) items) k 0 h
      ∙ get_or-drop (get_or starts f 0) items k 0

-- a row of faces that are seen as rows of one table, by what is read of the places
module _ (starts items : List ℕ) (are : AreBounds starts (length items)) (rows : List (List ℕ)) (seen : rows_from starts items ≡ rows) (f : ℕ) (lt : f < length rows) where
  within : f < length (rows_from starts items)
  within = omega (arith, ap length seen, lt)

  pub end_within : f + 1 < length starts
  end_within = omega (arith, row_count starts items are, within)

  module _ (start : ℕ) (first : start ≡ get_or starts f start) where
    start_is : start ≡ get_or starts f 0
    start_is = let some = end_within in get_or_read starts f start (omega arith) first 0

    module _ (end : ℕ) (last : end ≡ get_or starts (f + 1) end) where
      end_is : end ≡ get_or starts (f + 1) 0
      end_is = get_or_read starts (f + 1) end end_within last 0

      pub span_of : (start ≤ end) × (end ≤ length items)
      span_of = let s = row_spans starts items are f within in (omega (arith, s.0, start_is, end_is), omega (arith, s.1, end_is))

      pub row_of : take (end - start) (drop start items) ≡ get_or rows f []
      row_of =
          ap (λ (s : ℕ). take (end - s) (drop s items)) start_is
          ∙ ap (λ (e : ℕ). take (e - get_or starts f 0) (drop (get_or starts f 0) items)) end_is
          ∙ sym (row_at starts items are f within) ∙ ap (λ (faces : List (List ℕ)). get_or faces f []) seen

-- by the places where the faces of a surface begin, the rows are as long as these
pub rows_of : (mesh : Mesh) (starts items : List ℕ) → AreStartsTo mesh (face_count mesh) starts → AreBounds starts (length items) → AreRowsOf mesh items (rows_from starts items)
rows_of mesh starts items to are =
    let count = row_count starts items are in
    let size = to.size in
    let inside : (f : ℕ) → f < face_count mesh → f < length (rows_from starts items) = λ f lt. omega arith in
    let long : (f : ℕ) → f < face_count mesh → get_or starts (f + 1) 0 - get_or starts f 0 ≡ length (face_at mesh f) = λ f lt.
    let sp = spans mesh.faces f lt in
    omega (arith, to.at f (omega arith), to.at (f + 1) (omega arith), sp.0) in
    record {
      size = omega arith;
      row_sizes = λ f lt. row_long starts items are f (inside f lt) ∙ long f lt;
      entries = λ f k lt h.
          row_entry starts items are f k (inside f lt) (omega (arith, long f lt))
          ∙ ap (λ (s : ℕ). get_or items (s + k) 0) (to.at f (omega arith));
    }

pub bounds_of : (mesh : Mesh) (starts items : List ℕ) → AreStartsTo mesh (face_count mesh) starts → length items ≡ side_count mesh → AreBounds starts (length items)
bounds_of mesh starts items to all = subst (AreBounds starts) (ap (sum_by length) (take-length mesh.faces) ∙ sym all) to.bounds

-- at first there is the beginning
pub starts_none : (mesh : Mesh) → AreStartsTo mesh 0 (0 ∷ [])
starts_none mesh = record {
  bounds = record { some = omega arith; first = refl; ends = refl };
  size = refl;
  at = λ f h. let z : f ≡ 0 = omega arith in ap (λ (f : ℕ). get_or (0 ∷ []) f 0) z ∙ ap (first_side mesh) (sym z);
}

drop_push : (starts : List ℕ) (x : ℕ) → 0 < length starts → drop 1 (starts ++ x ∷ []) ≡ drop 1 starts ++ x ∷ []
drop_push [] x some = absurd (omega arith)
drop_push (s ∷ ends) x some = refl

-- one face more
pub starts_more : (mesh : Mesh) (f end : ℕ) (starts : List ℕ) → f < face_count mesh → AreStartsTo mesh f starts → end ≡ first_side mesh f + length (face_at mesh f) → AreStartsTo mesh (f + 1) (starts ++ end ∷ [])
starts_more mesh f end starts lt to is =
    let b = to.bounds in
    let some = b.some in
    let size = to.size in
    let sp = spans mesh.faces f lt in
    let here : end ≡ first_side mesh (f + 1) = omega (arith, sp.0) in
    let n = length_push starts end in
    let early : (k : ℕ) → k < length starts → get_or (starts ++ end ∷ []) k 0 ≡ get_or starts k 0 = λ k h. get_or_append_left starts (end ∷ []) 0 k h in
    let pushed : AreEnds 0 (drop 1 starts ++ (first_side mesh f + length (face_at mesh f)) ∷ []) (first_side mesh f + length (face_at mesh f)) = ends_push 0 (drop 1 starts) (first_side mesh f) (length (face_at mesh f)) b.ends in
    let ends : AreEnds 0 (drop 1 starts ++ end ∷ []) end = subst (λ (e : ℕ). AreEnds 0 (drop 1 starts ++ e ∷ []) e) (sym is) pushed in
    record {
      bounds = record {
        some = omega arith;
        first = early 0 some ∙ b.first;
        ends = subst (λ (xs : List ℕ). AreEnds 0 xs (first_side mesh (f + 1))) (sym (drop_push starts end some)) (subst (AreEnds 0 (drop 1 starts ++ end ∷ [])) here ends);
      };
      size = omega arith;
      at = λ g h. elim (cases_eq g (f + 1)) [
        | inl e ↦ ap (λ (g : ℕ). get_or (starts ++ end ∷ []) g 0) e ∙ get_or_push starts end 0 (f + 1) (omega arith) ∙ here ∙ ap (first_side mesh) (sym e)
        | inr ne ↦ early g (omega arith) ∙ to.at g (omega arith)
      ];
    }

-- faces whose corners are the numbers of labels
pub rows_copied : (mesh : Mesh) (labels numbers corners : List ℕ) (faces : List (List ℕ)) → ((s : ℕ) → s < side_count mesh → get_or corners s 0 ≡ get_or numbers (get_or labels s 0) 0) → AreRowsOf mesh corners faces → AreCopied mesh labels numbers (face_count mesh) faces
rows_copied mesh labels numbers corners faces renumbered are = record {
  size = are.size;
  row_sizes = are.row_sizes;
  entries = λ f k lt h.
      let sp = spans mesh.faces f lt in
      are.entries f k lt h ∙ renumbered (first_side mesh f + k) (omega (arith, sp.0, sp.1));
}
