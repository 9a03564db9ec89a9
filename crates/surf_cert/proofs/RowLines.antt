-- Lines of one form, one after the other.
use Rattle.surf_cert.proofs.Common.{◌≡◌, ◌<◌, ◌≤◌, ◌+◌, ◌-◌, ℕ, suc, List, [], ◌∷◌, ◌++◌, Option, Some, Result, Ok, Err, refl, sym, ◌∙◌, ap, append_assoc, append-nil, arith, map, fold, TextLine, CertText, TreeRows, DualRows, tree_row, dual_row, pair_behind, base_at, ◌>>=◌, next_of, onto_rows, based_tree}
use Rattle.surf_cert.specs.Fronts.{more_faces}
use Rattle.surf_cert.specs.Grammar.{rows_of, pairs_of, tree_of, trees_of}

-- what was made of the rows so far, and of those that are still read
abbrev pub with_rows : {A S : Type 0} → (S → A → S) → S → Result (List A × List TextLine) CertText
    → Result (S × List TextLine) CertText
with_rows push s (Ok rest) = Ok (fold push s rest.0, rest.1)
with_rows push s (Err e) = Err e

pub onto_fold : {A S : Type 0} (push : S → A → S) (s : S) (x : A) (read : Result (List A × List TextLine) CertText)
    → with_rows push s (onto_rows x read) ≡ with_rows push (push s x) read
onto_fold push s x (Ok rest) = refl
onto_fold push s x (Err e) = refl

module _ {A S : Type 0} (form : List (List ℕ) → Option A) (push : S → A → S) (n done : ℕ) (s : S) (lines : List TextLine) (total : Result (S × List TextLine) CertText)
    (so_far : with_rows push s (rows_of form (n - done) lines) ≡ total) where
  pub row_more : (x : A) (rest : List TextLine) → done < n → next_of form lines ≡ Ok (x, rest)
      → with_rows push (push s x) (rows_of form (n - (done + 1)) rest) ≡ total
  unfolding rows_of
  row_more x rest lt good =
      let k : n - done ≡ suc (n - (done + 1)) = omega arith in
      let one : with_rows push s (rows_of form (n - done) lines) ≡ with_rows push (push s x) (rows_of form (n - (done + 1)) rest) = rw (k, good) (onto_fold push s x (rows_of form (n - (done + 1)) rest)) in
      sym one ∙ so_far

  pub row_bad : (e : CertText) → done < n → next_of form lines ≡ Err e → total ≡ Err e
  unfolding rows_of
  row_bad e lt bad =
      let k : n - done ≡ suc (n - (done + 1)) = omega arith in
      let one : with_rows push s (rows_of form (n - done) lines) ≡ Err e = rw (k, bad) refl in
      sym so_far ∙ one

  pub rows_done : n ≤ done → total ≡ Ok (s, lines)
  unfolding rows_of
  rows_done le =
      let k : n - done ≡ 0 = omega arith in
      let one : with_rows push s (rows_of form (n - done) lines) ≡ Ok (s, lines) = rw k refl in
      sym so_far ∙ one

-- the rows of a tree, one more
abbrev pub push_vertex : TreeRows → ℕ × Option ℕ → TreeRows
push_vertex t row = record { base = t.base; distance = t.distance ++ row.0 ∷ []; parent = t.parent ++ row.1 ∷ [] }

abbrev pub push_face : DualRows → ℕ × Option (ℕ × ℕ) → DualRows
push_face t row = record { depth = t.depth ++ row.0 ∷ []; side = t.side ++ row.1 ∷ [] }

abbrev pub push_one : {A : Type 0} → List A → A → List A
push_one xs x = xs ++ x ∷ []

fold_vertices : (t : TreeRows) (rows : List (ℕ × Option ℕ))
    → fold push_vertex t rows ≡ record { base = t.base; distance = t.distance ++ map (λ row. row.0) rows; parent = t.parent ++ map (λ row. row.1) rows }
fold_vertices t [] = λ i. record { base = t.base; distance = sym (append-nil t.distance) i; parent = sym (append-nil t.parent) i }
fold_vertices t (row ∷ rows) =
    fold_vertices (push_vertex t row) rows
    ∙ (λ i. record { base = t.base; distance = append_assoc t.distance (row.0 ∷ []) (map (λ row. row.0) rows) i; parent = append_assoc t.parent (row.1 ∷ []) (map (λ row. row.1) rows) i })

fold_faces : (t : DualRows) (rows : List (ℕ × Option (ℕ × ℕ)))
    → fold push_face t rows ≡ record { depth = t.depth ++ map (λ row. row.0) rows; side = t.side ++ map (λ row. row.1) rows }
fold_faces t [] = λ i. record { depth = sym (append-nil t.depth) i; side = sym (append-nil t.side) i }
fold_faces t (row ∷ rows) =
    fold_faces (push_face t row) rows
    ∙ (λ i. record { depth = append_assoc t.depth (row.0 ∷ []) (map (λ row. row.0) rows) i; side = append_assoc t.side (row.1 ∷ []) (map (λ row. row.1) rows) i })

pub fold_list : {A : Type 0} (front xs : List A) → fold push_one front xs ≡ front ++ xs
fold_list front [] = sym (append-nil front)
fold_list front (x ∷ xs) = fold_list (front ++ x ∷ []) xs ∙ append_assoc front (x ∷ []) xs

-- at the start no row is read
pub tree_start : (base v : ℕ) (lines : List TextLine)
    → with_rows push_vertex (record { base = base; distance = []; parent = [] }) (rows_of tree_row v lines) ≡ tree_of base v lines
unfolding tree_of
tree_start base v lines = at (rows_of tree_row v lines)
  where
    at : (read : Result (List (ℕ × Option ℕ) × List TextLine) CertText)
        → with_rows push_vertex (record { base = base; distance = []; parent = [] }) read ≡ (read >>= λ rows. Ok (record { base = base; distance = map (λ row. row.0) rows.0; parent = map (λ row. row.1) rows.0 }, rows.1))
    at (Ok rows) = ap (λ (t : TreeRows). Ok (t, rows.1)) (fold_vertices (record { base = base; distance = []; parent = [] }) rows.0)
    at (Err e) = refl

pub faces_start : (dual : DualRows) (f : ℕ) (lines : List TextLine)
    → with_rows push_face dual (rows_of dual_row f lines) ≡ more_faces dual f lines
unfolding more_faces
faces_start dual f lines = at (rows_of dual_row f lines)
  where
    at : (read : Result (List (ℕ × Option (ℕ × ℕ)) × List TextLine) CertText)
        → with_rows push_face dual read ≡ (read >>= λ rows. Ok (record { depth = dual.depth ++ map (λ row. row.0) rows.0; side = dual.side ++ map (λ row. row.1) rows.0 }, rows.1))
    at (Ok rows) = ap (λ (t : DualRows). Ok (t, rows.1)) (fold_faces dual rows.0)
    at (Err e) = refl

-- the same for a list of rows
pub list_start : {A : Type 0} (read : Result (List A × List TextLine) CertText) → with_rows push_one [] read ≡ read
list_start (Ok rows) = ap (λ xs. Ok (xs, rows.1)) (fold_list [] rows.0)
list_start (Err e) = refl

-- pairs, each behind the one before
module _ (n done : ℕ) (before : Option (ℕ × ℕ)) (s : List (ℕ × ℕ)) (lines : List TextLine) (total : Result (List (ℕ × ℕ) × List TextLine) CertText)
    (so_far : with_rows push_one s (pairs_of before (n - done) lines) ≡ total) where
  pub pair_more : (x : ℕ × ℕ) (rest : List TextLine) → done < n → next_of (pair_behind before) lines ≡ Ok (x, rest)
      → with_rows push_one (s ++ x ∷ []) (pairs_of (Some x) (n - (done + 1)) rest) ≡ total
  unfolding pairs_of
  pair_more x rest lt good =
      let k : n - done ≡ suc (n - (done + 1)) = omega arith in
      let one : with_rows push_one s (pairs_of before (n - done) lines) ≡ with_rows push_one (s ++ x ∷ []) (pairs_of (Some x) (n - (done + 1)) rest) = rw (k, good) (onto_fold push_one s x (pairs_of (Some x) (n - (done + 1)) rest)) in
      sym one ∙ so_far

  pub pair_bad : (e : CertText) → done < n → next_of (pair_behind before) lines ≡ Err e → total ≡ Err e
  unfolding pairs_of
  pair_bad e lt bad =
      let k : n - done ≡ suc (n - (done + 1)) = omega arith in
      let one : with_rows push_one s (pairs_of before (n - done) lines) ≡ Err e = rw (k, bad) refl in
      sym so_far ∙ one

  pub pairs_done : n ≤ done → total ≡ Ok (s, lines)
  unfolding pairs_of
  pairs_done le =
      let k : n - done ≡ 0 = omega arith in
      let one : with_rows push_one s (pairs_of before (n - done) lines) ≡ Ok (s, lines) = rw k refl in
      sym so_far ∙ one

-- trees, each from the vertex behind that of the one before
module _ (v n done : ℕ) (s : List TreeRows) (lines : List TextLine) (total : Result (List TreeRows × List TextLine) CertText)
    (so_far : with_rows push_one s (trees_of done v (n - done) lines) ≡ total) where
  pub tree_more : (x : TreeRows) (rest : List TextLine) → done < n → based_tree (base_at done) v lines ≡ Ok (x, rest)
      → with_rows push_one (s ++ x ∷ []) (trees_of (done + 1) v (n - (done + 1)) rest) ≡ total
  unfolding trees_of
  tree_more x rest lt good =
      let k : n - done ≡ suc (n - (done + 1)) = omega arith in
      let one : with_rows push_one s (trees_of done v (n - done) lines) ≡ with_rows push_one (s ++ x ∷ []) (trees_of (done + 1) v (n - (done + 1)) rest) = rw (k, good) (onto_fold push_one s x (trees_of (done + 1) v (n - (done + 1)) rest)) in
      sym one ∙ so_far

  pub tree_bad : (e : CertText) → done < n → based_tree (base_at done) v lines ≡ Err e → total ≡ Err e
  unfolding trees_of
  tree_bad e lt bad =
      let k : n - done ≡ suc (n - (done + 1)) = omega arith in
      let one : with_rows push_one s (trees_of done v (n - done) lines) ≡ Err e = rw (k, bad) refl in
      sym so_far ∙ one

  pub trees_done : n ≤ done → total ≡ Ok (s, lines)
  unfolding trees_of
  trees_done le =
      let k : n - done ≡ 0 = omega arith in
      let one : with_rows push_one s (trees_of done v (n - done) lines) ≡ Ok (s, lines) = rw k refl in
      sym so_far ∙ one
