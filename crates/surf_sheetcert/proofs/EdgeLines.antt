-- Edges with the numbers of their cocycles, one after the other.
use Rattle.surf_cert.proofs.Common.{◌≡◌, ◌<◌, ◌≤◌, ◌+◌, ◌-◌, ℕ, suc, List, [], ◌∷◌, ◌++◌, Option, Some, None, Result, Ok, Err, refl, sym, ◌∙◌, ap, append_assoc, append-nil, arith, map, fold, TextLine, ◌>>=◌, next_of}
use Rattle.surf_cert.specs.declared.fault.CertText.{CertText}
use Rattle.surf_cert.proofs.RowLines.{with_rows, onto_fold}
use Rattle.surf_sheetcert.specs.Lines.{Cocycles, cocycles_on}
use Rattle.surf_sheetcert.specs.Grammar.{Tables, edges_of, tables_of}

-- an edge and its numbers behind those of the tables
abbrev pub push_edge : Tables → Cocycles → Tables
push_edge t row = (t.0 ++ row.0 ∷ [], t.1 ++ row.1 ∷ [])

fold_edges : (t : Tables) (rows : List Cocycles)
    → fold push_edge t rows ≡ (t.0 ++ map (λ row. row.0) rows, t.1 ++ map (λ row. row.1) rows)
fold_edges t [] = λ i. (sym (append-nil t.0) i, sym (append-nil t.1) i)
fold_edges t (row ∷ rows) =
    fold_edges (push_edge t row) rows
    ∙ (λ i. (append_assoc t.0 (row.0 ∷ []) (map (λ row. row.0) rows) i, append_assoc t.1 (row.1 ∷ []) (map (λ row. row.1) rows) i))

-- at the start no edge is read
pub tables_start : (k n : ℕ) (lines : List TextLine)
    → with_rows push_edge ([], []) (edges_of k None n lines) ≡ tables_of k n lines
unfolding tables_of
tables_start k n lines = at (edges_of k None n lines)
  where
    at : (read : Result (List Cocycles × List TextLine) CertText)
        → with_rows push_edge ([], []) read ≡ (read >>= λ rows. Ok ((map (λ row. row.0) rows.0, map (λ row. row.1) rows.0), rows.1))
    at (Ok rows) = ap (λ (t : Tables). Ok (t, rows.1)) (fold_edges ([], []) rows.0)
    at (Err e) = refl

module _ (k n done : ℕ) (before : Option (ℕ × ℕ)) (s : Tables) (lines : List TextLine) (total : Result (Tables × List TextLine) CertText)
    (so_far : with_rows push_edge s (edges_of k before (n - done) lines) ≡ total) where
  pub edge_more : (x : Cocycles) (rest : List TextLine) → done < n → next_of (cocycles_on k before) lines ≡ Ok (x, rest)
      → with_rows push_edge (push_edge s x) (edges_of k (Some x.0) (n - (done + 1)) rest) ≡ total
  unfolding edges_of
  edge_more x rest lt good =
      let left : n - done ≡ suc (n - (done + 1)) = omega arith in
      let one : with_rows push_edge s (edges_of k before (n - done) lines) ≡ with_rows push_edge (push_edge s x) (edges_of k (Some x.0) (n - (done + 1)) rest) = rw (left, good) (onto_fold push_edge s x (edges_of k (Some x.0) (n - (done + 1)) rest)) in
      sym one ∙ so_far

  pub edge_bad : (e : CertText) → done < n → next_of (cocycles_on k before) lines ≡ Err e → total ≡ Err e
  unfolding edges_of
  edge_bad e lt bad =
      let left : n - done ≡ suc (n - (done + 1)) = omega arith in
      let one : with_rows push_edge s (edges_of k before (n - done) lines) ≡ Err e = rw (left, bad) refl in
      sym so_far ∙ one

  pub edges_done : n ≤ done → total ≡ Ok (s, lines)
  unfolding edges_of
  edges_done le =
      let none : n - done ≡ 0 = omega arith in
      let one : with_rows push_edge s (edges_of k before (n - done) lines) ≡ Ok (s, lines) = rw none refl in
      sym so_far ∙ one
