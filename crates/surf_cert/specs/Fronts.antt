-- A certificate of loops whose text goes while it is read.
use Rattle.std.specs.Prelude.{◌-◌, ◌/◌, ◌++◌, ℕ, Bool, false, List, [], ◌∷◌, codes, map, Result, Ok}
use Rattle.surf_base.specs.Gives.{◌>>=◌}
use Rattle.surf_text.specs.Text.{TextLine, tokens_of}
use Rattle.surf_validity.specs.Rows.{TreeRows, DualRows, LoopCert}
use Rattle.surf_cert.specs.Lines.{is_header, counts_of, base_of, the_word, dual_row}
use Rattle.surf_cert.specs.Grammar.{Read, next_of, rows_of, based_tree, left_of, ended}
use Rattle.surf_cert.specs.declared.fault.CertText.{CertText}
use Rattle.surf_cert.specs.declared.fault.CertText.TheVariants.{Trailing}
use Rattle.surf_cert.specs.declared.line.Counts.{Counts}

-- the rows of so many more faces behind some
unfoldable pub more_faces : DualRows → ℕ → List TextLine → Read DualRows
more_faces dual n lines = rows_of dual_row n lines >>= λ rows.
    Ok (record { depth = dual.depth ++ map (λ row. row.0) rows.0; side = dual.side ++ map (λ row. row.1) rows.0 }, rows.1)

-- the counts, the tree and the rows of some faces
abbrev pub Front : Type 0
Front = Counts × TreeRows × DualRows

-- of how many faces the front has the rows
abbrev pub front_faces : Counts → ℕ
front_faces counts = counts.faces / 3

-- the front of a loop certificate, behind its first line
unfoldable pub front_in : List TextLine → Read Front
front_in lines = do
  counts ← next_of counts_of lines
  tree ← based_tree base_of counts.0.vertices counts.1
  word ← next_of (the_word (codes "dual")) tree.1
  dual ← more_faces (record { depth = []; side = [] }) (front_faces counts.0) word.1
  Ok ((counts.0, tree.0, dual.0), dual.1)

-- the loop certificate, by its front and the lines behind that
unfoldable pub behind_front : Front → List TextLine → Result LoopCert CertText
behind_front front lines = do
  dual ← more_faces front.2 (front.0.faces - front_faces front.0) lines
  left ← left_of front.0.left dual.1
  ended Trailing left.1 (record { tree = front.1; dual = dual.0; left = left.0 })

-- whether the first line is that of a loop certificate
abbrev pub begins_loops : List TextLine → Bool
begins_loops [] = false
begins_loops (line ∷ lines) = is_header (codes "loops") (tokens_of line.bytes)
