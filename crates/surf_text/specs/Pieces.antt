-- A text in pieces.
use Rattle.std.specs.Prelude.{ℕ, List, [], ◌∷◌, ◌++◌, decimal}
use Rattle.surf_text.specs.declared.pieces.Piece.{Piece}
use Rattle.surf_text.specs.declared.pieces.Piece.TheVariants.{Bytes, Whole}

abbrev pub piece_text : Piece → List ℕ
piece_text (Bytes bytes) = bytes.now
piece_text (Whole n) = decimal n

-- one after the other
abbrev pub pieces_text : List Piece → List ℕ
pieces_text [] = []
pieces_text (piece ∷ pieces) = piece_text piece ++ pieces_text pieces
