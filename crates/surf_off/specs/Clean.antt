-- Pieces of lines that may be written as they are.
use Rattle.std.specs.Prelude.{◌≡◌, ◌≤◌, ℕ, false, List, length}
use Rattle.std.specs.List.{All, list_any}
use Rattle.surf_text.specs.Text.{is_line_end, is_comment_sign, tokens_of, trimmed}
use Rattle.surf_off.specs.Off.{OffParts}

-- no line end and no comment sign in it, and no blank at its ends
pub record IsClean (bytes : List ℕ) : Type 0 where
  pub one_line : list_any is_line_end bytes ≡ false
  pub uncommented : list_any is_comment_sign bytes ≡ false
  pub trimmed : trimmed bytes ≡ bytes

pub record IsVertexLine (bytes : List ℕ) : Type 0 where
  pub clean : IsClean bytes
  pub tokens : 3 ≤ length (tokens_of bytes)

-- what an OFF text of the code keeps
pub record IsOffParts (parts : OffParts) : Type 0 where
  pub vertex_lines : All IsVertexLine parts.vertex_lines
  pub colours : All IsClean parts.colours
