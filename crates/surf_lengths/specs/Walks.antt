-- A walk over the lines that name edges.
use Rattle.std.specs.Prelude.{◌≡◌, ℕ, List, [], ◌∷◌, Option, Some, None, Result, Ok, Err}
use Rattle.surf_text.specs.Text.{TextLine}
use Rattle.surf_surfaces.specs.Mesh.{Mesh}
use Rattle.surf_lengths.specs.Lines.{entry_of}
use Rattle.surf_lengths.specs.declared.fault.LengthFault.{LengthFault}
use Rattle.surf_lengths.specs.declared.line.Entry.{Entry}

-- what is read of a line is what it says
abbrev pub Says : Result Entry LengthFault → Result (ℕ × ℕ) LengthFault → Type 0
Says (Ok entry) said = said ≡ Ok (entry.edge, entry.length)
Says (Err fault) said = said ≡ Err fault

-- the first of the lines to come is taken, and this is what it says
pub record IsEntry (mesh : Mesh) (old new : List TextLine) (entry : Entry) : Type 0 where
  pub line : TextLine
  pub first : old ≡ line ∷ new
  pub number : line.number ≡ entry.line
  pub said : entry_of mesh line ≡ Ok (entry.edge, entry.length)

-- the first of the lines to come has this fault
pub record IsFaulty (mesh : Mesh) (old : List TextLine) (fault : LengthFault) : Type 0 where
  pub line : TextLine
  pub rest : List TextLine
  pub first : old ≡ line ∷ rest
  pub said : entry_of mesh line ≡ Err fault

-- what the next line says, if there is one
abbrev pub GivesEntry : Mesh → List TextLine → List TextLine → Result (Option Entry) LengthFault → Type 0
GivesEntry mesh old new (Ok None) = old ≡ []
GivesEntry mesh old new (Ok (Some entry)) = IsEntry mesh old new entry
GivesEntry mesh old new (Err fault) = IsFaulty mesh old fault
