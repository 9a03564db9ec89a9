-- The lengths of a file are as many as the edges.
use Rattle.surf_surfaces.proofs.Common.{◌≡◌, ℕ, Bool, true, false, cond, List, [], ◌∷◌, length, Option, Some, None, Result, Ok, Err, ◌∙◌, eqb, get_or, set, length-set, length-replicate, Mesh, edge_count, fold, unwrap_or}
use Rattle.surf_text.specs.Text.{TextLine, lines_of}
use Rattle.surf_base.specs.Gives.{◌>>=◌}
use Rattle.surf_lengths.specs.Files.{Named, none_named, name_edge, name_line, all_named, missing_edge, Head, length_head, lengths_in}
use Rattle.surf_lengths.specs.Lines.{entry_of}
use Rattle.surf_lengths.specs.declared.fault.LengthFault.{LengthFault}
use Rattle.surf_lengths.specs.declared.fault.LengthFault.TheVariants.{Twice}

-- a result has a length for each edge
abbrev pub IsSized : Mesh → Result (List ℕ) LengthFault → Type 0
IsSized mesh (Ok lengths) = length lengths ≡ edge_count mesh
IsSized mesh (Err fault) = Unit {0}

abbrev pub IsNamedFor : Mesh → Result Named LengthFault → Type 0
IsNamedFor mesh (Ok named) = length named.lengths ≡ edge_count mesh
IsNamedFor mesh (Err fault) = Unit {0}

edge_keeps : (mesh : Mesh) (named : Named) (line : ℕ) (entry : Result (ℕ × ℕ) LengthFault) → length named.lengths ≡ edge_count mesh →
    IsNamedFor mesh (entry >>= name_edge named line)
edge_keeps mesh named line (Err fault) sized = tt
edge_keeps mesh named line (Ok x) sized = pick (eqb (get_or named.lines x.0 0) 0)
  where
    pick : (b : Bool) → IsNamedFor mesh (cond b (Ok (record { lengths = set named.lengths x.0 x.1; lines = set named.lines x.0 line })) (Err (Twice line (get_or named.lines x.0 0))))
    pick true = length-set named.lengths x.0 x.1 ∙ sized
    pick false = tt

line_keeps : (mesh : Mesh) (r : Result Named LengthFault) (line : TextLine) → IsNamedFor mesh r → IsNamedFor mesh (name_line mesh r line)
unfolding name_line
line_keeps mesh (Err fault) line sized = tt
line_keeps mesh (Ok named) line sized = edge_keeps mesh named line.number (entry_of mesh line) sized

lines_keep : (mesh : Mesh) (lines : List TextLine) (r : Result Named LengthFault) → IsNamedFor mesh r → IsNamedFor mesh (fold (name_line mesh) r lines)
lines_keep mesh [] r sized = sized
lines_keep mesh (line ∷ lines) r sized = lines_keep mesh lines (name_line mesh r line) (line_keeps mesh r line sized)

read_sized : (mesh : Mesh) (default : Option ℕ) (r : Result Named LengthFault) → IsNamedFor mesh r → IsSized mesh (r >>= λ named. all_named mesh named (missing_edge default named.lines))
read_sized mesh default (Err fault) sized = tt
read_sized mesh default (Ok named) sized = pick (missing_edge default named.lines)
  where
    pick : (o : Option ℕ) → IsSized mesh (all_named mesh named o)
    pick None = sized
    pick (Some e) = tt

pub lengths_sized : (mesh : Mesh) (text : List ℕ) → IsSized mesh (lengths_in mesh text)
lengths_sized mesh text = at (length_head (lines_of text))
  where
    at : (r : Result Head LengthFault) → IsSized mesh (r >>= λ head.
        fold (name_line mesh) (Ok (none_named mesh head.default)) head.entries >>= λ named.
        all_named mesh named (missing_edge head.default named.lines))
    at (Err fault) = tt
    at (Ok head) = read_sized mesh head.default _ (lines_keep mesh head.entries (Ok (none_named mesh head.default))
        (length-replicate (edge_count mesh) (unwrap_or head.default 0)))
