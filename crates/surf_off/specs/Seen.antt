-- Parts of the code as those of the format.
use Rattle.std.specs.Prelude.{ℕ, List, take, drop}
use Rattle.surf_text.specs.Text.{TextLine}
use Rattle.surf_off.specs.Off.{Head}
use Rattle.surf_off.specs.declared.head.Head.{Head as Read}
use Rattle.surf_off.specs.declared.parts.Span.{Span}

abbrev pub head_seen : Read → List TextLine → Head
head_seen h lines = record { header = h.header; number = h.number; counts = h.counts.tokens; lines = lines }

-- the bytes of a text that stand there
abbrev pub part_of : List ℕ → Span → List ℕ
part_of text span = take span.len (drop span.start text)

-- a text and parts of it
pub record PartList : Type 0 where
  pub text : List ℕ
  pub parts : List (List ℕ)
