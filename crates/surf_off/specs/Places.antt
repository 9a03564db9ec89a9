-- Places of the parts of a text, without the text.
use Rattle.std.specs.Prelude.{ℕ, ◌+◌, ◌≤◌, List, [], ◌++◌, map, replicate}
use Rattle.std.specs.List.{All}
use Rattle.surf_off.specs.Off.{OffParts}
use Rattle.surf_off.specs.Seen.{part_of}
use Rattle.surf_off.specs.declared.header.Header.{Header as Keyword}
use Rattle.surf_off.specs.declared.parts.Span.{Span}

-- the keyword, where the vertex lines stand, how many faces come before the first with a colour, and where the colours
-- from there on stand
pub record Places : Type 0 where
  pub header : Keyword
  pub vertex_lines : List Span
  pub before : ℕ
  pub colours : List Span

-- all of them end within so many bytes
abbrev pub EndWithin : ℕ → List Span → Type 0
EndWithin n spans = All (λ span. span.start + span.len ≤ n) spans

pub record AreWithin (n : ℕ) (places : Places) : Type 0 where
  pub vertex_lines : EndWithin n places.vertex_lines
  pub colours : EndWithin n places.colours

-- what stands there in a text
abbrev pub parts_at : List ℕ → Places → OffParts
parts_at text places = record {
  header = places.header;
  vertex_lines = map (part_of text) places.vertex_lines;
  colours = replicate places.before [] ++ map (part_of text) places.colours;
}
