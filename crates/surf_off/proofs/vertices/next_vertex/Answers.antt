use Rattle.std.proofs.Common.{sym, ◌∙◌}
use Rattle.surf_text.specs.Walks.{placed_line, lines_ahead}
use Rattle.surf_off.proofs.VertexLines.{first_early, first_long, first_short}
use Rattle.surf_off.proofs.vertices.next_vertex.Goals as goal

pub returns-in_default-clause-line : goal.returns-in_default-clause-line
returns-in_default-clause-line c = λ other. first_early c.args.vertices c.args.faces c.requires.some (lines_ahead c.args.lines.now) c.in_default.ensures.next.0

pub returns-then-has_tokens-clause-line : goal.returns-then-has_tokens-clause-line
returns-then-has_tokens-clause-line c = first_long c.args.vertices c.args.faces c.requires.some (lines_ahead c.args.lines.now) (placed_line c.in-Some.line) (lines_ahead c.next_line.new.self) c.in-Some.ensures.next (sym c.has_tokens.ensures.count ∙ c.if-has_tokens.true)

pub returns-else-has_tokens-clause-line : goal.returns-else-has_tokens-clause-line
returns-else-has_tokens-clause-line c = λ other. first_short c.args.vertices c.args.faces c.requires.some (lines_ahead c.args.lines.now) (placed_line c.in-Some.line) (lines_ahead c.next_line.new.self) c.in-Some.ensures.next (sym c.has_tokens.ensures.count ∙ c.if-has_tokens.false)
