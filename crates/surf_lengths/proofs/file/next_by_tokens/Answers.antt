use Rattle.surf_surfaces.proofs.Common.{arith, ◌+◌, drop, slice_split}
use Rattle.surf_text.specs.Text.{is_line_end}
use Rattle.surf_text.specs.Walks.{lines_ahead, placed_line}
use Rattle.surf_lengths.proofs.Naming.{numbered_more}
use Rattle.surf_lengths.proofs.file.next_by_tokens.Goals as goal

pub returns-clause-numbered : goal.returns-clause-numbered
returns-clause-numbered c =
    let walk = c.args.lines.now in
    let least = numbered_more (walk.number + 1) (slice_split is_line_end (drop walk.at walk.text)) (placed_line c.in-Some.line) (lines_ahead c.next_line.new.self) c.in-Some.ensures.next in
    omega (arith, least, c.in_ok-entry.ensures.line)
