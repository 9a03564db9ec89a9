use Rattle.surf_sew.proofs.Common.{◌≡◌, ◌≤◌, ◌+◌, length, is_line_end, parts_of, word_lines_from, copies_among, copy_lines, origins_from}
use Rattle.surf_sew.proofs.CopyLines.{with_origins}
use Rattle.surf_sew.proofs.copies.read_copies.Given as goal

abbrev pub invariant-loop-marked : goal.invariant-loop-marked
invariant-loop-marked l = record {
  fits : l.number + length (parts_of is_line_end l.rest) ≤ 268435457;
  few : length l.origins.items ≤ l.number;
  so_far : with_origins l.origins.items (origins_from (length l.origins.items) (copies_among (word_lines_from (l.number + 1) (parts_of is_line_end l.rest)))) ≡ origins_from 0 (copy_lines l.fn.text);
}

abbrev pub decreases-loop-marked : goal.decreases-loop-marked
decreases-loop-marked l = length (parts_of is_line_end l.rest)
