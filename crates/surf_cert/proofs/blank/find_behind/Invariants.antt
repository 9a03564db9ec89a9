use Rattle.surf_cert.proofs.Common.{◌≡◌, ◌≤◌, ◌+◌, ◌-◌, length, drop, lines_of}
use Rattle.surf_cert.proofs.BlankLines.{from_line}
use Rattle.surf_cert.proofs.blank.find_behind.Given as goal

abbrev pub invariant-loop-left : goal.invariant-loop-left
invariant-loop-left l = record {
  few : l.lines ≤ l.at;
  inside : l.at ≤ length l.text;
  same : drop l.left (from_line (l.lines + 1) (drop l.at l.text)) ≡ drop l.count (lines_of l.text);
}

abbrev pub decreases-loop-left : goal.decreases-loop-left
decreases-loop-left l = length l.text - l.at
