use Rattle.surf_cert.proofs.Common.{◌≡◌, ◌-◌, trees_of}
use Rattle.surf_cert.proofs.RowLines.{with_rows, push_one}
use Rattle.surf_cert.proofs.sections.read_trees.Given as goal

abbrev pub invariant-loop-base : goal.invariant-loop-base
invariant-loop-base l = with_rows push_one l.trees.items (trees_of l.base l.vertices (l.vertices - l.base) l.lines) ≡ trees_of 0 l.vertices l.vertices l.fn.lines
