use Rattle.std.proofs.Common.{◌≡◌, ◌<◌, ℕ}
use Rattle.surf_cutter.specs.Copies.{label_at}
use Rattle.surf_cutter.proofs.copies.have_one_label.Given as goal

abbrev pub invariant-loop-side : goal.invariant-loop-side
invariant-loop-side l = (k : ℕ) → k < l.side-index → label_at l.sides l.labels k ≡ label_at l.sides l.labels 0
