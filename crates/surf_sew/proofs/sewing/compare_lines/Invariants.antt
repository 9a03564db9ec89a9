use Rattle.std.proofs.Common.{◌≡◌, ◌<◌, ℕ, false}
use Rattle.surf_sew.proofs.Faults.{differs}
use Rattle.surf_sew.proofs.sewing.compare_lines.Given as goal

abbrev pub invariant-loop-c : goal.invariant-loop-c
invariant-loop-c l = (k : ℕ) → k < l.c → differs l.text.vertex_lines l.origins k ≡ false
