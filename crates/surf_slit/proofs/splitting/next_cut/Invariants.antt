use Rattle.surf_slit.proofs.Common.{◌≡◌, ℕ, ◌<◌, length, false, place, cut_behind}
use Rattle.surf_slit.proofs.splitting.next_cut.Given as goal

abbrev pub invariant-loop-steps : goal.invariant-loop-steps
invariant-loop-steps l = (d : ℕ) → d < l.steps → cut_behind l.edges l.cut (place (length l.edges) l.from d) ≡ false
