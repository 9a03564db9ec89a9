use Rattle.surf_slit.proofs.Common.{◌≡◌, ◌≢◌, ℕ, ◌<◌, length, get_or, place}
use Rattle.surf_slit.proofs.splitting.relabel.Given as goal

abbrev pub invariant-loop-steps : goal.invariant-loop-steps
invariant-loop-steps l = record {
  split : (d : ℕ) → d < l.steps → get_or l.labels (get_or l.ring (place (length l.ring) l.from d) 0) 0 ≡ l.label;
  kept : (s : ℕ) → ((d : ℕ) → d < l.steps → get_or l.ring (place (length l.ring) l.from d) 0 ≢ s) → get_or l.labels s 0 ≡ get_or l.initial.labels s 0;
}
