use Rattle.std.proofs.Common.{◌≡◌, ◌≢◌, ℕ, ◌<◌, get_or}
use Rattle.surf_slit.proofs.labelling.label_whole.Given as goal

abbrev pub invariant-loop-side : goal.invariant-loop-side
invariant-loop-side l = record {
  here : (j : ℕ) → j < l.side-index → get_or l.labels (get_or l.side-items j 0) 0 ≡ l.v;
  kept : (s : ℕ) → ((j : ℕ) → j < l.side-index → get_or l.side-items j 0 ≢ s) → get_or l.labels s 0 ≡ get_or l.initial.labels s 0;
}
