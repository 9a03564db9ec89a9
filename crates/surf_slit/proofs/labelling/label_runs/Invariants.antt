use Rattle.surf_slit.proofs.Common.{◌≡◌, ◌≢◌, ℕ, ◌+◌, ◌<◌, length, get_or, count_below, run_of, cut_behind}
use Rattle.surf_slit.proofs.labelling.label_runs.Given as goal

abbrev pub invariant-loop-k : goal.invariant-loop-k
invariant-loop-k l = record {
  counted : l.run ≡ count_below l.k (cut_behind l.edges l.cut);
  runs : (j : ℕ) → j < l.k → get_or l.labels (get_or l.ring j 0) 0 ≡ l.first + run_of (length l.edges) (cut_behind l.edges l.cut) j;
  kept : (s : ℕ) → ((j : ℕ) → j < l.k → get_or l.ring j 0 ≢ s) → get_or l.labels s 0 ≡ get_or l.initial.labels s 0;
}
