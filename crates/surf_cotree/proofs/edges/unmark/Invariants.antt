use Rattle.surf_cotree.proofs.Common.{◌≡◌, ◌<◌, ◌≤◌, ◌&&◌, ℕ, not, flag}
use Rattle.surf_cotree.proofs.edges.unmark.Given as goal

abbrev pub invariant-loop-edge : goal.invariant-loop-edge
invariant-loop-edge l = record {
  done : (e : ℕ) → e < l.edge → flag l.marks e ≡ (flag l.initial.marks e && not (flag l.other e));
  rest : (e : ℕ) → l.edge ≤ e → flag l.marks e ≡ flag l.initial.marks e;
}
