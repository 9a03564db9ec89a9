use Rattle.std.proofs.Common.{◌≡◌, ℕ, ◌+◌, ◌<◌, [], ◌∷◌, length, slice_index}
use Rattle.surf_tori.specs.ConnectedSum.{others_before, sum_name}
use Rattle.surf_gen.proofs.chains.renumber.Given as goal

abbrev pub invariant-loop-v : goal.invariant-loop-v
invariant-loop-v l = record {
  sized : length l.numbers ≡ length l.initial.numbers;
  next : l.next ≡ l.start + others_before (0 ∷ l.columns ∷ (l.columns + 1) ∷ []) l.v;
  done : (k : ℕ) → k < l.v → slice_index l.numbers k
      ≡ sum_name l.start (l.first ∷ l.second ∷ l.third ∷ []) (0 ∷ l.columns ∷ (l.columns + 1) ∷ []) k;
}
