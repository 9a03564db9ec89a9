use Rattle.std.proofs.Common.{ℕ, ◌≡◌, ◌<◌, ◌≤◌, ◌^◌, bit_xor, get_or}
use Rattle.surf_bits.proofs.words.add_words.Given as goal

-- the words below i are added, and the others are as they were
abbrev pub invariant-loop-i : goal.invariant-loop-i
invariant-loop-i l = record {
  fits : (k : ℕ) → get_or l.fn.words k 0 < 2 ^ 64;
  added : (k : ℕ) → k < l.i → get_or l.words k 0 ≡ bit_xor (get_or l.fn.words k 0) (get_or l.other k 0);
  same : (k : ℕ) → l.i ≤ k → get_or l.words k 0 ≡ get_or l.fn.words k 0;
}
