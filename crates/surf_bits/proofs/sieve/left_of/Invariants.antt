use Rattle.std.proofs.Common.{ℕ, ◌≡◌, List, drop}
use Rattle.surf_bits.specs.Rows.{left_of, sieve_rows}
use Rattle.surf_bits.proofs.sieve.left_of.Given as goal

-- what the rows to come leave of what is left is what all leave of the set
abbrev pub invariant-loop-i : goal.invariant-loop-i
invariant-loop-i l = (originals : List ℕ) →
    left_of (drop l.i (sieve_rows l.stride l.pivots l.reduced originals)) l.left ≡ left_of (sieve_rows l.stride l.pivots l.reduced originals) l.set
