use Rattle.surf_choice.proofs.Common.{◌≡◌, ◌<◌, ◌^◌, length, bit_xor, numbers, Spanned, number}
use Rattle.surf_choice.proofs.echelon.reduce.Given as goal

-- what is left differs from the set by a sum of rows
abbrev pub invariant-loop-top : goal.invariant-loop-top
invariant-loop-top l = record {
  words : length l.set ≡ 16;
  small : number l.set < 2 ^ length l.places;
  differ : Spanned numbers l.rows (bit_xor (number l.fn.set) (number l.set));
}

abbrev pub decreases-loop-top : goal.decreases-loop-top
decreases-loop-top l = number l.set
