use Rattle.surf_choice.proofs.Common.{◌≡◌, ◌<◌, ◌^◌, length, number}
use Rattle.surf_choice.proofs.Used.{IsUsed}
use Rattle.surf_choice.proofs.echelon.used_rows.Given as goal

-- what is left differs from the set by a sum of the first rows, of as few as that takes
abbrev pub invariant-loop-top : goal.invariant-loop-top
invariant-loop-top l = record {
  words : length l.set ≡ 16;
  small : number l.set < 2 ^ length l.places;
  used : IsUsed l.rows (number l.fn.set) (number l.set) l.count;
}

abbrev pub decreases-loop-top : goal.decreases-loop-top
decreases-loop-top l = number l.set
