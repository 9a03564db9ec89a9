use Rattle.surf_paired.proofs.Rows.{images_add, images_move, units_pair_none, next_has_own, pairs_stay, one_pair_more}
use Rattle.surf_paired.proofs.law_of_elimination.Goals as goal

pub returns : goal.returns
returns c = record {
  add = images_add;
  moves = images_move;
  none = units_pair_none;
  next = next_has_own;
  stay = pairs_stay;
  more = one_pair_more;
}
