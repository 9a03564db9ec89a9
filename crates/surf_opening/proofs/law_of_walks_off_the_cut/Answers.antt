use Rattle.surf_opening.proofs.cuts.OffTheCut.{walks_off_the_cut_are_null}
use Rattle.surf_opening.proofs.cuts.OffTheCutMarked.{cut_ends_are_marked, unmarked_walks_are_null, walks_are_null_or_meet_marked}
use Rattle.surf_opening.proofs.law_of_walks_off_the_cut.Goals as goal

pub returns : goal.returns
returns c = record {
  off = walks_off_the_cut_are_null;
  ends = cut_ends_are_marked;
  unmarked = unmarked_walks_are_null;
  meets = walks_are_null_or_meet_marked;
}
