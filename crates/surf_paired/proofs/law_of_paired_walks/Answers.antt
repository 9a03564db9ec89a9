use Rattle.surf_paired.proofs.LeastWalks.{odd_walks_are_no_shorter_than_least}
use Rattle.surf_paired.proofs.law_of_paired_walks.Goals as goal

pub returns : goal.returns
returns c = record { no_shorter = odd_walks_are_no_shorter_than_least }
