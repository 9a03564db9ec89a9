use Rattle.surf_sheets.proofs.DualCocycles.{least_bases_are_shown}
use Rattle.surf_sheets.proofs.PlacedCocycles.{chosen_bases_are_placed}
use Rattle.surf_sheets.proofs.law_of_enough_sheets.Goals as goal

pub returns : goal.returns
returns c = record { shown = least_bases_are_shown; placed = chosen_bases_are_placed }
