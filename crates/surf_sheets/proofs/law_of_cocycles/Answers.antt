use Rattle.surf_sheets.proofs.Oddness.{sides_are_border_edges, null_walks_are_even_on_cocycles}
use Rattle.surf_sheets.proofs.law_of_cocycles.Goals as goal

pub returns : goal.returns
returns c = record { sides = sides_are_border_edges; null = null_walks_are_even_on_cocycles }
