use Rattle.surf_tori.proofs.SumLaws.{connected_sums_are_surfaces, connected_sums_lose_two}
use Rattle.surf_tori.proofs.law_of_connected_sums.Goals as goal

pub returns : goal.returns
returns c = record { surfaces = connected_sums_are_surfaces; characteristic = connected_sums_lose_two }
