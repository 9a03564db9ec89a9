-- A valid certificate is least place by place, and its shortest is a shortest nonseparating cycle.
use Rattle.surf_surfaces.proofs.classes.PlaceLaws.{loop_systems_are_least_in_order, bases_are_least_in_order}
use Rattle.surf_surfaces.proofs.walks.ShortestWalkLaws.{shortest_loops_are_shortest_not_null, shortest_of_bases_are_shortest_not_null, shortest_not_null_is_nonseparating, least_bases_measure_shortest, bases_have_shortest}
use Rattle.surf_validity.specs.PlaceLaws.{ValidLoopsAreLeastInOrder, ShortestOfValidLoops, ValidBasesAreLeastInOrder, ShortestOfValidBases, ValidBasesHaveShortest, ValidBasesMeasureShortest}
use Rattle.surf_validity.specs.Valid.{certified_loops}
use Rattle.surf_validity.proofs.LoopLaws.{valid_loops_are_least}
use Rattle.surf_validity.proofs.BasisLaws.{valid_bases_are_least}

pub valid_loops_are_least_in_order : ValidLoopsAreLeastInOrder
valid_loops_are_least_in_order mesh lengths cert surface positive valid =
    (loop_systems_are_least_in_order mesh lengths cert.tree.base (certified_loops mesh cert) surface positive).0
    (valid_loops_are_least mesh lengths cert surface positive valid).0

pub shortest_of_valid_loops : ShortestOfValidLoops
shortest_of_valid_loops mesh lengths cert walk surface positive valid is =
    shortest_loops_are_shortest_not_null mesh lengths cert.tree.base (certified_loops mesh cert) walk surface positive
    (valid_loops_are_least mesh lengths cert surface positive valid).0 is

pub valid_bases_are_least_in_order : ValidBasesAreLeastInOrder
valid_bases_are_least_in_order mesh lengths cert surface positive valid =
    (bases_are_least_in_order mesh lengths cert.cycles surface positive).0
    (valid_bases_are_least mesh lengths cert surface positive valid)

pub shortest_of_valid_bases : ShortestOfValidBases
shortest_of_valid_bases mesh lengths cert walk surface positive valid is =
    let shortest = shortest_of_bases_are_shortest_not_null mesh lengths cert.cycles walk surface positive
    (valid_bases_are_least mesh lengths cert surface positive valid) is in
    (shortest, (shortest_not_null_is_nonseparating mesh lengths walk surface positive).0 shortest)

pub valid_bases_have_shortest : ValidBasesHaveShortest
valid_bases_have_shortest mesh lengths cert surface positive valid below =
    let (walk, is) = bases_have_shortest mesh lengths cert.cycles
    (valid_bases_are_least mesh lengths cert surface positive valid).is_basis below in
    (walk, is, (shortest_of_valid_bases mesh lengths cert walk surface positive valid is).1)

pub valid_bases_measure_shortest : ValidBasesMeasureShortest
valid_bases_measure_shortest mesh lengths cert surface positive valid =
    least_bases_measure_shortest mesh lengths cert.cycles surface positive
    (valid_bases_are_least mesh lengths cert surface positive valid)
