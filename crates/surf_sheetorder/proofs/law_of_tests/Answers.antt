use Rattle.surf_sheetorder.proofs.Tests.{tests_are_cocycles, tests_pair_walks, labelled_edges_show, sums_pass_none, sums_keep_tests}
use Rattle.surf_sheetorder.proofs.DualTests.{bases_have_tests, nonnull_walks_come_no_sooner}
use Rattle.surf_sheetorder.proofs.law_of_tests.Goals as goal

pub returns : goal.returns
returns c = record {
  cocycles = tests_are_cocycles;
  pair = tests_pair_walks;
  exist = bases_have_tests;
  labelled = labelled_edges_show;
  nonnull = nonnull_walks_come_no_sooner;
  none = sums_pass_none;
  sums = sums_keep_tests;
}
