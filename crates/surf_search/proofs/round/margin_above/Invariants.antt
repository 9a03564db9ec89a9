use Rattle.surf_search.proofs.Common.{◌≢◌, ◌≤◌, take, AreLongerOr}
use Rattle.surf_search.proofs.round.margin_above.Given as goal

abbrev pub invariant-loop-signed : goal.invariant-loop-signed
invariant-loop-signed l = record {
  most : l.margin ≤ l.most;
  longer : l.margin ≢ 0 → AreLongerOr l.choice.kept l.least l.margin (take l.signed-index l.found);
}
