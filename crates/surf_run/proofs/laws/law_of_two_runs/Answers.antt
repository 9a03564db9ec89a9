use Rattle.surf_run.proofs.ClassRuns.{classes_are_confirmed}
use Rattle.surf_run.proofs.SewnRuns.{cuts_are_sewn, cuts_through_are_sewn}
use Rattle.surf_run.proofs.TwoRuns.{certified_loops_pass, certified_bases_pass}
use Rattle.surf_run.proofs.laws.law_of_two_runs.Goals as goal

pub returns : goal.returns
returns c = record {
  loops = certified_loops_pass;
  bases = certified_bases_pass;
  classes = classes_are_confirmed;
  cuts = cuts_are_sewn;
  cuts_through = cuts_through_are_sewn;
}
