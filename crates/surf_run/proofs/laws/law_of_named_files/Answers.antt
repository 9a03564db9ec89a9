use Rattle.surf_run.proofs.Named.{answers_depend_on_named_files}
use Rattle.surf_run.proofs.laws.law_of_named_files.Goals as goal

pub returns : goal.returns
returns c = answers_depend_on_named_files
