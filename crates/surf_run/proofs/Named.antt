-- What comes of words depends on the files that they name alone.
use Rattle.surf_answers.proofs.Common.{recursion_from_All}
use Rattle.surf_answers.proofs.Commands.{request_of, named}
use Rattle.surf_run.specs.Leads.{Leads}
use Rattle.surf_run.specs.Named.{AnswersDependOnNamedFiles}
use Rattle.surf_run.proofs.Rows.{rows_are_settled}
use Rattle.surf_run.proofs.ShapeWords.{words_are_well_shaped}
use Rattle.surf_run.proofs.StepLaws.{Same}

pub answers_depend_on_named_files : AnswersDependOnNamedFiles
unfolding Leads
answers_depend_on_named_files words here there same =
    (rows_are_settled here there (request_of words)
    (recursion_from_All (Same here there) (named (request_of words)) same) (words_are_well_shaped words)).same
