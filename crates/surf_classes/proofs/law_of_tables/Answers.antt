use Rattle.surf_classes.proofs.Reached.{signed_distances_exist}
use Rattle.surf_classes.proofs.Tables.{certified_tables_are_distances}
use Rattle.surf_classes.proofs.law_of_tables.Goals as goal

pub returns : goal.returns
returns c = record {
  distances = certified_tables_are_distances;
  exist = signed_distances_exist;
}
