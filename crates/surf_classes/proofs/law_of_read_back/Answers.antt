use Rattle.surf_classes.proofs.ReadBack.{read_back_is_chosen, tables_are_read_back, tables_read_on}
use Rattle.surf_classes.proofs.Tables.{certified_tables_choose}
use Rattle.surf_classes.proofs.law_of_read_back.Goals as goal

pub returns : goal.returns
returns c = record {
  chosen = read_back_is_chosen;
  certified = certified_tables_choose;
  exists = tables_are_read_back;
  reads_on = tables_read_on;
}
