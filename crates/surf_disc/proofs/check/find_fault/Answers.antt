use Rattle.std.proofs.Common.{sym, ◌∙◌, arith}
use Rattle.surf_disc.proofs.TableLaws.{table_len, edges_within, rows_counted}
use Rattle.surf_disc.proofs.check.find_fault.Goals as goal

pub count_single-requires : goal.count_single-requires
count_single-requires c =
    let mesh = c.args.soup.now in
    record {
      few = omega (
        arith,
        table_len mesh c.law_of_soup.ensures.mesh _ _ _ _ _ c.in_ok-table.ensures,
        edges_within mesh,
        c.law_of_soup.ensures.few,
      );
    }

pub returns-clause-border : goal.returns-clause-border
returns-clause-border c = c.count_single.ensures.count
    ∙ sym (rows_counted c.args.soup.now c.law_of_soup.ensures.mesh _ _ _ _ _ c.in_ok-table.ensures)
