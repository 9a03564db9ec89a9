use Rattle.std.proofs.Common.{◌<◌, ◌^◌, length, ap, arith}
use Rattle.surf_disc.proofs.TableLaws.{edges_within}
use Rattle.surf_disc.proofs.check.refuse_count.Goals as goal

pub overflow_cast-edges : goal.overflow_cast-edges
overflow_cast-edges c =
    let few : length c.args.tabled.now.table.now.edges.items < 2 ^ 30 = omega (
      arith,
      edges_within c.args.tabled.now.soup.now,
      ap length c.args.tabled.now.is_table.edge_list_is,
      c.law_of_soup.ensures.few,
    ) in
    omega (arith, few, c.len-edges.ensures)
