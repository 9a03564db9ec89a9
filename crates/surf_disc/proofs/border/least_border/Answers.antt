use Rattle.std.proofs.Common.{arith}
use Rattle.surf_disc.proofs.TableLaws.{first_border, no_border, table_len, edges_within}
use Rattle.surf_disc.proofs.border.least_border.Goals as goal

pub overflow_cast-e : goal.overflow_cast-e
overflow_cast-e c =
    let mesh = c.args.tabled.now.soup.now in
    omega (
      arith,
      c.in-Some.ensures.is_row,
      table_len mesh c.law_of_soup.ensures.mesh _ _ _ _ _ c.args.tabled.now.is_table,
      edges_within mesh,
      c.law_of_soup.ensures.few,
    )

pub returns-in-None : goal.returns-in-None
returns-in-None c = record {
  least = no_border c.args.tabled.now.soup.now c.law_of_soup.ensures.mesh _ _ _ _ _ c.args.tabled.now.is_table c.in-None.ensures;
}

pub returns-in-Some : goal.returns-in-Some
returns-in-Some c = record {
  least = rw c.new.ensures (first_border c.args.tabled.now.soup.now c.law_of_soup.ensures.mesh _ _ _ _ _ c.args.tabled.now.is_table _
      c.in-Some.ensures);
}
