use Rattle.std.proofs.Common.{arith}
use Rattle.surf_soup.proofs.Paired.{all_two}
use Rattle.surf_soup.proofs.pairs.find_fault.Goals as goal

pub unreachable-requires : goal.unreachable-requires
unreachable-requires c =
    let t = c.in_ok-table.ensures in
    c.requires.unpaired (all_two c.args.soup.now c.law_of_soup.ensures.mesh c.in_ok-table.table.sides
    c.in_ok-table.table.face_of.items t.sides_are t.face_of_is _ (omega (arith, c.law_of_soup.ensures.few))
    c.in_default.ensures c.in-None.ensures)
