use Rattle.surf_surfaces.proofs.Common.{sym, subst, arith, Mesh}
use Rattle.surf_soup.specs.Pairs.{HasTwoFaces}
use Rattle.surf_soup.specs.Pairing.{ArePaired, HasAllPairs}
use Rattle.surf_soup.proofs.PairSteps.{paired_none, paired_all}
use Rattle.surf_soup.proofs.pairing.soup_pairs.Goals as goal

pub pair_rows-requires : goal.pair_rows-requires
pair_rows-requires c =
    let none = c.in_ok-pairs.ensures in
    let p = c.in_ok-pairs.pairs in
    subst (λ (m : Mesh). ArePaired m 0 p) (sym c.in_ok-entries.ensures)
    (paired_none c.args.soup.now p.edges.items p.first.items p.mate.items p.edge_of.items none.none none.no_first
    (omega (arith, none.mate_size, c.side_count.ensures.count))
    (omega (arith, none.number_size, c.side_count.ensures.count)))

pub returns-then-branch : goal.returns-then-branch
returns-then-branch c =
    let p = c.pair_rows.new.pairs in
    let own = c.law_of_entries.ensures in
    subst (λ (m : Mesh). HasAllPairs m p) c.in_ok-entries.ensures
    (paired_all c.in_ok-entries.entries.mesh own.mesh c.in_ok-entries.entries.rows own.entries p.edges.items
    p.first.items p.mate.items p.edge_of.items (rw c.if-branch.true at c.in_ok-pair_rows.ensures))

pub returns : goal.returns
returns c =
    subst (λ (m : Mesh). HasTwoFaces m → ⊥) c.in_ok-entries.ensures (rw c.if-branch.false at c.in_ok-pair_rows.ensures)
