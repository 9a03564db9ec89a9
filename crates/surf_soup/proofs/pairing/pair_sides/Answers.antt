use Rattle.surf_soup.specs.Pairing.{HasAllPairs}
use Rattle.surf_soup.proofs.pairing.pair_sides.Goals as goal

pub returns : goal.returns
returns c =
    let all : HasAllPairs c.args.soup.now c.in-Some.pairs = rw c.in-Some.is at c.in_ok-pairs.ensures in (
      all.two,
      record {
        edge_list_is = all.edges_are;
        first_are = all.first_are;
        mates = all.mates;
        edge_numbers = all.numbers;
        face_of_is = c.in_ok-build.ensures;
      },
    )
