use Rattle.surf_basis.proofs.Common.{tree_of, grown_rooted, refl, sym, ◌∙◌, AreChosenAt, heaviest_exists, shortest_is_tree, lengths_positive}
use Rattle.surf_search.proofs.Common.{Trees}
use Rattle.surf_basis.proofs.Looped.{loop_is_one}
use Rattle.surf_basis.proofs.cycles.cycle_of.Goals as goal

pub walk-requires-clause-rooted : goal.walk-requires-clause-rooted
walk-requires-clause-rooted c =
    let mesh = c.args.mesh.now in
    let lengths = c.args.lengths.now in
    let positive = lengths_positive mesh lengths c.law_of_lengths.ensures.lengths c.requires.lengths in
    grown_rooted mesh lengths c.args.candidate.base c.args.desk.now.tree c.law_of_surface.ensures.surface positive c.requires.tree

pub returns : goal.returns
returns c =
    let mesh = c.args.mesh.now in
    let lengths = c.args.lengths.now in
    let surface = c.law_of_surface.ensures.surface in
    let positive = lengths_positive mesh lengths c.law_of_lengths.ensures.lengths c.requires.lengths in
    let base = c.args.candidate.base in
    let tree = tree_of c.args.desk.now.tree in
    let short = c.requires.tree.shortest in
    let (cotree, heaviest) = heaviest_exists mesh lengths tree surface (shortest_is_tree mesh lengths base tree surface positive short) in
    let own : Trees = record { tree = tree; cotree = cotree } in
    let own_chosen : AreChosenAt mesh lengths base own = record { shortest = short; heaviest = heaviest } in
    record {
      cycle = record {
        size = refl;
        base = refl;
        edge = refl;
        walk = λ trees at left.
            c.in_ok-walk.ensures.walk
            ∙ sym (loop_is_one mesh lengths base trees own surface positive at own_chosen c.args.candidate.edge c.requires.inside.edge left);
      };
    }
