use Rattle.surf_basis.proofs.Common.{loop_in, ap, ◌∙◌, option_map, lengths_positive}
use Rattle.surf_basis.proofs.First.{first_heads}
use Rattle.surf_basis.proofs.shortest.first_at.Goals as goal

pub returns-clause-first : goal.returns-clause-first
returns-clause-first c trees chosen =
    let mesh = c.args.mesh.now in
    let lengths = c.args.lengths.now in
    let positive = lengths_positive mesh lengths c.law_of_lengths.ensures.lengths c.requires.lengths in
    ap (option_map (loop_in mesh trees)) c.first_of.ensures.first
    ∙ first_heads mesh lengths trees c.law_of_surface.ensures.surface positive chosen c.args.base c.greedy.new.self c.requires.base c.greedy.ensures.greedy
