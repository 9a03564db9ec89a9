use Rattle.std.proofs.Common.{◌/◌, ap, ◌∙◌}
use Rattle.surf_looking.proofs.SideLaws.{half_the_sides}
use Rattle.surf_looking.proofs.meshes.edges_of.Goals as goal

pub returns : goal.returns
returns c = record { edges = ap (λ n. n / 2) c.side_count.ensures.count ∙ half_the_sides c.args.soup.now c.requires }
