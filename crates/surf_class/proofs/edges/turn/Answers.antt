use Rattle.surf_class.proofs.StepEdges.{flipped}
use Rattle.surf_class.proofs.edges.turn.Goals as goal

pub returns : goal.returns
returns c = record { turned = flipped c.args.flags.now c.args.place c.requires.place }
