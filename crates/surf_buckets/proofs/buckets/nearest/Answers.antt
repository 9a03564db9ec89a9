use Rattle.std.proofs.Common.{length}
use Rattle.surf_buckets.specs.Nodes.{key_at, next_at, prev_at}
use Rattle.surf_buckets.proofs.Filing.{full_nearest}
use Rattle.surf_buckets.proofs.buckets.nearest.Goals as goal

pub returns : goal.returns
returns c =
    let nodes = c.args.nodes.now in
    full_nearest c.args.places (length nodes) (key_at nodes) (next_at nodes) (prev_at nodes) c.args.now c.args.last c.requires.buckets c.first_full.result c.first_full.ensures
