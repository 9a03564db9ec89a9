use Rattle.surf_finder.specs.Found.{reached_at}
use Rattle.surf_finder.proofs.Told.{rise_ends}
use Rattle.surf_finder.proofs.reached.candidate_of.Goals as goal

pub distance-requires : goal.distance-requires
distance-requires c = record {
  vertex = (rise_ends (reached_at c.args.reached.now) c.args.rise.now c.requires.searched.ready c.requires.rise c.requires.between).0.distances;
}

pub distance-requires-2 : goal.distance-requires-2
distance-requires-2 c = record {
  vertex = (rise_ends (reached_at c.args.reached.now) c.args.rise.now c.requires.searched.ready c.requires.rise c.requires.between).1.distances;
}

pub least-requires : goal.least-requires
least-requires c = record {
  vertex = (rise_ends (reached_at c.args.reached.now) c.args.rise.now c.requires.searched.ready c.requires.rise c.requires.between).0.leasts;
}

pub least-requires-2 : goal.least-requires-2
least-requires-2 c = record {
  vertex = (rise_ends (reached_at c.args.reached.now) c.args.rise.now c.requires.searched.ready c.requires.rise c.requires.between).1.leasts;
}
