use Rattle.surf_buckets.specs.Nodes.{IsAlone}
use Rattle.surf_buckets.proofs.buckets.lone_nodes.Given as goal

abbrev pub invariant-loop-i : goal.invariant-loop-i
invariant-loop-i l = IsAlone l.i l.nodes.items
