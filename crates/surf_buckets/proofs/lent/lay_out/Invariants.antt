use Rattle.std.proofs.Common.{◌≡◌}
use Rattle.std.specs.Prelude.{vec_capacity}
use Rattle.surf_buckets.specs.Lent.{AreLone}
use Rattle.surf_buckets.proofs.lent.lay_out.Given as goal

abbrev pub invariant-loop-i : goal.invariant-loop-i
invariant-loop-i l = record {
  room : vec_capacity l.links ≡ vec_capacity l.fn.links;
  alone : AreLone l.i l.links.items;
}
