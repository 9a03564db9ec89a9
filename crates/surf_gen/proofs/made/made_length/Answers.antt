use Rattle.std.proofs.Common.{◌+◌, ◌*◌, ◌^◌, ◌<◌, rules, arith}
use Rattle.surf_gen.proofs.MadeLaws.{spread_fits}
use Rattle.surf_gen.proofs.made.made_length.Goals as goal

pub overflow_mul-spread-2 : goal.overflow_mul-spread-2
overflow_mul-spread-2 c =
    let fits : c.args.scatter * (7 * c.args.edge + 13) < 2 ^ 64 =
    spread_fits c.args.scatter c.args.edge (omega arith) c.requires.few in
    rw (c.from.ensures, c.from-2.ensures) (search (rules, fits))
