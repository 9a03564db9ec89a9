use Rattle.std.proofs.Common.{ap, codes, length, length-append, arith}
use Rattle.surf_off.proofs.ShortFaces.{number_short}
use Rattle.surf_off.proofs.made.make_point.Goals as goal

pub put_whole-requires : goal.put_whole-requires
put_whole-requires c =
    record { room = omega (arith, number_short c.args.v c.ranges.v.fits, ap length c.put_bytes.ensures.before, ap length c.clear.ensures.empty, length-append (codes " 0 0\n") c.clear.new.self) }
