use Rattle.surf_surfaces.proofs.Common.{rules, length-decimal-le}
use Rattle.surf_cutting.proofs.cut.digits_of.Goals as goal

pub put_whole-requires : goal.put_whole-requires
put_whole-requires c = search (rules, length-decimal-le 20)
