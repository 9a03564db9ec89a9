use Rattle.surf_sheetcheck.proofs.ServeLaws.{left_begin}
use Rattle.surf_sheetcheck.proofs.check.check_holding.Goals as goal

pub first_short-requires-clause-left : goal.first_short-requires-clause-left
first_short-requires-clause-left c = left_begin c.args.case.now c.requires.ready c.in_ok-left.left c.in_ok-left.ensures.sets
