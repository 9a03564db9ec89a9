use Rattle.std.proofs.Common.{take, Ok}
use Rattle.surf_text.specs.Pages.{Puts}
use Rattle.surf_text.specs.Pieces.{pieces_text}
use Rattle.surf_text.proofs.page.Page.push_each.Given as goal

abbrev pub invariant-loop-piece : goal.invariant-loop-piece
invariant-loop-piece l = Puts {A = Unit {0}} l.fn.self l.self (pieces_text (take l.piece-index l.pieces)) (Ok tt)
