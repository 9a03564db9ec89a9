use Rattle.std.proofs.Common.{◌≡◌, drop}
use Rattle.surf_text.specs.Pieces.{pieces_text}
use Rattle.surf_text.proofs.page.slip_of.Given as goal

abbrev pub invariant-loop-k : goal.invariant-loop-k
invariant-loop-k l = l.slip ≡ pieces_text (drop l.k l.pieces)
