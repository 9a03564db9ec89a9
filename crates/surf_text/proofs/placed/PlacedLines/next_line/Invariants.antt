use Rattle.std.proofs.Common.{◌≡◌, ◌-◌, length}
use Rattle.surf_text.specs.Walks.{lines_ahead}
use Rattle.surf_text.proofs.placed.PlacedLines.next_line.Given as goal

abbrev pub invariant-loop-self : goal.invariant-loop-self
invariant-loop-self l = record {
  text : l.self.text ≡ l.fn.self.text;
  same : lines_ahead l.self ≡ lines_ahead l.fn.self;
}

abbrev pub decreases-loop-self : goal.decreases-loop-self
decreases-loop-self l = length l.self.text - l.self.at
