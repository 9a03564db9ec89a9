use Rattle.std.proofs.Common.{◌≡◌, ◌≤◌, length, take}
use Rattle.surf_text.specs.Text.{trimmed_back}
use Rattle.surf_text.proofs.places.trim_back.Given as goal

abbrev pub invariant-loop-end : goal.invariant-loop-end
invariant-loop-end l = record { within : l.end ≤ length l.bytes; same : trimmed_back (take l.end l.bytes) ≡ trimmed_back l.bytes }

abbrev pub decreases-loop-end : goal.decreases-loop-end
decreases-loop-end l = l.end
