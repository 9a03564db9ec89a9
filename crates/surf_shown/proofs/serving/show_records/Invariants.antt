use Rattle.surf_surfaces.proofs.Common.{◌≡◌, ◌≤◌, length, take}
use Rattle.surf_shown.specs.Shown.{AreServedTo, AreShownTo, IsLeast}
use Rattle.surf_shown.proofs.serving.show_records.Given as goal

abbrev pub invariant-loop-t : goal.invariant-loop-t
invariant-loop-t l = record {
  shown : AreShownTo l.claim l.ends;
  least : IsLeast l.from l.ends;
  off : AreServedTo (take l.t l.records) l.end l.ends;
  numbers : (l.from ≤ l.end) × (l.end ≤ l.to);
  count : length l.ends ≡ length l.fn.ends;
}
