use Rattle.std.proofs.Common.{◌≤◌, ℕ, take}
use Rattle.surf_off.specs.Places.{EndWithin}
use Rattle.surf_off.proofs.off_places.front_of.Given as goal

abbrev pub invariant-loop-span : goal.invariant-loop-span
invariant-loop-span l = record {
  within : EndWithin l.end (take l.span-index l.spans);
  least : (n : ℕ) → EndWithin n l.spans → l.end ≤ n;
}
