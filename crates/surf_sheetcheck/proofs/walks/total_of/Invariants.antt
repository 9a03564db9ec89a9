use Rattle.std.proofs.Common.{◌≡◌, ◌≤◌, ◌*◌, ◌^◌, sum, take}
use Rattle.surf_sheetcheck.proofs.walks.total_of.Given as goal

-- the lengths before
abbrev pub invariant-loop-place : goal.invariant-loop-place
invariant-loop-place l = record {
  total : l.total ≡ sum (take l.place l.sizes);
  bound : l.total ≤ l.place * 2 ^ 96;
}
