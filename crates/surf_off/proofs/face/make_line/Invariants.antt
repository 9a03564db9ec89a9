use Rattle.std.proofs.Common.{◌≡◌, ◌≤◌, ◌+◌, ◌*◌, ◌++◌, length, map, drop, codes}
use Rattle.surf_text.specs.Numbers.{numbers_text}
use Rattle.surf_off.proofs.face.make_line.Given as goal

abbrev pub invariant-loop-k : goal.invariant-loop-k
invariant-loop-k g l = record {
  text : l.slip ≡ numbers_text (drop l.k (map g.N.Numbered.number l.corners)) ++ codes "\n";
  room : length l.slip + 11 * l.k ≤ 56;
}
