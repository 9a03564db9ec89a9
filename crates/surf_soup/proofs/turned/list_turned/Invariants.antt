use Rattle.std.proofs.Common.{◌≡◌, ◌<◌, ◌+◌, ℕ, length, get_or}
use Rattle.surf_soup.specs.Ring.{place_by}
use Rattle.surf_soup.proofs.turned.list_turned.Given as goal

abbrev pub invariant-loop-k : goal.invariant-loop-k
invariant-loop-k l = record {
  size : length l.table.items ≡ length l.fn.table.items + l.k;
  kept : (s : ℕ) → s < length l.fn.table.items → get_or l.table.items s 0 ≡ get_or l.fn.table.items s 0;
  here : (k : ℕ) → k < l.k → get_or l.table.items (length l.fn.table.items + k) 0 ≡ l.first + place_by l.turn l.count k;
}
