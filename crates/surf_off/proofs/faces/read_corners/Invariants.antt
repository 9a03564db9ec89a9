use Rattle.std.proofs.Common.{◌≡◌, ◌<◌, ◌≤◌, ◌+◌, ◌-◌, length, take}
use Rattle.std.specs.List.{All}
use Rattle.surf_text.specs.Text.{behind_words}
use Rattle.surf_off.specs.Off.{corners_at}
use Rattle.surf_off.proofs.Corners.{with_front}
use Rattle.surf_off.proofs.faces.read_corners.Given as goal

abbrev pub invariant-loop-place : goal.invariant-loop-place
invariant-loop-place l = record {
  enough : l.size ≤ l.place + length l.tokens.tokens;
  count : length l.corners.items ≡ l.place;
  within : All (λ u. u < l.vertices) l.corners.items;
  so_far : with_front l.corners.items (corners_at l.line l.vertices l.place (take (l.size - l.place) l.tokens.tokens)) ≡ corners_at l.line l.vertices 0 (take l.size l.fn.tokens.tokens);
  rest : behind_words (l.size - l.place) l.tokens.rest ≡ behind_words l.size l.fn.tokens.rest;
}
