use Rattle.surf_choice.proofs.Common.{◌≡◌, ◌≤◌, vec_capacity, candidates, kept_after}
use Rattle.surf_choice.proofs.Sifted.{IsSifting}
use Rattle.surf_choice.proofs.merging.sift.Given as goal

abbrev pub invariant-loop-signed : goal.invariant-loop-signed
invariant-loop-signed l = record {
  sifting : IsSifting (kept_after l.fn.kept.items l.others) l.others l.kept.items l.rows.rows l.signed-index;
  keys : l.keys.items ≡ candidates l.kept.items;
  width : l.rows.width ≡ l.fn.rows.width;
  room : vec_capacity l.fn.kept ≤ vec_capacity l.kept;
  keys_room : vec_capacity l.fn.keys ≤ vec_capacity l.keys;
}
