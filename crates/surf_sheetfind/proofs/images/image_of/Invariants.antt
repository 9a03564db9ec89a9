use Rattle.std.proofs.Common.{◌≡◌, ◌<◌, ◌*◌, ◌^◌, slice_index}
use Rattle.surf_signatures.specs.Tables.{words_for}
use Rattle.surf_paired.specs.Paired.{sum_of_rows}
use Rattle.surf_sheetfind.proofs.images.image_of.Given as goal

-- the sum of the rows before
abbrev pub invariant-loop-k : goal.invariant-loop-k
invariant-loop-k l = record {
  image : l.sum ≡ sum_of_rows (slice_index l.rows.sets) l.set l.k;
  small : l.sum < 2 ^ (64 * words_for l.rows.width);
}
