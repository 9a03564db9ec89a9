use Rattle.std.proofs.Common.{length}
use Rattle.surf_off.proofs.FaceRows.{row_is, row_span}
use Rattle.surf_off.proofs.write.face_at.Goals as goal

pub returns : goal.returns
returns c = record { face = row_is c.args.starts.now c.args.corners.now c.args.f c.requires.starts c.requires.within }

pub slice_bounds-result-count : goal.slice_bounds-result-count
slice_bounds-result-count c = (row_span c.args.starts.now (length c.args.corners.now) c.args.f c.requires.starts c.requires.within).0

pub slice_bounds-result-start : goal.slice_bounds-result-start
slice_bounds-result-start c = (row_span c.args.starts.now (length c.args.corners.now) c.args.f c.requires.starts c.requires.within).0

pub slice_bounds-result-end : goal.slice_bounds-result-end
slice_bounds-result-end c = (row_span c.args.starts.now (length c.args.corners.now) c.args.f c.requires.starts c.requires.within).1
