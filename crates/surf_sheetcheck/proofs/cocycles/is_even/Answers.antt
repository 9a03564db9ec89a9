use Rattle.surf_surfaces.proofs.Common.{refl, ◌∙◌}
use Rattle.surf_certcheck.proofs.Bases.{same_tells}
use Rattle.surf_sheetcheck.specs.Cocycles.{face_set}
use Rattle.surf_sheetcheck.proofs.cocycles.is_even.Goals as goal

pub returns : goal.returns
returns c = record {
  even = same_tells c.is_empty.result c.bits.result 0 (face_set c.args.case.now.mesh.now c.args.case.now.cert.now c.args.f) 0
      c.is_empty.ensures.empty (c.bits.ensures ∙ c.face_sum.ensures.sum) refl;
}
