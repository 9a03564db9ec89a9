use Rattle.surf_tori.proofs.TorusLaws.{cells_are_faces, tori_are_surfaces, tori_have_counts, tori_have_characteristic_zero}
use Rattle.surf_tori.proofs.law_of_tori.Goals as goal

pub returns : goal.returns
returns c = record {
  surfaces = tori_are_surfaces;
  characteristic = tori_have_characteristic_zero;
  counts = tori_have_counts;
  faces = cells_are_faces;
}
