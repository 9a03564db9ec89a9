use Rattle.surf_surfaces.proofs.classes.ClassLaws.{independent_walks_are_few, null_by_class, independent_by_classes}
use Rattle.surf_surfaces.proofs.classes.SignatureLaws.{signatures_are_classes, null_by_signature}
use Rattle.surf_surfaces.proofs.walks.FaceWalkLaws.{faces_sum_to_zero}
use Rattle.surf_surfaces.proofs.law_of_classes.Goals as goal

pub returns : goal.returns
returns c = record {
  few = independent_walks_are_few;
  null = null_by_class;
  independent = independent_by_classes;
  signatures = signatures_are_classes;
  null_signature = null_by_signature;
  faces = faces_sum_to_zero;
}
