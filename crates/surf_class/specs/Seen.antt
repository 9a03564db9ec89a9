-- Evidence of the code as that of the laws.
use Rattle.surf_classes.specs.Evidence.{Evidence, null_faces, odd_pairs}
use Rattle.surf_class.specs.declared.evidence.Evidence.{Evidence as Listed}
use Rattle.surf_class.specs.declared.evidence.Evidence.TheVariants.{Null, Odd}

abbrev pub seen : Listed → Evidence
seen (Null faces) = null_faces faces
seen (Odd pairs) = odd_pairs pairs
