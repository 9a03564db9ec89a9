-- What each fault of evidence says: it is the first, or memory ran out.
use Rattle.surf_z2.specs.Space.{Chain}
use Rattle.surf_surfaces.specs.Mesh.{Mesh}
use Rattle.surf_classes.specs.Evidence.{Evidence}
use Rattle.surf_classes.specs.Faults.{no_face, no_boundary, no_pair, odd_face, even_number, IsFirstFault}
use Rattle.surf_class.specs.declared.fault.ClassFault.{ClassFault}
use Rattle.surf_class.specs.declared.fault.ClassFault.TheVariants.{Face, Boundary, Pair, OddFace, Even, Memory}

abbrev pub IsClassFault : Mesh → Chain → Evidence → ClassFault → Type 0
IsClassFault mesh chain evidence (Face f) = IsFirstFault mesh chain evidence (no_face f)
IsClassFault mesh chain evidence (Boundary u v) = IsFirstFault mesh chain evidence (no_boundary u v)
IsClassFault mesh chain evidence (Pair u v) = IsFirstFault mesh chain evidence (no_pair u v)
IsClassFault mesh chain evidence (OddFace f) = IsFirstFault mesh chain evidence (odd_face f)
IsClassFault mesh chain evidence Even = IsFirstFault mesh chain evidence even_number
IsClassFault mesh chain evidence Memory = Unit {0}
