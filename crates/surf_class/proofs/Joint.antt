-- One walk or two.
use Rattle.surf_surfaces.proofs.Common.{List, ℕ, Option, Some, None, Mesh, IsClosed}
use Rattle.surf_classes.specs.Evidence.{AreClosed}

pub first_closed : (mesh : Mesh) (walk : List ℕ) (other : Option (List ℕ)) → AreClosed mesh walk other → IsClosed mesh walk
first_closed mesh walk None closed = closed
first_closed mesh walk (Some other) closed = closed.0
