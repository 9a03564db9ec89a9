-- The lines of a certificate that isn't valid.
use Rattle.std.specs.Prelude.{ℕ, List, [], ◌∷◌, codes}
use Rattle.surf_treecheck.specs.declared.fault.CertPart.TheVariants as part
use Rattle.surf_treecheck.specs.declared.fault.CertFault.{CertFault}
use Rattle.surf_treecheck.specs.declared.fault.CertFault.TheVariants.{Shape, Parent, Distance, Slack, Dual, Split}
use Rattle.surf_treecheck.specs.declared.fault.CertFault.TheVariants.{Heavier, NotClosed, Dependent, Uncovered}
use Rattle.surf_treecheck.specs.declared.fault.CertFault.TheVariants.{Memory}
use Rattle.surf_text.specs.Numbers.{numbered}

-- what is wrong. Want of memory is no answer
abbrev pub fault_line : CertFault → List ℕ
fault_line (Shape part.Vertices) = codes "no shape vertices\n"
fault_line (Shape part.Faces) = codes "no shape faces\n"
fault_line (Shape part.Loops) = codes "no shape loops\n"
fault_line (Shape part.Base) = codes "no shape base\n"
fault_line (Parent base vertex) = numbered (codes "no parent") (base ∷ vertex ∷ [])
fault_line (Distance base vertex) = numbered (codes "no distance") (base ∷ vertex ∷ [])
fault_line (Slack base u v) = numbered (codes "no slack") (base ∷ u ∷ v ∷ [])
fault_line (Dual face) = numbered (codes "no dual") (face ∷ [])
fault_line (Split u v) = numbered (codes "no split") (u ∷ v ∷ [])
fault_line (Heavier left cotree) = numbered (codes "no heavier") (left.0 ∷ left.1 ∷ cotree.0 ∷ cotree.1 ∷ [])
fault_line (NotClosed place) = numbered (codes "no not-closed") (place ∷ [])
fault_line (Dependent place) = numbered (codes "no dependent") (place ∷ [])
fault_line (Uncovered base u v) = numbered (codes "no uncovered") (base ∷ u ∷ v ∷ [])
fault_line Memory = []
