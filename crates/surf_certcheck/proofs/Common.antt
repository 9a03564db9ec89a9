-- What the proofs of the checker of certificates cite most besides, by one import.
pub use Rattle.surf_certcheck.specs.BasisFaults.{AreTreesDivided, DependsFirst, IsBasisFault, IsCycleClosed}
pub use Rattle.surf_certcheck.specs.BasisFaults.{IsIndependentAt, cycle_at}
pub use Rattle.surf_certcheck.specs.Climbs.{IsClimbed}
pub use Rattle.surf_certcheck.specs.Columns.{IsGreatestIn, IsLeastFrom, IsNoHeavier, IsSorted, IsSortedBelow, IsSwapped}
pub use Rattle.surf_certcheck.specs.Covering.{HasFrame, IsCoveredIn}
pub use Rattle.surf_certcheck.specs.Frames.{ArePlacedUpTo, AreTaken, HasPlace, HasSplit, IsCoveredBy, IsFrame}
pub use Rattle.surf_certcheck.specs.Frames.{IsFrameOf, IsPlacedUpTo, weighed_through, weight_at}
pub use Rattle.surf_certcheck.specs.Judging.{IsShortFor}
pub use Rattle.surf_certcheck.specs.Keeping.{KeepsFrames}
pub use Rattle.surf_certcheck.specs.Least.{IsLeastIn, IsLeastWith, IsShort}
pub use Rattle.surf_certcheck.specs.LoopFaults.{IsHeavierFault, IsLoopFault}
pub use Rattle.surf_certcheck.specs.Tops.{AreDoubts, AreTops, IsClear, IsDoubt, IsHeld, IsTop, size_at}
pub use Rattle.surf_lengths.proofs.Positive.{lengths_positive}
pub use Rattle.surf_signatures.proofs.Meeting.{climbed, either_first, none_between}
pub use Rattle.surf_signatures.proofs.Passing.{passing_left, passing_same, passing_taken}
pub use Rattle.surf_signatures.specs.Tables.{HangsBy, Signed, added_where, face_tree, words_for}
pub use Rattle.surf_signatures.specs.Ways.{way_class}
pub use Rattle.surf_treecheck.specs.declared.fault.CertFault.{CertFault}
pub use Rattle.surf_treecheck.specs.declared.fault.CertFault.TheVariants.{Dependent, Distance, Dual, Heavier, Memory}
pub use Rattle.surf_treecheck.specs.declared.fault.CertFault.TheVariants.{NotClosed, Parent, Shape, Slack, Uncovered}
pub use Rattle.surf_treecheck.specs.declared.fault.CertPart.{CertPart}
pub use Rattle.surf_treecheck.specs.declared.fault.CertPart.TheVariants.{Base, Faces, Loops, Vertices}
