-- What the proofs of classes and their evidence cite most besides, by one import.
pub use Rattle.surf_class.specs.Agreement.{AgreesAt}
pub use Rattle.surf_class.specs.Evidences.{counted, evidence_in, evidence_of, evidence_on, face_numbers, if_alone}
pub use Rattle.surf_class.specs.Evidences.{if_formed, is_ordered, is_rising, pair_numbers, rises_from, two_by_two}
pub use Rattle.surf_class.specs.Faults.{IsClassFault}
pub use Rattle.surf_class.specs.Numbers.{numbers_from, onto_numbers}
pub use Rattle.surf_class.specs.Sides.{AreAllSidesOf, AreSidesOf, IsParted, differs, is_inside, side_at}
pub use Rattle.surf_class.specs.Texts.{EvidenceIsReread, FacesFit, PairsFit, both_ends, counted_text}
pub use Rattle.surf_class.specs.Texts.{evidence_head_text}
pub use Rattle.surf_class.specs.declared.fault.ClassFault.{ClassFault}
pub use Rattle.surf_class.specs.declared.fault.ClassFault.TheVariants.{Boundary, Even, Face, OddFace, Pair}
pub use Rattle.surf_class.specs.declared.numbers.NumberFault.{NumberFault}
pub use Rattle.surf_class.specs.declared.numbers.NumberFault.TheVariants.{Bad}
pub use Rattle.surf_classes.proofs.Listed.{climbing_at, passing_below, passing_climb}
pub use Rattle.surf_classes.proofs.OddChoice.{joint_even, numbers_rise, odd_choice_is_filtered, odd_choice_is_right}
pub use Rattle.surf_classes.specs.Evidence.{AreClosed, Evidence, IsChosenNull, IsChosenOdd, IsEvidence, IsNullEvidence}
pub use Rattle.surf_classes.specs.Evidence.{IsOddEvidence, IsRising, has_odd_sides, is_listed, is_odd_in, joint_parity}
pub use Rattle.surf_classes.specs.Evidence.{null_faces, odd_pairs}
pub use Rattle.surf_classes.specs.Faults.{IsEvenNumber, IsNoBoundary, IsNoFace, IsNoPair, IsOddFace}
pub use Rattle.surf_cotree.specs.Tables.{CotreeTables, cotree_of, split_with}
pub use Rattle.surf_signatures.proofs.Passing.{passing_left, passing_same, passing_taken}
pub use Rattle.surf_signatures.specs.Signs.{has_left}
pub use Rattle.surf_treecheck.proofs.Steps.{count_steps, one_along, steps_at}
pub use Rattle.surf_treecheck.specs.First.{FailsFirst, HoldsBelow}
pub use Rattle.surf_treecheck.specs.Split.{AreFlags, is_flagged}
pub use Rattle.surf_z2.proofs.ParityLaws.{odd-append, xor_back, xors}
pub use Rattle.surf_z2.specs.Parity.{xor_comm}
