-- Laws of the choice of a least basis from loops: at one base, at all, at few, and as they are found.
pub mod BasisLaws
pub mod CoveredLaws
pub mod SimpleLaws
pub mod CandidateLaws
pub mod ChoiceExists
pub mod FewBasesLaws
pub mod FirstCycleLaws
pub mod FirstFoundLaws
pub mod FoundLaws
pub mod FoundPlaces
pub mod GreedyChoiceLaws
pub mod LoopsAtLaws
pub mod LoopsOne
pub mod OneChoice
pub mod SomeBasesLaws
