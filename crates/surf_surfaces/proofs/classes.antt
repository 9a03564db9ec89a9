-- Laws of homology classes: sums, signatures, independence, and what is least.
pub mod SumLaws
pub mod SignatureLaws
pub mod ClassLaws
pub mod CotreeLaws
pub mod LeastLaws
pub mod LeastCycleLaws
pub mod ShortSums
pub mod ShortSumLaws
pub mod NoLongerLaws
pub mod OrderedNumbers
pub mod PlaceLaws
