pub mod AcrossLaws
pub mod CornerLaws
pub mod LinkLaws
pub mod FanLaws
pub mod ApartLaws
pub mod BorderLaws
pub mod TableLaws
pub mod FaultLaws
