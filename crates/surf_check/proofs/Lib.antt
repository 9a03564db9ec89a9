pub mod DescentLaws
pub mod FaultLaws
pub mod SideWays
pub mod GrowthLaws
pub mod Misfits
pub mod OneWayLaws
