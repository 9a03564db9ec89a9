pub mod Leads
pub mod Named
pub mod OneAnswer
pub mod Run
pub mod TwoRuns
