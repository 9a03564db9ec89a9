pub mod Filing
pub mod Circling
pub mod Views
pub mod Nodes
pub mod Lending
pub mod LentViews
