pub mod OffWalks
pub mod Orders
pub mod FirstBases
pub mod RoundLaws
pub mod Tests
pub mod DualTests
pub mod SearchSheets
pub mod Needs
