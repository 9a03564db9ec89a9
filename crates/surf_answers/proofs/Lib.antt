pub mod Commands
pub mod Common
pub mod Composing
pub mod Fronts
pub mod LengthLaws
pub mod Saying
pub mod TextsAt
