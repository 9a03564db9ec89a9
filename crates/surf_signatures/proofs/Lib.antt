pub mod Meeting
pub mod Toggling
pub mod Written
pub mod Rewritten
pub mod WayLaws
pub mod Passing
