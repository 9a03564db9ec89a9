pub mod CycleTexts
pub mod HeadTexts
