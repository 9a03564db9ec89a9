pub mod ShapeLaws
mod WordLaws
