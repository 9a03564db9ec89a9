pub mod ChosenFits
