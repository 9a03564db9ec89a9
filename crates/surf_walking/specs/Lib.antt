pub mod ChosenDesks
