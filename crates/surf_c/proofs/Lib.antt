mod WordLaws
mod Telling
