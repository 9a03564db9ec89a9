pub mod MadeLaws
pub mod ChainLaws
