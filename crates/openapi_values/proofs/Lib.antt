pub mod CodeEq
pub mod CodeTexts
pub mod WordLaws
