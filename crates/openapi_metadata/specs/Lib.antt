pub mod Objects
pub mod Links
