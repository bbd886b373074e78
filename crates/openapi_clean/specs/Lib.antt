pub mod Commands
pub mod Output
