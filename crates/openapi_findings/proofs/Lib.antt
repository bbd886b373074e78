pub mod Adding
pub mod Leading
pub mod Repeating
pub mod Looking
pub mod Placing
pub mod Writing
pub mod Excerpting
