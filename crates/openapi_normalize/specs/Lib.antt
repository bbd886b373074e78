pub mod Indent
pub mod Normalized
