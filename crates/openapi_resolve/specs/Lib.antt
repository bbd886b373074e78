pub mod Resolved
pub mod Sections
