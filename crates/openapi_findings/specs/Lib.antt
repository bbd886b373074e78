pub mod Pointers
pub mod Stated
pub mod Repeated
pub mod Numbers
pub mod Findings
pub mod Escaped
pub mod Excerpts
pub mod Printed
