pub mod Read
pub mod Write
