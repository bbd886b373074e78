pub mod Components
pub mod Tokens
