pub mod Flows
pub mod Schemes
