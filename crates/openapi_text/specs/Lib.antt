pub mod Laws
pub mod Located
pub mod Status
pub mod Texts
