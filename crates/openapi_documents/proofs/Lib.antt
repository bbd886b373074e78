pub mod AllOperations
pub mod Documents
pub mod Opened
pub mod PartRows
pub mod PresentForms
