pub mod ContentForms
pub mod Fields
