pub mod Annotations
pub mod Enumerations
pub mod Masks
pub mod PartForms
pub mod TypeNames
