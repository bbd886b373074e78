pub mod Reference
pub mod StatusCode
pub mod VariantOr
pub mod Words
