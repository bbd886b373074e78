pub mod HeldRows
pub mod ItemSizes
pub mod MaskLaws
pub mod SortByNames
