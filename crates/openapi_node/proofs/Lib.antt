pub mod DataOrder
pub mod EqualLemmas
pub mod JsonLemmas
mod NamedLemmas
mod PairLemmas
pub mod SameValue
pub mod TreeLemmas
pub mod Walks
pub mod WholeData
