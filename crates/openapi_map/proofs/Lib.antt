mod CloneLemmas
pub mod EntryLemmas
mod EqualityLemmas
mod HeldLemmas
mod IndexLemmas
pub mod IterLemmas
pub mod LinkLemmas
mod PlaceLemmas
mod RemoveLemmas
mod RetainLemmas
mod MarkLemmas
mod ZipLemmas
