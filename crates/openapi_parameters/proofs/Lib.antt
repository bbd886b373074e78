pub mod SharedRows
pub mod SharedSlots
