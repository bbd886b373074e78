pub mod Below
pub mod Cleaned
pub mod Cut
pub mod Faults
pub mod Plans
pub mod Without
