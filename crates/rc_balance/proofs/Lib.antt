pub mod Counts
pub mod Couplings
pub mod Balanced
