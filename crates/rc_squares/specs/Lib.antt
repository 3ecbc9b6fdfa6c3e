pub mod Sides
pub mod Crossing
pub mod Found
pub mod Worths
pub mod Tallies
pub mod Entries
