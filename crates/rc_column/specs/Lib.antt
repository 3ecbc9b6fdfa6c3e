pub mod Columns
pub mod EditCounts
pub mod Edges
pub mod Runs
pub mod Found
pub mod Rows
pub mod Layers
