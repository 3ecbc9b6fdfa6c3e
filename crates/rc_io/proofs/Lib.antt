pub mod Growth
pub mod Piecewise
pub mod Remains
