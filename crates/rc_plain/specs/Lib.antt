pub mod BothAxes
pub mod Squares
