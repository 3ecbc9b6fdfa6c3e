pub mod RowRates
pub mod Scenes
