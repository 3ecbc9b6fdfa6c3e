pub mod Outcomes
pub mod ScriptsRead
pub mod Sized
pub mod Holding
pub mod Keeping
