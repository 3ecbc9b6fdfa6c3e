pub mod Running
pub mod Kept
pub mod Steps
pub mod Edits
