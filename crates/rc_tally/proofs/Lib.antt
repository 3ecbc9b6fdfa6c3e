pub mod Gathering
pub mod Merges
pub mod Merging
pub mod Named
pub mod Orders
pub mod Places
pub mod Shuffles
