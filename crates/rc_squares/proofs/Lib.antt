pub mod Ranges
pub mod Squares
pub mod Worths
pub mod Crossed
pub mod Tallies
pub mod KeyOrders
pub mod Listings
