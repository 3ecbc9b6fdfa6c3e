pub mod Amounts
pub mod Laws
pub mod Numbers
pub mod Places
pub mod Tallies
