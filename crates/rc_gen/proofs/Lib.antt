pub mod Orders
pub mod Rows
pub mod Amounts
pub mod Additions
