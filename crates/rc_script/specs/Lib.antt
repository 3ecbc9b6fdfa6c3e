pub mod Items
pub mod Begins
pub mod Means
pub mod Forms
pub mod Reading
pub mod Rows
pub mod Whole
