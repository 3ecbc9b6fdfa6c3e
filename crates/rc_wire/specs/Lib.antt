pub mod Keys
pub mod Parts
pub mod Items
pub mod Paths
pub mod Reading
pub mod Forms
