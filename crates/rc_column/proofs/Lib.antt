pub mod Edges
pub mod Walks
pub mod Rows
pub mod FaceLists
pub mod Layers
