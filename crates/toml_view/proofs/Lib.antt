pub mod Documents
pub mod Shapes
pub mod Walks
