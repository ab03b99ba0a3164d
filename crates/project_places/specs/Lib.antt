pub mod Active
pub mod Elements
pub mod Faults
pub mod Files
pub mod ManifestPath
pub mod Seen
