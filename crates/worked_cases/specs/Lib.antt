pub mod Differing
pub mod Folders
