pub mod Seen
pub mod Once
