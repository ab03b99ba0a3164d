pub mod Orbit
pub mod Once
pub mod Members
pub mod Apart
pub mod Plain
pub mod Parted
pub mod Known
pub mod Pushed
