pub mod Finishing
pub mod Laws
pub mod Reached
pub mod Scratch
pub mod Changed
