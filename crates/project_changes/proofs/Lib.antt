mod Rising
pub mod Refused
mod Places
