pub mod Text
pub mod Bad
pub mod Meant
pub mod Laws
