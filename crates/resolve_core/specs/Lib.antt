pub mod Resolved
pub mod Laws
pub mod Classed
