pub mod StandsFor
pub mod Limits
pub mod Chosen
pub mod Laws
pub mod Building
