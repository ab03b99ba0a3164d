pub mod Scope
pub mod AllOffers
pub mod Numbers
pub mod Gathered
pub mod Laws
pub mod Consulted
pub mod Made
