pub mod ById
pub mod Offered
pub mod Demanded
pub mod Feasible
pub mod Booked
pub mod Kept
pub mod Laws
