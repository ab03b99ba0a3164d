pub mod Orders
pub mod EditDue
pub mod Laws
