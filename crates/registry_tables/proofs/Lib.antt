mod Adding
pub mod Agreeing
mod Listing
pub mod Ordered
mod Packages
mod RegistryOrders
