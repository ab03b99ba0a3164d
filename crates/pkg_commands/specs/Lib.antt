pub mod Commands
pub mod Changes
pub mod Demand
pub mod Fetching
pub mod Edit
