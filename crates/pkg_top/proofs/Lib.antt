pub mod Depots
