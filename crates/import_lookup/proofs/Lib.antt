pub mod Agreement
pub mod Served
pub mod Whole
