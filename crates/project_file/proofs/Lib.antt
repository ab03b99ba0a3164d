pub mod Orders
pub mod Rests
pub mod Members
pub mod Written
pub mod Printed
pub mod NamePlaces
