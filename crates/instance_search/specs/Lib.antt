pub mod Rated
pub mod Written
pub mod Searched
pub mod Laws
