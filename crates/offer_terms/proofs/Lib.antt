pub mod Rising
pub mod Searches
pub mod Finds
pub mod Offers
pub mod Books
