pub mod Table
pub mod Found
pub mod Numbers
pub mod Parts
pub mod Words
pub mod Seen
