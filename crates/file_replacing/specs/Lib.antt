pub mod Replacing
