pub mod Tree
pub mod Refutes
pub mod Within
pub mod Found
pub mod Scratch
pub mod Renumbered
pub mod Moved
