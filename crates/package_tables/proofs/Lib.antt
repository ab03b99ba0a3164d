mod Among
mod Clashes
mod Marks
mod NamesInOrder
mod OneValue
mod Ordered
mod Rows
mod Twice
pub mod Walks
