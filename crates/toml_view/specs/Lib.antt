pub mod Document
pub mod Reading
pub mod KeyOrder
pub mod Answers
pub mod Causes
