pub mod Limited
pub mod Answered
pub mod LogDue
