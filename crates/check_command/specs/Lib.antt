pub mod Lines
pub mod CheckDue
pub mod Laws
