pub mod ByName
pub mod NamedIds
pub mod Rules
