pub mod Names
pub mod Refusals
pub mod Stanzas
pub mod Taken
