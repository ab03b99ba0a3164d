pub mod Refusals
pub mod Words
pub mod Stanzas
pub mod Fixing
pub mod Faults
