mod Meanings
pub mod Cuts
pub mod Ends
pub mod Machines
pub mod NumberReads
pub mod PartReads
pub mod RangeReads
pub mod SpecReads
