pub mod Candidates
pub mod Consulted
pub mod Faults
pub mod Firsts
pub mod FixedPackages
pub mod Given
pub mod Laws
pub mod SaidGiven
