pub mod Consulted
pub mod Laws
pub mod Libraries
pub mod SaidLibrary
