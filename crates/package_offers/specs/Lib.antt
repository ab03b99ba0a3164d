pub mod GivenOffers
pub mod RegistryOffers
pub mod TreeExts
