pub mod ConsultedLemmas
mod FirstFolder
mod Listing
