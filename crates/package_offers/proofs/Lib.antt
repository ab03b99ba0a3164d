mod GivenLemmas
pub mod NamedLemmas
pub mod OfferLemmas
