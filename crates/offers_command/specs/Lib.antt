pub mod OfferLines
pub mod OffersDue
