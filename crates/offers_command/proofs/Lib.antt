pub mod OfferRows
