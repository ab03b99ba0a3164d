pub mod AsRegistry
pub mod ConsultedLemmas
mod FirstCounts
mod Stopped
