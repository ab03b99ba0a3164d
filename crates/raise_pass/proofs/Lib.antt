pub mod MarkLemmas
pub mod ReachLemmas
pub mod StuckLemmas
pub mod TrimLemmas
pub mod FinishLemmas
pub mod KeepLemmas
