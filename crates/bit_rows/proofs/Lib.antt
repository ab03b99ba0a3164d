pub mod LaneLemmas
pub mod BitLemmas
pub mod RowLemmas
