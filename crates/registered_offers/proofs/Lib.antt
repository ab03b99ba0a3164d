pub mod ConsultedLemmas
pub mod MergedLemmas
pub mod ReadingLemmas
pub mod RowLemmas
