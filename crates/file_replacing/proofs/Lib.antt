pub mod ReplaceLemmas
mod OtherLemmas
