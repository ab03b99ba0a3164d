mod AlikeLemmas
pub mod AnswerLemmas
mod LimitLemmas
mod LogLemmas
