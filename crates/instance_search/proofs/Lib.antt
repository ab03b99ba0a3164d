pub mod FrontLemmas
pub mod RatedLemmas
pub mod AnswerLemmas
pub mod ProductLemmas
pub mod AlikeLemmas
pub mod OneLemmas
