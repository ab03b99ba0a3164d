mod LimitLemmas
mod JudgeLemmas
mod DueLemmas
mod PhaseLemmas
mod LawLemmas
