mod PrintableLemmas
mod DueLemmas
mod LawLemmas
mod EndLemmas
