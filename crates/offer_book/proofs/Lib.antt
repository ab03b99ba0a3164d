mod BookLemmas
mod GatherLemmas
mod MentionLemmas
mod RestLemmas
mod SourceLemmas
mod StepLemmas
mod WalkLemmas
