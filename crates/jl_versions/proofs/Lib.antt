mod Gives
mod GrammarRuns
mod Knows
mod Labels
mod Numerals
mod PrintReads
mod RunsGrammar
