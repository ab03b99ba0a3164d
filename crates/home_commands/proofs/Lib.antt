pub mod StanzaFound
mod Phases
