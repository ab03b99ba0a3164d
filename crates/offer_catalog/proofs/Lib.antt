mod ConsultedLemmas
mod FixedFound
mod InOrder
mod NamedFound
mod StanzasFound
