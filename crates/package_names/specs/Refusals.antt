-- What the faults of this crate's calls tell.
use Rattle.std.specs.Prelude.{◌≡◌, ℕ, Result, Err}
use Rattle.offer_terms.specs.Offered.{Id}
use Rattle.package_names.specs.Names as name
use Rattle.package_names.specs.Stanzas as stanza
use Rattle.package_names.specs.declared.fault.NameFault.{NameFault}
use Rattle.package_names.specs.declared.fault.NameFault.TheVariants as names
use Rattle.package_names.specs.declared.fault.StanzaFault.{StanzaFault}
use Rattle.package_names.specs.declared.fault.StanzaFault.TheVariants as stanzas

-- why a name means no package; want of memory tells nothing
abbrev pub NameRefused : Result Id name.NameRefusal → NameFault → Type 0
NameRefused answer (names.NameTaken had) = answer ≡ Err (name.taken had)
NameRefused answer (names.UnknownName text) = answer ≡ Err (name.unknown text)
NameRefused answer (names.UnknownPackage id) = answer ≡ Err (name.unknown_package id)
NameRefused answer (names.AmbiguousName least next) = answer ≡ Err (name.ambiguous least next)
NameRefused answer names.Memory = Unit {0}

-- why a name means no stanza; want of memory tells nothing
abbrev pub StanzaRefused : Result ℕ stanza.StanzaRefusal → StanzaFault → Type 0
StanzaRefused answer (stanzas.NotInManifest text) = answer ≡ Err (stanza.not_in_manifest text)
StanzaRefused answer (stanzas.AmbiguousName least next) = answer ≡ Err (stanza.ambiguous least next)
StanzaRefused answer stanzas.Memory = Unit {0}
