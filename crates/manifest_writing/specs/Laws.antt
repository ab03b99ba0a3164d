-- What a written manifest says, in the subject's words.
use Rattle.std.specs.Prelude.{◌≡◌, map, find, Some, Contains, IsSome}
use Rattle.std.specs.List.Sorted.{IsStrictlySortedBy}
use Rattle.std.specs.Map.{keys_of}
use Rattle.std.specs.Option.{option_and_then}
use Rattle.std.specs.Str.{bytes_eq}
use Rattle.std.specs.Prelude.{List}
use Rattle.jl_versions.specs.declared.version.Version.{Version}
use Rattle.manifest_file.specs.Saying.{SaidStanza}
use Rattle.offer_terms.specs.ById.{AreRising}
use Rattle.offer_terms.specs.Booked.{Packed, book_offers}
use Rattle.offer_terms.specs.Demanded.{Wanted}
use Rattle.offer_terms.specs.Offered.{Id, Offering, Selected, version_in, offer_at}
use Rattle.manifest_writing.specs.Writing.{Found, Key, by_key, name_in, is_pinned, stanza_of, written}

abbrev pub key_of : SaidStanza → Key
key_of stanza = (stanza.name, stanza.uuid)

-- the stanzas stand in the order of their names and identifiers, each package once
abbrev pub StanzasRise : Type 0
StanzasRise = (book : List Packed) (w : Wanted) (found : Found) (s : Selected) → IsStrictlySortedBy by_key (map key_of (written book w found s).stanzas)

-- each package once, and the book offers it at its version; every feasible selection is such a one
pub record IsOnBook (book : List Packed) (s : Selected) : Type 0 where
  pub once : AreRising (keys_of s)
  pub offered : (u : Id) (v : Version) → version_in s u ≡ Some v → IsSome (offer_at (book_offers book) u v)

-- the version that the manifest says of a package is the selected one, and it says nothing of a package that isn't selected
abbrev pub SelectionIsSaid : Type 0
SelectionIsSaid = (book : List Packed) (w : Wanted) (found : Found) (s : Selected) → IsOnBook book s →
    (u : Id) → option_and_then (λ (t : SaidStanza). t.version) (find (λ t. bytes_eq u t.uuid) (written book w found s).stanzas) ≡ version_in s u

-- what is said of a package is what is offered at its selected version
pub record SaysAnOffer (book : List Packed) (w : Wanted) (found : Found) (s : Selected) (t : SaidStanza) : Type 0 where
  pub version : Version
  pub offer : Offering
  pub selected : version_in s t.uuid ≡ Some version
  pub offered : offer_at (book_offers book) t.uuid version ≡ Some offer
  pub said : t ≡ stanza_of (is_pinned w) found ((name_in book t.uuid, t.uuid), version) offer

abbrev pub StanzasSayOffers : Type 0
StanzasSayOffers = (book : List Packed) (w : Wanted) (found : Found) (s : Selected) → AreRising (keys_of s) →
    (t : SaidStanza) → Contains (written book w found s).stanzas t → SaysAnOffer book w found s t
