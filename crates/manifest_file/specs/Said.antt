-- A manifest as plain lists: the room that its lists set aside for more is no part of it.
use Rattle.std.specs.Prelude.{map}
use Rattle.manifest_file.specs.declared.manifest.Manifest.{Manifest}
use Rattle.manifest_file.specs.declared.stanza.Stanza.{Stanza}
use Rattle.manifest_file.specs.Saying.{SaidStanza, Said}

-- what a stanza says
abbrev pub said_stanza : Stanza → SaidStanza
said_stanza stanza = record {
  name = stanza.name;
  uuid = stanza.uuid;
  version = stanza.version;
  origin = stanza.origin;
  pinned = stanza.pinned;
  deps = stanza.deps.items;
  weakdeps = stanza.weakdeps.items;
  extensions = stanza.extensions.items;
}

-- what a manifest says
abbrev pub said : Manifest → Said
said manifest = record { julia_version = manifest.julia_version; stanzas = map said_stanza manifest.stanzas.items }
