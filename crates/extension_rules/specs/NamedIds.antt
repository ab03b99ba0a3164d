-- Identifiers that are made of names (RFC 9562, version 5).
use Rattle.std.specs.Prelude.{ℕ, List, ◌++◌, take}
use Rattle.sha1.specs.Sha1.{sha1}
use Rattle.uuid.specs.Parts.{with_version, with_variant}
use Rattle.uuid.specs.declared.Version.TheVariants.{Sha1}
use Rattle.uuid.specs.declared.Variant.TheVariants.{RFC4122}

-- the identifier of a text in a namespace
abbrev pub named_id : List ℕ → List ℕ → List ℕ
named_id namespace text = with_version (with_variant (take 16 (sha1 (namespace ++ text))) RFC4122) Sha1

-- the identifier of an extension: that of its name in the namespace of its parent's identifier (own rule, after Julia's
-- loader)
abbrev pub extension_id : List ℕ → List ℕ → List ℕ
extension_id parent name = named_id parent name
