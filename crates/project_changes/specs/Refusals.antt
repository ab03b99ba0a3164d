-- Why a change of a project is refused.
use Rattle.std.specs.Prelude.{ℕ, Option, Result, Ok, Err}
use Rattle.offer_terms.specs.Offered.{Text, Id}
use Rattle.package_names.specs.Names as names
use Rattle.package_names.specs.Names.{NameRefusal}
use Rattle.package_names.specs.Stanzas as stanzas
use Rattle.package_names.specs.Stanzas.{StanzaRefusal}

-- what the project has under a name that is taken; a name that no package has; an identifier that no package has under the
-- name; the two least identifiers of a name that several packages have; a name that is no dependency; one that no stanza has;
-- one whose stanza has nothing that can be freed
pub data ChangeRefusal : Type 0 where
  taken : Option Id → ChangeRefusal
  unknown : Text → ChangeRefusal
  unknown_package : Id → ChangeRefusal
  ambiguous : Id → Id → ChangeRefusal
  not_in_project : Text → ChangeRefusal
  not_in_manifest : Text → ChangeRefusal
  not_pinned : Text → ChangeRefusal

abbrev pub name_refusal : NameRefusal → ChangeRefusal
name_refusal (names.taken had) = taken had
name_refusal (names.unknown name) = unknown name
name_refusal (names.unknown_package id) = unknown_package id
name_refusal (names.ambiguous least next) = ambiguous least next

-- what a name means that is to be added
abbrev pub of_name : Result Id NameRefusal → Result Id ChangeRefusal
of_name (Ok id) = Ok id
of_name (Err refusal) = Err (name_refusal refusal)

abbrev pub stanza_refusal : StanzaRefusal → ChangeRefusal
stanza_refusal (stanzas.not_in_manifest name) = not_in_manifest name
stanza_refusal (stanzas.ambiguous least next) = ambiguous least next

-- the place of the stanza that a name means
abbrev pub of_stanza : Result ℕ StanzaRefusal → Result ℕ ChangeRefusal
of_stanza (Ok place) = Ok place
of_stanza (Err refusal) = Err (stanza_refusal refusal)
