-- What is written of a stanza reads as the stanza: the texts of its values mean those values.
use Rattle.std.specs.Prelude.{◌≡◌, ℕ, true, false, List, [], ◌∷◌, map, Option, Some, None, Ok}
use Rattle.uuid.specs.Text.{hyphenated_text, lower, parsed}
use Rattle.jl_versions.specs.Printing.{printed}
use Rattle.jl_versions.specs.Meant.{version_meant}
use Rattle.jl_versions.specs.declared.version.Version.{Version}
use Rattle.pkg_world.specs.ByName.{is_by_name}
use Rattle.pkg_world.specs.TreeIds.{tree_of, tree_text}
use Rattle.manifest_file.specs.Saying.{SaidStanza, first_again}
use Rattle.manifest_file.specs.Written.{are_listable}
use Rattle.manifest_file.specs.declared.bearers.Bearers.{Bearers}
use Rattle.manifest_file.specs.declared.origin.Origin.{Origin}
use Rattle.manifest_file.specs.declared.origin.Origin.TheVariants.{Tree, Path, Repo, Std}

-- the text of an identifier is read as it
abbrev pub UuidBack : List ℕ → Type 0
UuidBack id = parsed (hyphenated_text lower id) ≡ Some id

-- the text of a version means it
abbrev pub VersionBack : Option Version → Type 0
VersionBack None = Unit {0}
VersionBack (Some version) = version_meant (printed version) ≡ Ok version

abbrev pub TreeBack : List ℕ → Type 0
TreeBack tree = tree_of (tree_text tree) ≡ Some tree

-- the text of its tree is read as that
abbrev pub OriginBack : Origin → Type 0
OriginBack (Tree tree) = TreeBack tree
OriginBack (Path path) = Unit {0}
OriginBack (Repo url rev subdir tree) = TreeBack tree
OriginBack Std = Unit {0}

abbrev pub IdsBack : List (List ℕ × List ℕ) → Type 0
IdsBack [] = Unit {0}
IdsBack (pair ∷ pairs) = UuidBack pair.1 × IdsBack pairs

-- dependencies go by their names, and where their identifiers are written these are read
abbrev pub DependenciesBack : (List ℕ → Bearers) → List (List ℕ × List ℕ) → Type 0
DependenciesBack bearers ids = (is_by_name ids ≡ true) × (are_listable bearers ids ≡ false → IdsBack ids)

pub record StanzaBack (bearers : List ℕ → Bearers) (stanza : SaidStanza) : Type 0 where
  pub uuid : UuidBack stanza.uuid
  pub version : VersionBack stanza.version
  pub origin : OriginBack stanza.origin
  pub deps : DependenciesBack bearers stanza.deps
  pub weakdeps : DependenciesBack bearers stanza.weakdeps

abbrev pub StanzasBack : (List ℕ → Bearers) → List SaidStanza → Type 0
StanzasBack bearers [] = Unit {0}
StanzasBack bearers (stanza ∷ stanzas) = StanzaBack bearers stanza × StanzasBack bearers stanzas

-- no identifier stands twice
abbrev pub StandOnce : List SaidStanza → Type 0
StandOnce stanzas = first_again (λ q. false) (map (λ stanza. stanza.uuid) stanzas) ≡ None
