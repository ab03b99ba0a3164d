-- The extensions of a registered package's tree: those that the manifest's stanza of the same identifier and tree has. (Own
-- rule.)
use Rattle.std.specs.Prelude.{ℕ, List, [], fold, Option, Some, None}
use Rattle.std.specs.BTreeMap.{insert_entry}
use Rattle.package_tables.specs.Row.{by_bytes}
use Rattle.manifest_file.specs.Saying.{SaidStanza}
use Rattle.manifest_file.specs.declared.origin.Origin.{Origin}
use Rattle.manifest_file.specs.declared.origin.Origin.TheVariants as origins
use Rattle.package_offers.specs.TreeExts.{TreeExts}

-- a stanza from a registry or from a repository has a tree
abbrev pub tree_of : Origin → Option (List ℕ)
tree_of (origins.Tree tree) = Some tree
tree_of (origins.Repo url rev subdir tree) = Some tree
tree_of (origins.Path text) = None
tree_of origins.Std = None

-- trees by the identifiers of their packages
abbrev pub ByPackage : Type 0
ByPackage = List (List ℕ × TreeExts)

abbrev pub put_tree : ByPackage → SaidStanza → List ℕ → ByPackage
put_tree trees stanza tree = insert_entry by_bytes trees stanza.uuid (record { tree = tree; extensions = stanza.extensions })

abbrev pub put_some : ByPackage → SaidStanza → Option (List ℕ) → ByPackage
put_some trees stanza None = trees
put_some trees stanza (Some tree) = put_tree trees stanza tree

-- one stanza more; one of a package that is there already takes its place
abbrev pub put_stanza : ByPackage → SaidStanza → ByPackage
put_stanza trees stanza = put_some trees stanza (tree_of stanza.origin)

-- the trees of stanzas
abbrev pub trees_of : List SaidStanza → ByPackage
trees_of stanzas = fold put_stanza [] stanzas
