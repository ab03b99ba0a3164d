-- What `verify` is due to answer: whether the folder in which a stanza's tree is installed has that tree. (own rule)
use Rattle.std.specs.Prelude.{ℕ, Bool, if◌then◌else◌, List, [], ◌∷◌, ◌++◌, codes, Option, Some, None, option_map, Result, Ok, Err}
use Rattle.std.specs.List.{filter_map}
use Rattle.std.specs.Ordering.{nat_cmp, is_gt}
use Rattle.std.specs.Cmp.Lexicographic.{slice_cmp}
use Rattle.std.specs.Str.{bytes_eq}
use Rattle.uuid.specs.Text.{hyphenated_text, lower}
use Rattle.pkg_world.specs.Each.{then_ok}
use Rattle.pkg_world.specs.Path.{Path, joined, pieces_at}
use Rattle.pkg_world.specs.Tree.{Files}
use Rattle.pkg_world.specs.TreeIds.{tree_text}
use Rattle.pkg_world.specs.declared.place.Place.{Place}
use Rattle.manifest_file.specs.Saying.{SaidStanza}
use Rattle.manifest_file.specs.declared.origin.Origin.{Origin}
use Rattle.manifest_file.specs.declared.origin.Origin.TheVariants.{Tree, Path as PathOrigin, Repo, Std}
use Rattle.depot_hash.specs.Folders.{folder_id, NoId, not_there, past, first_past}
use Rattle.depot_hash.specs.Installed.{installed_in}
use Rattle.home_commands.specs.Home.{Both, both_in}
use Rattle.command_answers.specs.declared.status.Difference.TheVariants.{Trees}
use Rattle.command_answers.specs.declared.status.Status.{Status}
use Rattle.command_answers.specs.declared.status.Status.TheVariants.{NoSource, AmbiguousName, Limit, Differs, NotInManifest}
use Rattle.home_commands.specs.declared.verify_answer.Bearers.{Bearers}
use Rattle.home_commands.specs.declared.verify_answer.Bearers.TheVariants.{Nobody, One, Several}

-- a stanza with a tree, as its identifier and its tree
abbrev pub Bearer : Type 0
Bearer = List ℕ × List ℕ

-- the tree of a package; one at a path and one of the standard library name none
abbrev pub tree_of : Origin → Option (List ℕ)
tree_of (Tree tree) = Some tree
tree_of (PathOrigin text) = None
tree_of (Repo url rev subdir tree) = Some tree
tree_of Std = None

abbrev pub bearer_of : List ℕ → SaidStanza → Option Bearer
bearer_of name stanza = if bytes_eq stanza.name name then option_map (λ tree. (stanza.uuid, tree)) (tree_of stanza.origin) else None

-- the stanzas of a name that have a tree
abbrev pub tree_stanzas : List ℕ → List SaidStanza → List Bearer
tree_stanzas name stanzas = filter_map (bearer_of name) stanzas

-- whether an identifier comes after another by their bytes
abbrev pub is_after : List ℕ → List ℕ → Bool
is_after left right = is_gt (slice_cmp nat_cmp left right)

abbrev pub put_in_order : Bearer → List Bearer → List Bearer
put_in_order bearer [] = bearer ∷ []
put_in_order bearer (least ∷ more) = if is_after bearer.0 least.0 then least ∷ put_in_order bearer more else bearer ∷ least ∷ more

-- in the order of the identifiers
abbrev pub in_order : List Bearer → List Bearer
in_order [] = []
in_order (bearer ∷ more) = put_in_order bearer (in_order more)

-- none, the one, or the two least of several
abbrev pub first_two : List Bearer → Bearers
first_two [] = Nobody
first_two (one ∷ []) = One one.0 one.1
first_two (least ∷ next ∷ more) = Several least.0 next.0

-- who bears a name and has a tree
abbrev pub bearers_in : List ℕ → List SaidStanza → Bearers
bearers_in name stanzas = first_two (in_order (tree_stanzas name stanzas))

-- the paths of a list, each taken from a folder; one that rises above the root counts for nothing
abbrev pub exec_paths : Path → Option (List ℕ) → List Path
exec_paths folder None = []
exec_paths folder (Some text) = filter_map (joined folder) (pieces_at 58 text)

-- `verified NAME UUID TREE`
abbrev pub verified_line : List ℕ → List ℕ → List ℕ → List ℕ
verified_line name uuid tree = codes "verified " ++ (name ++ (codes " " ++ (hyphenated_text lower uuid ++ (codes " " ++ (tree_text tree ++ 10 ∷ [])))))

-- why a folder has no id; one that isn't there is no folder of the tree
abbrev pub without_id : List ℕ → NoId → Status
without_id uuid not_there = NoSource (Some uuid)
without_id uuid (past kind) = Limit kind (first_past kind)

-- the tree that a stanza names, beside that of the folder (Git's object format)
abbrev pub compared : List ℕ → List ℕ → List ℕ → Result (List ℕ) NoId → Result (List ℕ) Status
compared name uuid tree (Ok found) = if bytes_eq tree found then Ok (verified_line name uuid tree) else Err (Differs (Trees tree found))
compared name uuid tree (Err why) = Err (without_id uuid why)

abbrev pub in_folder : Files → List ℕ → Option (List ℕ) → List ℕ → List ℕ → Option Path → Result (List ℕ) Status
in_folder files name list uuid tree None = Err (NoSource (Some uuid))
in_folder files name list uuid tree (Some folder) = compared name uuid tree (folder_id files folder (exec_paths folder list))

-- only the one that bears a name can be looked for
abbrev pub verify_bearers : Files → List Path → List ℕ → Option (List ℕ) → Bearers → Result (List ℕ) Status
verify_bearers files depots name list Nobody = Err (NotInManifest name)
verify_bearers files depots name list (One uuid tree) = in_folder files name list uuid tree (installed_in files depots name uuid tree)
verify_bearers files depots name list (Several least next) = Err (AmbiguousName least next)

abbrev pub verify_of : Files → Place → List ℕ → Option (List ℕ) → Both → Result (List ℕ) Status
verify_of files place name list both = verify_bearers files place.depots.items name list (bearers_in name both.stanzas)

abbrev pub verify_due : Files → Place → List ℕ → Option (List ℕ) → Result (List ℕ) Status
verify_due files place name list = then_ok (both_in files place) (verify_of files place name list)
