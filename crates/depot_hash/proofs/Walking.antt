-- Going over the names in a folder.
use Rattle.std.proofs.Common.{◌≡◌, ℕ, ◌+◌, nat_lt, Bool, true, false, if◌then◌else◌, List, [], ◌∷◌, ◌++◌, Option, Some, None, Ok, Err, Ordering, nat_cmp, refl, ap, ◌∙◌}
use Rattle.std.specs.List.{flat_map, AllByRecursion}
use Rattle.std.specs.List.Sorted.{IsStrictlySortedBy}
use Rattle.std.specs.Option.{option_and_then}
use Rattle.std.specs.Ordering.{ordering_reverse}
use Rattle.std.specs.declared.cmp.Ordering.TheVariants.{Less, Equal, Greater}
use Rattle.std.specs.Cmp.Lexicographic.{slice_cmp, nat_list_cmp_total}
use Rattle.pkg_world.specs.Path.{Path}
use Rattle.pkg_world.specs.Tree.{Node, file, folder, Files, no_files, entry, find, names, files_in, below, at}
use Rattle.pkg_world.specs.declared.cause.LimitKind.{LimitKind}
use Rattle.pkg_world.specs.declared.cause.LimitKind.TheVariants.{TreeDepth, TreeFiles}
use Rattle.depot_hash.specs.Folders as spec
use Rattle.depot_hash.specs.Folders.{Met, a_file, passed, entries_in, entries_of, met_in, met_at, first_past}
use Rattle.depot_hash.specs.Walks.{added_at, added_by, seen_at, seen_by}

-- ---- a folder by its names

-- what its entries add, one after another
abbrev gathered : {X : Type 0} → (List ℕ → Option Node → List X) → Files → List X
gathered add no_files = []
gathered add (entry name node more) = add name (Some node) ++ gathered add more

abbrev by_name : {X : Type 0} → (List ℕ → Option Node → List X) → Files → List (List ℕ) → List X
by_name add files = flat_map (λ name. add name (find name files))

same_order : (o : Ordering) → o ≡ ordering_reverse o → o ≡ Equal
same_order Less h = cc
same_order Equal h = refl
same_order Greater h = cc

itself : (x : List ℕ) → slice_cmp nat_cmp x x ≡ Equal
itself x = same_order (slice_cmp nat_cmp x x) (nat_list_cmp_total.antisymm x x)

past_head : {X : Type 0} (add : List ℕ → Option Node → List X) (name : List ℕ) (node : Node) (more : Files) (rest : List (List ℕ)) → AllByRecursion (λ other. slice_cmp nat_cmp name other ≡ Less) rest
    → by_name add (entry name node more) rest ≡ by_name add more rest
past_head add name node more [] h = refl
past_head add name node more (other ∷ rest) h =
    let turned : slice_cmp nat_cmp other name ≡ Greater = nat_list_cmp_total.antisymm other name ∙ ap ordering_reverse h.0 in
    rw (turned, past_head add name node more rest h.1)

pub folder_by_names : {X : Type 0} (add : List ℕ → Option Node → List X) (files : Files) → IsStrictlySortedBy (slice_cmp nat_cmp) (names files) → gathered add files ≡ by_name add files (names files)
unfolding IsStrictlySortedBy
folder_by_names add no_files h = refl
folder_by_names add (entry name node more) h =
    rw (itself name, past_head add name node more (names more) h.0, folder_by_names add more h.1)

alone : (slot : Option Node) → option_and_then (below []) slot ≡ slot
alone None = refl
alone (Some node) = refl

under : (path : Path) (name : List ℕ) (slot : Option Node) (files : Files) → option_and_then (below path) slot ≡ Some (folder files) → option_and_then (below (path ++ name ∷ [])) slot ≡ find name files
under [] name None files h = cc
under [] name (Some (file b)) files h = cc
under [] name (Some (folder inner)) files h = let same : inner ≡ files = cc in rw same (alone (find name files))
under (part ∷ path) name None files h = cc
under (part ∷ path) name (Some node) files h = under path name (option_and_then (find part) (files_in node)) files h

-- what stands under a name in a folder
pub child_at : (all : Files) (path : Path) (name : List ℕ) (files : Files) → at path all ≡ Some (folder files) → at (path ++ name ∷ []) all ≡ find name files
child_at all path name files h = under path name (Some (folder all)) files h

entries_gathered : (runs : Path → Bool) (path : Path) (files : Files) → entries_in runs path files ≡ gathered (λ name. added_at runs (path ++ name ∷ []) name) files
unfolding entries_in entries_of
entries_gathered runs path no_files = refl
entries_gathered runs path (entry name node more) = rw (entries_gathered runs path more)

met_gathered : (depth : ℕ) (files : Files) → met_in depth files ≡ gathered (seen_at depth) files
unfolding met_in met_at
met_gathered depth no_files = refl
met_gathered depth (entry name node more) = rw (met_gathered depth more)

found_there : {X : Type 0} (add : List ℕ → Option Node → List X) (all : Files) (path : Path) (files : Files) → at path all ≡ Some (folder files) → (ns : List (List ℕ))
    → by_name add files ns ≡ flat_map (λ name. add name (at (path ++ name ∷ []) all)) ns
found_there add all path files h [] = refl
found_there add all path files h (name ∷ ns) = rw (child_at all path name files h, found_there add all path files h ns)

pub entries_by_names : (runs : Path → Bool) (all : Files) (path : Path) (files : Files) → at path all ≡ Some (folder files) → IsStrictlySortedBy (slice_cmp nat_cmp) (names files)
    → entries_in runs path files ≡ flat_map (added_by runs all path) (names files)
entries_by_names runs all path files h up =
    entries_gathered runs path files ∙ folder_by_names (λ name. added_at runs (path ++ name ∷ []) name) files up
    ∙ found_there (λ name. added_at runs (path ++ name ∷ []) name) all path files h (names files)

pub met_by_names : (depth : ℕ) (all : Files) (path : Path) (files : Files) → at path all ≡ Some (folder files) → IsStrictlySortedBy (slice_cmp nat_cmp) (names files)
    → met_in depth files ≡ flat_map (seen_by depth all path) (names files)
met_by_names depth all path files h up = met_gathered depth files ∙ folder_by_names (seen_at depth) files up ∙ found_there (seen_at depth) all path files h (names files)

-- ---- one name more

past_file : (room : Bool) (count : ℕ) (xs ys : List Met) (kind : LimitKind) → (passed (count + 1) xs ≡ Err kind → passed (count + 1) (xs ++ ys) ≡ Err kind)
    → (if room then passed (count + 1) xs else Err TreeFiles) ≡ Err kind → (if room then passed (count + 1) (xs ++ ys) else Err TreeFiles) ≡ Err kind
past_file true count xs ys kind next h = next h
past_file false count xs ys kind next h = h

past_folder : (deep : Bool) (count : ℕ) (xs ys : List Met) (kind : LimitKind) → (passed count xs ≡ Err kind → passed count (xs ++ ys) ≡ Err kind)
    → (if deep then Err TreeDepth else passed count xs) ≡ Err kind → (if deep then Err TreeDepth else passed count (xs ++ ys)) ≡ Err kind
past_folder true count xs ys kind next h = h
past_folder false count xs ys kind next h = next h

on_file : (room : Bool) (count now : ℕ) (xs ys : List Met) → (passed (count + 1) xs ≡ Ok now → passed (count + 1) (xs ++ ys) ≡ passed now ys)
    → (if room then passed (count + 1) xs else Err TreeFiles) ≡ Ok now → (if room then passed (count + 1) (xs ++ ys) else Err TreeFiles) ≡ passed now ys
on_file true count now xs ys next h = next h
on_file false count now xs ys next h = cc

on_folder : (deep : Bool) (count now : ℕ) (xs ys : List Met) → (passed count xs ≡ Ok now → passed count (xs ++ ys) ≡ passed now ys)
    → (if deep then Err TreeDepth else passed count xs) ≡ Ok now → (if deep then Err TreeDepth else passed count (xs ++ ys)) ≡ passed now ys
on_folder true count now xs ys next h = cc
on_folder false count now xs ys next h = next h

pub refused_on : (count : ℕ) (xs ys : List Met) (kind : LimitKind) → passed count xs ≡ Err kind → passed count (xs ++ ys) ≡ Err kind
refused_on count [] ys kind h = cc
refused_on count (a_file ∷ xs) ys kind h = past_file (nat_lt count 1048576) count xs ys kind (refused_on (count + 1) xs ys kind) h
refused_on count (spec.a_folder depth ∷ xs) ys kind h = past_folder (nat_lt 64 depth) count xs ys kind (refused_on count xs ys kind) h

pub counted_on : (count now : ℕ) (xs ys : List Met) → passed count xs ≡ Ok now → passed count (xs ++ ys) ≡ passed now ys
counted_on count now [] ys h = let same : count ≡ now = cc in rw same
counted_on count now (a_file ∷ xs) ys h = on_file (nat_lt count 1048576) count now xs ys (counted_on (count + 1) now xs ys) h
counted_on count now (spec.a_folder depth ∷ xs) ys h = on_folder (nat_lt 64 depth) count now xs ys (counted_on count now xs ys) h
