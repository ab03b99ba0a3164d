-- Git's trees (Git's object format).
use Rattle.std.specs.Prelude.{◌≡◌, ℕ, ◌==◌, nat_lt, Bool, true, false, not, ◌&&◌, List, [], ◌∷◌, ◌++◌, fold, count_by, Option, Some, None, codes}
use Rattle.std.specs.List.{flat_map, list_all}
use Rattle.std.specs.Map.{values_of}
use Rattle.std.specs.BTreeMap.{insert_entry}
use Rattle.std.specs.Ordering.{nat_cmp, is_lt}
use Rattle.std.specs.Cmp.Lexicographic.{slice_cmp}
use Rattle.std.specs.Str.{bytes_eq}
use Rattle.depot_hash.specs.Blobs.{object_id}
use Rattle.depot_hash.specs.declared.entries.TreeEntry.{TreeEntry}
use Rattle.depot_hash.specs.declared.entries.Mode.{Mode}
use Rattle.depot_hash.specs.declared.entries.Mode.TheVariants.{File, Exec, Folder}
use Rattle.depot_hash.specs.declared.entries.TreeFault.{TreeFault}
use Rattle.depot_hash.specs.declared.entries.TreeFault.TheVariants.{TwoNames, Memory}

-- a name that an entry can have: not empty, and without a slash and a zero byte
abbrev pub has_no_mark : List ℕ → Bool
has_no_mark = list_all (λ b. not (b == 47) && not (b == 0))

abbrev pub is_name : List ℕ → Bool
is_name name = not (bytes_eq name []) && has_no_mark name

abbrev pub mode_text : Mode → List ℕ
mode_text File = codes "100644"
mode_text Exec = codes "100755"
mode_text Folder = codes "40000"

-- a folder is compared as its name with a slash behind it
abbrev pub slash_of : Mode → List ℕ
slash_of File = []
slash_of Exec = []
slash_of Folder = 47 ∷ []

abbrev pub git_key : TreeEntry → List ℕ
git_key entry = entry.name ++ slash_of entry.mode

-- an entry in a tree: mode, space, name, zero byte, and the bytes of its id
abbrev pub line : TreeEntry → List ℕ
line entry = mode_text entry.mode ++ 32 ∷ entry.name ++ 0 ∷ entry.id

-- each entry at its place by the bytes that it's compared by
abbrev pub by_key : List TreeEntry → List (List ℕ × TreeEntry)
by_key = fold (λ placed entry. insert_entry (slice_cmp nat_cmp) placed (git_key entry) entry) []

abbrev pub in_git_order : List TreeEntry → List TreeEntry
in_git_order entries = values_of (by_key entries)

-- the id of a tree of entries that have names of their own
abbrev pub tree_id : List TreeEntry → List ℕ
tree_id entries = object_id (codes "tree") (flat_map line (in_git_order entries))

-- whether two entries have that name
abbrev pub comes_twice : List TreeEntry → List ℕ → Bool
comes_twice entries name = nat_lt 1 (count_by (λ entry. bytes_eq entry.name name) entries)

-- the first name by its bytes that passes a test, where one does
abbrev pub IsFirst : (List ℕ → Bool) → Option (List ℕ) → Type 0
IsFirst passes None = (name : List ℕ) → passes name ≡ false
IsFirst passes (Some name) = (passes name ≡ true) × ((other : List ℕ) → passes other ≡ true → is_lt (slice_cmp nat_cmp other name) ≡ false)

-- the first name by its bytes that two entries have
abbrev pub IsFirstTwice : List TreeEntry → Option (List ℕ) → Type 0
IsFirstTwice entries = IsFirst (comes_twice entries)

-- what a refusal says; want of memory says nothing
abbrev pub RefusesTree : List TreeEntry → TreeFault → Type 0
RefusesTree entries (TwoNames name) = IsFirstTwice entries (Some name)
RefusesTree entries Memory = Unit {0}
