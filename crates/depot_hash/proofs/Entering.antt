-- The steps of hashing a folder.
use Rattle.std.proofs.Common.{◌≡◌, ℕ, ◌+◌, ◌<◌, Bool, true, false, not, ◌&&◌, ◌||◌, cond, List, [], ◌∷◌, ◌++◌, length, drop, get_or, Option, Some, None, Result, Ok, Err, MatchResult, IfSome, nat_cmp, codes, refl, ap, sym, ◌∙◌, append_assoc, rules}
use Rattle.std.specs.List.{flat_map}
use Rattle.std.proofs.Common.{add-one}
use Rattle.std.proofs.Math.Seq.{drop-cons}
use Rattle.std.specs.List.Sorted.{IsStrictlySortedBy}
use Rattle.std.specs.Str.{bytes_eq}
use Rattle.std.specs.Cmp.Lexicographic.{slice_cmp}
use Rattle.pkg_world.specs.Path.{Path, is_plain}
use Rattle.pkg_world.specs.Tree.{Node, file, folder, Files, names, at, names_at, content_of, file_bytes, holds}
use Rattle.pkg_world.specs.declared.cause.LimitKind.{LimitKind}
use Rattle.depot_hash.specs.Folders as spec
use Rattle.depot_hash.specs.Folders.{Met, a_file, a_folder, passed, is_open, file_entry, folder_entry, entries_in, entries_of, met_in, met_at, first_past, within, id_at, is_among, NoId, RefusesFolder}
use Rattle.depot_hash.specs.Trees.{tree_id}
use Rattle.depot_hash.specs.Walks.{added_at, added_by, seen_at, seen_by, Walks, Adds, AddsFolder, IsMemory, Hashes, RefusesWalk}
use Rattle.depot_hash.specs.declared.entries.TreeEntry.{TreeEntry}
use Rattle.depot_hash.specs.declared.folders.Found.{Found}
use Rattle.depot_hash.specs.declared.fault.FolderFault.{FolderFault}
use Rattle.depot_hash.specs.declared.fault.FolderFault.TheVariants.{ReadFault, MissingFile, Limit, Memory}
use Rattle.depot_hash.proofs.Walking.{entries_by_names, met_by_names, refused_on, counted_on}

pub cond_or : (a b : Bool) → cond a true b ≡ (b || a)
cond_or true true = refl
cond_or true false = refl
cond_or false true = refl
cond_or false false = refl

no_more : (found : Found) → found.entries.items ≡ found.entries.items ++ []
no_more found = search rules

-- ---- names that are passed over

unplain_seen : (depth : ℕ) (name : List ℕ) (slot : Option Node) → is_plain name ≡ false → seen_at depth name slot ≡ []
unfolding met_at
unplain_seen depth name None h = refl
unplain_seen depth name (Some (file b)) h = rw h
unplain_seen depth name (Some (folder files)) h = rw h

unplain_added : (runs : Path → Bool) (path : Path) (name : List ℕ) (slot : Option Node) → is_plain name ≡ false → added_at runs path name slot ≡ []
unfolding entries_of
unplain_added runs path name None h = refl
unplain_added runs path name (Some (file b)) h = rw h
unplain_added runs path name (Some (folder files)) h = rw h

pub unplain_adds : (files : Option Files) (depth : ℕ) (folder_path : Path) (name : List ℕ) (runs : Path → Bool) (found : Found) → is_plain name ≡ false
    → IfSome files (λ all. Adds (passed found.files (seen_by depth all folder_path name)) (added_by runs all folder_path name) found found (Ok tt))
unplain_adds None depth folder_path name runs found h = tt
unplain_adds (Some all) depth folder_path name runs found h =
    rw (unplain_seen depth name (at (folder_path ++ name ∷ []) all) h, unplain_added runs (folder_path ++ name ∷ []) name (at (folder_path ++ name ∷ []) all) h) (refl, no_more found)

never : (b : Bool) → (b && not true) ≡ false
never true = refl
never false = refl

shut : (name : List ℕ) → bytes_eq name (codes ".git") ≡ true → is_open name ≡ false
shut name h = rw h (never (is_plain name))

shut_seen : (depth : ℕ) (name : List ℕ) (slot : Option Node) → is_open name ≡ false → file_bytes (content_of slot) ≡ None → seen_at depth name slot ≡ []
unfolding met_at
shut_seen depth name None h k = refl
shut_seen depth name (Some (file b)) h k = cc
shut_seen depth name (Some (folder files)) h k = rw h

shut_added : (runs : Path → Bool) (path : Path) (name : List ℕ) (slot : Option Node) → is_open name ≡ false → file_bytes (content_of slot) ≡ None → added_at runs path name slot ≡ []
unfolding entries_of
shut_added runs path name None h k = refl
shut_added runs path name (Some (file b)) h k = cc
shut_added runs path name (Some (folder files)) h k = rw h

pub shut_adds : (files : Option Files) (depth : ℕ) (path : Path) (name : List ℕ) (runs : Path → Bool) (found : Found) → bytes_eq name (codes ".git") ≡ true
    → IfSome files (λ all. file_bytes (holds path all) ≡ None)
    → IfSome files (λ all. Adds (passed found.files (seen_at depth name (at path all))) (added_at runs path name (at path all)) found found (Ok tt))
shut_adds None depth path name runs found h k = tt
shut_adds (Some all) depth path name runs found h k =
    rw (shut_seen depth name (at path all) (shut name h) k, shut_added runs path name (at path all) (shut name h) k) (refl, no_more found)

-- ---- a file

a_file_there : (slot : Option Node) (b : List ℕ) → Some b ≡ file_bytes (content_of slot) → slot ≡ Some (file b)
a_file_there None b h = cc
a_file_there (Some (file c)) b h = let same : b ≡ c = cc in rw same
a_file_there (Some (folder files)) b h = cc

file_seen : (depth : ℕ) (name b : List ℕ) → is_plain name ≡ true → seen_at depth name (Some (file b)) ≡ a_file ∷ []
unfolding met_at
file_seen depth name b h = rw h

file_added : (runs : Path → Bool) (path : Path) (name b : List ℕ) → is_plain name ≡ true → added_at runs path name (Some (file b)) ≡ file_entry name (runs path) b ∷ []
unfolding entries_of
file_added runs path name b h = rw h

pub file_adds : (files : Option Files) (depth : ℕ) (folder_path path : Path) (name b : List ℕ) (runs : Path → Bool) (old new : Found) (answer : Result (Unit {0}) FolderFault) → is_plain name ≡ true → path ≡ folder_path ++ name ∷ []
    → IfSome files (λ all. Some b ≡ file_bytes (holds path all))
    → Adds (passed old.files (a_file ∷ [])) (file_entry name (runs path) b ∷ []) old new answer
    → IfSome files (λ all. Adds (passed old.files (seen_by depth all folder_path name)) (added_by runs all folder_path name) old new answer)
file_adds None depth folder_path path name b runs old new answer h same there adds = tt
file_adds (Some all) depth folder_path path name b runs old new answer h same there adds =
    rw (← same, a_file_there (at path all) b there, file_seen depth name b h, file_added runs path name b h) adds

-- ---- a folder

a_folder_there : (slot : Option Node) (ns : List (List ℕ)) → Some ns ≡ names_at slot → (files : Files) × (slot ≡ Some (folder files)) × (names files ≡ ns)
a_folder_there None ns h = cc
a_folder_there (Some (file b)) ns h = cc
a_folder_there (Some (folder files)) ns h = (files, refl, cc)

opened : (name : List ℕ) → is_plain name ≡ true → bytes_eq name (codes ".git") ≡ false → is_open name ≡ true
opened name h k = rw (h, k)

folder_seen : (depth : ℕ) (name : List ℕ) (files : Files) → is_open name ≡ true → seen_at depth name (Some (folder files)) ≡ a_folder (depth + 1) ∷ met_in (depth + 1) files
unfolding met_at
folder_seen depth name files h = rw h

folder_added : (runs : Path → Bool) (path : Path) (name : List ℕ) (files : Files) → is_open name ≡ true → added_at runs path name (Some (folder files)) ≡ folder_entry name (entries_in runs path files)
unfolding entries_of
folder_added runs path name files h = rw h

-- an open folder whose names are these
seen_open : (all : Files) (depth : ℕ) (path : Path) (name : List ℕ) (ns : List (List ℕ)) → is_open name ≡ true → Some ns ≡ names_at (at path all) → IsStrictlySortedBy (slice_cmp nat_cmp) ns
    → seen_at depth name (at path all) ≡ a_folder (depth + 1) ∷ flat_map (seen_by (depth + 1) all path) ns
seen_open all depth path name ns open_ there up =
    let (files, stands, same) = a_folder_there (at path all) ns there in
    let rises : IsStrictlySortedBy (slice_cmp nat_cmp) (names files) = rw same up in
    ap (seen_at depth name) stands ∙ folder_seen depth name files open_ ∙ ap (λ ms. a_folder (depth + 1) ∷ ms) (met_by_names (depth + 1) all path files stands rises ∙ rw same)

added_open : (all : Files) (path : Path) (name : List ℕ) (runs : Path → Bool) (ns : List (List ℕ)) → is_open name ≡ true → Some ns ≡ names_at (at path all) → IsStrictlySortedBy (slice_cmp nat_cmp) ns
    → added_at runs path name (at path all) ≡ folder_entry name (flat_map (added_by runs all path) ns)
added_open all path name runs ns open_ there up =
    let (files, stands, same) = a_folder_there (at path all) ns there in
    let rises : IsStrictlySortedBy (slice_cmp nat_cmp) (names files) = rw same up in
    ap (added_at runs path name) stands ∙ folder_added runs path name files open_ ∙ ap (folder_entry name) (entries_by_names runs all path files stands rises ∙ rw same)

memory_refuses : (count : Result ℕ LimitKind) (fault : FolderFault) → IsMemory fault → RefusesWalk count fault
memory_refuses count (ReadFault path) h = absurd h
memory_refuses count (MissingFile path) h = absurd h
memory_refuses count (Limit kind number) h = absurd h
memory_refuses count Memory h = tt

put_behind : (count : Result ℕ LimitKind) (entries : List TreeEntry) (name : List ℕ) (inner old new : Found) (answer : Result (Unit {0}) FolderFault) → Walks count entries (Ok inner) → AddsFolder name inner old new answer → Adds count (folder_entry name entries) old new answer
put_behind count entries name inner old new (Ok done) walks adds = (walks.0 ∙ ap Ok (sym adds.0), adds.1 ∙ rw walks.1)
put_behind count entries name inner old new (Err fault) walks adds = memory_refuses count fault adds

pub folder_adds : (files : Option Files) (depth : ℕ) (path : Path) (name : List ℕ) (runs : Path → Bool) (ns : List (List ℕ)) (inner old new : Found) (answer : Result (Unit {0}) FolderFault) → is_plain name ≡ true → bytes_eq name (codes ".git") ≡ false
    → IfSome files (λ all. Some ns ≡ names_at (at path all)) → IfSome files (λ all. IsStrictlySortedBy (slice_cmp nat_cmp) ns)
    → IfSome files (λ all. Walks (passed old.files (a_folder (depth + 1) ∷ flat_map (seen_by (depth + 1) all path) ns)) (flat_map (added_by runs all path) ns) (Ok inner))
    → AddsFolder name inner old new answer
    → IfSome files (λ all. Adds (passed old.files (seen_at depth name (at path all))) (added_at runs path name (at path all)) old new answer)
folder_adds None depth path name runs ns inner old new answer h k there up walks adds = tt
folder_adds (Some all) depth path name runs ns inner old new answer h k there up walks adds =
    rw (seen_open all depth path name ns (opened name h k) there up, added_open all path name runs ns (opened name h k) there up)
    (put_behind _ (flat_map (added_by runs all path) ns) name inner old new answer walks adds)

pub folder_refused : (files : Option Files) (depth : ℕ) (path : Path) (name : List ℕ) (runs : Path → Bool) (ns : List (List ℕ)) (old new : Found) (fault : FolderFault) → is_plain name ≡ true → bytes_eq name (codes ".git") ≡ false
    → IfSome files (λ all. Some ns ≡ names_at (at path all)) → IfSome files (λ all. IsStrictlySortedBy (slice_cmp nat_cmp) ns)
    → IfSome files (λ all. RefusesWalk (passed old.files (a_folder (depth + 1) ∷ flat_map (seen_by (depth + 1) all path) ns)) fault)
    → IfSome files (λ all. Adds (passed old.files (seen_at depth name (at path all))) (added_at runs path name (at path all)) old new (Err fault))
folder_refused None depth path name runs ns old new fault h k there up walks = tt
folder_refused (Some all) depth path name runs ns old new fault h k there up walks = rw (seen_open all depth path name ns (opened name h k) there up) walks

-- ---- one name more

refuses_on : (count : ℕ) (xs ys : List Met) (fault : FolderFault) → RefusesWalk (passed count xs) fault → RefusesWalk (passed count (xs ++ ys)) fault
refuses_on count xs ys (ReadFault path) h = tt
refuses_on count xs ys (MissingFile path) h = h
refuses_on count xs ys (Limit kind number) h = (refused_on count xs ys kind h.0, h.1)
refuses_on count xs ys Memory h = tt

item_out : {X Y : Type 0} (add : X → List Y) (xs : List X) (i : ℕ) (x : X) → i < length xs → x ≡ get_or xs i x → flat_map add (drop i xs) ≡ add x ++ flat_map add (drop (i + 1) xs)
item_out add xs i x h is = rw (drop-cons xs i x, ← is, add-one)

pub walk_refused : (files : Option Files) (count start depth i : ℕ) (path : Path) (runs : Path → Bool) (ns : List (List ℕ)) (x : List ℕ) (done : List TreeEntry) (fault : FolderFault) → i < length ns → x ≡ get_or ns i x
    → IfSome files (λ all. (passed start (flat_map (seen_by depth all path) ns) ≡ passed count (flat_map (seen_by depth all path) (drop i ns))) × (flat_map (added_by runs all path) ns ≡ done ++ flat_map (added_by runs all path) (drop i ns)))
    → IfSome files (λ all. RefusesWalk (passed count (seen_by depth all path x)) fault)
    → IfSome files (λ all. RefusesWalk (passed start (flat_map (seen_by depth all path) ns)) fault)
walk_refused None count start depth i path runs ns x done fault h is so walks = tt
walk_refused (Some all) count start depth i path runs ns x done fault h is so walks =
    rw (so.0, item_out (seen_by depth all path) ns i x h is) (refuses_on count (seen_by depth all path x) (flat_map (seen_by depth all path) (drop (i + 1) ns)) fault walks)

pub walk_on : (files : Option Files) (start depth i : ℕ) (path : Path) (runs : Path → Bool) (ns : List (List ℕ)) (x : List ℕ) (old new : Found) → i < length ns → x ≡ get_or ns i x
    → IfSome files (λ all. (passed start (flat_map (seen_by depth all path) ns) ≡ passed old.files (flat_map (seen_by depth all path) (drop i ns))) × (flat_map (added_by runs all path) ns ≡ old.entries.items ++ flat_map (added_by runs all path) (drop i ns)))
    → IfSome files (λ all. (passed old.files (seen_by depth all path x) ≡ Ok new.files) × (new.entries.items ≡ old.entries.items ++ added_by runs all path x))
    → IfSome files (λ all. (passed start (flat_map (seen_by depth all path) ns) ≡ passed new.files (flat_map (seen_by depth all path) (drop (i + 1) ns))) × (flat_map (added_by runs all path) ns ≡ new.entries.items ++ flat_map (added_by runs all path) (drop (i + 1) ns)))
walk_on None start depth i path runs ns x old new h is so adds = tt
walk_on (Some all) start depth i path runs ns x old new h is so adds = (
  so.0 ∙ rw (item_out (seen_by depth all path) ns i x h is) (counted_on old.files new.files (seen_by depth all path x) (flat_map (seen_by depth all path) (drop (i + 1) ns)) adds.0),
  so.1 ∙ rw (item_out (added_by runs all path) ns i x h is, adds.1) (sym (append_assoc old.entries.items (added_by runs all path x) (flat_map (added_by runs all path) (drop (i + 1) ns)))),
)

-- ---- the whole folder

meant_by : (all : Files) (path : Path) (execs : List Path) (runs : Path → Bool) (ns : List (List ℕ)) → runs ≡ is_among execs → Some ns ≡ names_at (at path all) → IsStrictlySortedBy (slice_cmp nat_cmp) ns
    → spec.folder_id all path execs ≡ within (tree_id (flat_map (added_by runs all path) ns)) (passed 0 (flat_map (seen_by 0 all path) ns))
meant_by all path execs runs ns same there up =
    let (files, stands, listed) = a_folder_there (at path all) ns there in
    let rises : IsStrictlySortedBy (slice_cmp nat_cmp) (names files) = rw listed up in
    ap (id_at (is_among execs) path) stands
    ∙ rw (entries_by_names (is_among execs) all path files stands rises, met_by_names 0 all path files stands rises, listed, same)

refused_whole : (id : List ℕ) (count : Result ℕ LimitKind) (meant : Result (List ℕ) NoId) (path : Path) (fault : FolderFault) → meant ≡ within id count → RefusesWalk count fault → RefusesFolder path meant fault
refused_whole id count meant path (ReadFault other) is h = tt
refused_whole id count meant path (MissingFile other) is h = absurd h
refused_whole id count meant path (Limit kind number) is h = (is ∙ rw h.0, h.1)
refused_whole id count meant path Memory is h = tt

pub hashes_folder : (files : Option Files) (path : Path) (execs : List Path) (runs : Path → Bool) (ns : List (List ℕ)) (answer : Result (List ℕ) FolderFault) → ((p : Path) → runs p ≡ is_among execs p)
    → IfSome files (λ all. Some ns ≡ names_at (at path all)) → IfSome files (λ all. IsStrictlySortedBy (slice_cmp nat_cmp) ns)
    → IfSome files (λ all. Hashes (passed 0 (flat_map (seen_by 0 all path) ns)) (flat_map (added_by runs all path) ns) answer)
    → IfSome files (λ all. MatchResult answer (λ id. spec.folder_id all path execs ≡ Ok id) (RefusesFolder path (spec.folder_id all path execs)))
hashes_folder None path execs runs ns answer same there up hashes = tt
hashes_folder (Some all) path execs runs ns (Ok id) same there up hashes = meant_by all path execs runs ns (λ i p. same p i) there up ∙ hashes
hashes_folder (Some all) path execs runs ns (Err fault) same there up hashes = refused_whole _ _ _ path fault (meant_by all path execs runs ns (λ i p. same p i) there up) hashes
