-- The map of a folder in memory beside the files that it stands for.
use Rattle.std.proofs.Common.{◌≡◌, ℕ, suc, ◌-◌, ◌≤◌, ◌<◌, cond, false, ◌==◌, List, [], ◌∷◌, ◌++◌, length, get_or, length-take, length-drop, map, take, take_all, drop, Option, Some, None, option_map, String, Vec, Global, BTreeMap, Bor, MutBor, Ordering, Less, Equal, Greater, string_bytes, nat_cmp, is_eq, refl, sym, ap, subst, ◌∙◌, append_assoc, arith, rules}
use Rattle.std.specs.BTreeMap.{is_at, get_by, insert_entry}
use Rattle.std.specs.Cmp.Lexicographic.{slice_cmp}
use Rattle.std.specs.List.{AllByRecursion}
use Rattle.std.specs.List.Sorted.{IsStrictlySortedBy}
use Rattle.std.specs.Map.{keys_of, lookup, set_value}
use Rattle.std.specs.Option.{option_and_then, option_copied, option_copied_mut}
use Rattle.std.specs.Ordering.{match_ordering}
use Rattle.std.specs.String.{string_cmp, string_cmp_total}
use Rattle.std.proofs.lemmas.Map.Entries.{lookup_at_gap}
use Rattle.pkg_world.specs.declared.tree.Node.{Node as Kept, File as KeptFile, Folder as KeptFolder, the_lemmas}
use Rattle.pkg_world.specs.declared.tree.Found.{Found}
use Rattle.pkg_world.specs.declared.tree.Placed.{Placed}
use Rattle.pkg_world.specs.declared.tree.Placed.TheVariants.{Done, Blocked, Memory}
use Rattle.pkg_world.specs.Path.{Path}
use Rattle.pkg_world.specs.Tree.{Node, file, folder, Files, no_files, entry, find, names, below, at, insert, files_in, Leaf, placed, with_leaf}
use Rattle.pkg_world.specs.Stored.{node_view, entries_view, files_view, FoundGives, PlacedGives, entered}

abbrev pub Entry : Type 0
Entry = String Global × Kept

-- what the map finds at a text
abbrev pub at_text : List ℕ → String Global → Ordering
at_text k x = slice_cmp nat_cmp k (string_bytes x)

pub node_view-File : (v : Vec ℕ Global) → node_view (KeptFile v) ≡ file v.items
node_view-File v = search (rules, the_lemmas)

pub node_view-Folder : (m : BTreeMap (String Global) Kept) → node_view (KeptFolder m) ≡ folder (files_view m)
node_view-Folder m = search (rules, the_lemmas)

found_or : (o : Ordering) (x : Kept) (rest : Option Kept) (d : Option Node) → option_map node_view rest ≡ d → option_map node_view (cond (is_eq o) (Some x) rest) ≡ match_ordering o d (Some (node_view x)) d
found_or Less x rest d e = e
found_or Equal x rest d e = refl
found_or Greater x rest d e = e

pub find-lookup : (k : List ℕ) (es : List Entry) → option_map node_view (lookup (is_at (at_text k)) es) ≡ find k (entries_view es)
find-lookup k [] = refl
find-lookup k (e ∷ es) = found_or (at_text k e.0) e.1 _ _ (find-lookup k es)

-- what `get` found
pub found_at : (k : List ℕ) (m : BTreeMap (String Global) Kept) (r : Option (Bor Kept)) (x : Bor Kept) → r ≡ Some x → option_copied r ≡ get_by (at_text k) m → find k (files_view m) ≡ Some (node_view x.now)
found_at k m r x is value = sym (find-lookup k m.entries) ∙ ap (option_map node_view) (sym (rw is at value))

pub missing_at : (k : List ℕ) (m : BTreeMap (String Global) Kept) (r : Option (Bor Kept)) → r ≡ None → option_copied r ≡ get_by (at_text k) m → find k (files_view m) ≡ None
missing_at k m r is value = sym (find-lookup k m.entries) ∙ ap (option_map node_view) (sym (rw is at value))

-- what `get_mut` found
pub slot_at : (k : List ℕ) (m : BTreeMap (String Global) Kept) (r : Option (MutBor Kept)) (x : MutBor Kept) → r ≡ Some x → option_copied_mut r ≡ get_by (at_text k) m → lookup (is_at (at_text k)) m.entries ≡ Some x.now
slot_at k m r x is value = sym (rw is at value)

pub no_slot_at : (k : List ℕ) (m : BTreeMap (String Global) Kept) (r : Option (MutBor Kept)) → r ≡ None → option_copied_mut r ≡ get_by (at_text k) m → find k (files_view m) ≡ None
no_slot_at k m r is value = sym (find-lookup k m.entries) ∙ ap (option_map node_view) (sym (rw is at value))

pub slot_found : (k : List ℕ) (m : BTreeMap (String Global) Kept) (x : Kept) → lookup (is_at (at_text k)) m.entries ≡ Some x → find k (files_view m) ≡ Some (node_view x)
slot_found k m x found = sym (find-lookup k m.entries) ∙ ap (option_map node_view) found

match_entries : (o : Ordering) (a b c : List Entry) → entries_view (match_ordering o a b c) ≡ match_ordering o (entries_view a) (entries_view b) (entries_view c)
match_entries Less a b c = refl
match_entries Equal a b c = refl
match_entries Greater a b c = refl

pub entries_view-insert_entry : (es : List Entry) (k : String Global) (x : Kept) → entries_view (insert_entry string_cmp es k x) ≡ insert (string_bytes k) (node_view x) (entries_view es)
entries_view-insert_entry [] k x = refl
entries_view-insert_entry (e ∷ es) k x = match_entries (string_cmp k e.0) _ _ _ ∙ rw (entries_view-insert_entry es k x)

-- a node put back at its place stands where an insert puts it
none_below : (part : String Global) (e : Entry) (es : List Entry) → IsStrictlySortedBy string_cmp (keys_of (e ∷ es)) → string_cmp part e.0 ≡ Less → lookup (is_at (string_cmp part)) (e ∷ es) ≡ None
none_below part e es sorted less =
    lookup_at_gap string_cmp_total part (e ∷ es) 0 sorted (λ j x lt _. absurd (omega arith)) (λ x is.
    let same : e ≡ x = cc in
    subst (λ (z : Entry). string_cmp part z.0 ≡ Less) same less)

set_at : (o : Ordering) (k : List ℕ) (e : Entry) (es set : List Entry) (w : Kept) → (o ≡ Less → ⊥) → (o ≡ Greater → entries_view set ≡ insert k (node_view w) (entries_view es))
    → entries_view (cond (is_eq o) ((e.0, w) ∷ es) (e ∷ set)) ≡ match_ordering o (entry k (node_view w) (entries_view (e ∷ es))) (entry (string_bytes e.0) (node_view w) (entries_view es)) (entry (string_bytes e.0) (node_view e.1) (insert k (node_view w) (entries_view es)))
set_at Less k e es set w no_less more = absurd (no_less refl)
set_at Equal k e es set w no_less more = refl
set_at Greater k e es set w no_less more = ap (entry (string_bytes e.0) (node_view e.1)) (more refl)

set_inserts : (part : String Global) (es : List Entry) (w v : Kept) → IsStrictlySortedBy string_cmp (keys_of es) → lookup (is_at (string_cmp part)) es ≡ Some v
    → entries_view (set_value (is_at (string_cmp part)) es w) ≡ insert (string_bytes part) (node_view w) (entries_view es)
unfolding IsStrictlySortedBy
set_inserts part [] w v sorted found = cc
set_inserts part (e ∷ es) w v sorted found =
    set_at (string_cmp part e.0) (string_bytes part) e es _ w
    (λ less. let none = none_below part e es sorted less in cc)
    (λ more. set_inserts part es w v sorted.1 (rw more at found))

pub set_back : (part : String Global) (m n : BTreeMap (String Global) Kept) (w v : Kept) → IsStrictlySortedBy string_cmp (keys_of m.entries) → lookup (is_at (at_text (string_bytes part))) m.entries ≡ Some v
    → n.entries ≡ set_value (is_at (at_text (string_bytes part))) m.entries w → files_view n ≡ insert (string_bytes part) (node_view w) (files_view m)
set_back part m n w v sorted found e = ap entries_view e ∙ set_inserts part m.entries w v sorted found

-- a node put back as it was leaves the files
keeps_at : (o : Ordering) (e : Entry) (es set : List Entry) (rest : Option Kept) (w v : Kept) → cond (is_eq o) (Some e.1) rest ≡ Some v → node_view w ≡ node_view v → (rest ≡ Some v → entries_view set ≡ entries_view es)
    → entries_view (cond (is_eq o) ((e.0, w) ∷ es) (e ∷ set)) ≡ entries_view (e ∷ es)
keeps_at Less e es set rest w v found seen more = ap (entry (string_bytes e.0) (node_view e.1)) (more found)
keeps_at Equal e es set rest w v found seen more =
    let same : e.1 ≡ v = cc in
    ap (λ n. entry (string_bytes e.0) n (entries_view es)) (seen ∙ sym (ap node_view same))
keeps_at Greater e es set rest w v found seen more = ap (entry (string_bytes e.0) (node_view e.1)) (more found)

set_keeps : (k : List ℕ) (es : List Entry) (w v : Kept) → lookup (is_at (at_text k)) es ≡ Some v → node_view w ≡ node_view v → entries_view (set_value (is_at (at_text k)) es w) ≡ entries_view es
set_keeps k [] w v found seen = refl
set_keeps k (e ∷ es) w v found seen = keeps_at (at_text k e.0) e es _ _ w v found seen (λ later. set_keeps k es w v later seen)

pub set_same : (k : List ℕ) (m n : BTreeMap (String Global) Kept) (w v : Kept) → lookup (is_at (at_text k)) m.entries ≡ Some v → n.entries ≡ set_value (is_at (at_text k)) m.entries w → node_view w ≡ node_view v
    → files_view n ≡ files_view m
set_same k m n w v found e seen = ap entries_view e ∙ set_keeps k m.entries w v found seen

-- the names of a folder are the keys of its map, in order
pub names-keys : (es : List Entry) → map string_bytes (keys_of es) ≡ names (entries_view es)
names-keys [] = refl
names-keys (e ∷ es) = ap (λ ns. string_bytes e.0 ∷ ns) (names-keys es)

below_names : (k : String Global) (es : List Entry) → AllByRecursion (λ y. string_cmp k y ≡ Less) (keys_of es) → AllByRecursion (λ y. slice_cmp nat_cmp (string_bytes k) y ≡ Less) (names (entries_view es))
below_names k [] h = h
below_names k (e ∷ es) h = (h.0, below_names k es h.1)

pub names_ascend : (es : List Entry) → IsStrictlySortedBy string_cmp (keys_of es) → IsStrictlySortedBy (slice_cmp nat_cmp) (names (entries_view es))
unfolding IsStrictlySortedBy
names_ascend [] h = h
names_ascend (e ∷ es) h = (below_names e.0 es h.0, names_ascend es h.1)

pub name_more : (done : List (List ℕ)) (left more : List (String Global)) (x : String Global) (name : List ℕ) (all : List (List ℕ)) → done ++ map string_bytes left ≡ all → left ≡ x ∷ more → name ≡ string_bytes x
    → (done ++ name ∷ []) ++ map string_bytes more ≡ all
name_more done left more x name all so_far turn same = rw (append_assoc, same) (rw turn at so_far)

-- the parts of a path, the first apart
pub parts-front : (xs : List (String Global)) (part d : String Global) → 1 ≤ length xs → part ≡ get_or xs 0 d
    → map string_bytes xs ≡ string_bytes part ∷ map string_bytes (take (length xs - 1) (drop 1 xs))
parts-front [] part d some same = absurd (omega arith)
parts-front (x ∷ xs) part d some same =
    let all : take (suc (length xs) - 1) xs ≡ xs = take_all _ xs (omega arith) in
    rw (same, all)

pub parts-none : (xs : List (String Global)) → length xs < 1 → map string_bytes xs ≡ []
parts-none [] none = refl
parts-none (x ∷ xs) none = absurd (omega arith)

pub tail_shorter : {X : Type 0} (xs : List X) → 1 ≤ length xs → length (take (length xs - 1) (drop 1 xs)) < length xs
tail_shorter xs some = omega (arith, length-take (length xs - 1) (drop 1 xs), length-drop 1 xs)

-- a look-up, part by part
pub look_on : (path more : Path) (k : List ℕ) (files : Files) (node : Node) (r : Found) → path ≡ k ∷ more → find k files ≡ Some node → FoundGives (below more node) r → FoundGives (at path files) r
look_on path more k files node r front found ok =
    let along : at path files ≡ below more node = rw (front, found) in
    subst (λ (t : Option Node). FoundGives t r) (sym along) ok

pub look_none : (path more : Path) (k : List ℕ) (files : Files) → path ≡ k ∷ more → find k files ≡ None → at path files ≡ None
look_none path more k files front none = rw (front, none)

pub past_file : (xs : List (String Global)) (v : Vec ℕ Global) → (length xs == 0) ≡ false → below (map string_bytes xs) (file v.items) ≡ None
past_file [] v some = cc
past_file (x ∷ xs) v some = refl

-- a leaf below a name that is there, and below one that is not
pub entered_there : (leaf : Leaf) (k : List ℕ) (path : Path) (old new : Files) (x y : Node) (r : Placed) → find k old ≡ Some x → PlacedGives (placed leaf path (Some x)) x y r
    → new ≡ insert k y old → (y ≡ x → new ≡ old) → PlacedGives (entered leaf k path old) old new r
entered_there leaf k path old new x y Done found gives set keep = rw (found, gives, set)
entered_there leaf k path old new x y Blocked found gives set keep = (rw (found, gives.0), keep gives.1)
entered_there leaf k path old new x y Memory found gives set keep = keep gives

pub chain_step : (leaf : Leaf) (path more : Path) (k : List ℕ) (n : Node) (files : Files) → path ≡ k ∷ more → placed leaf more None ≡ Some n → files ≡ entry k n no_files → placed leaf path None ≡ Some (folder files)
chain_step leaf path more k n files front inner made = rw (front, inner, made)

through : (slot : Option Node) (k : List ℕ) (old new : Files) → option_map (λ node. insert k node old) slot ≡ Some new → option_map (λ node. folder (insert k node old)) slot ≡ Some (folder new)
through None k old new h = cc
through (Some node) k old new h = let same : insert k node old ≡ new = cc in ap (λ f. Some (folder f)) same

blocked : (slot : Option Node) (k : List ℕ) (old : Files) → option_map (λ node. insert k node old) slot ≡ None → option_map (λ node. folder (insert k node old)) slot ≡ None
blocked None k old h = refl
blocked (Some node) k old h = cc

-- a leaf below a folder
pub changed_folder : (leaf : Leaf) (path more : Path) (k : List ℕ) (old new : Files) (r : Placed) → path ≡ k ∷ more → PlacedGives (entered leaf k more old) old new r
    → PlacedGives (placed leaf path (Some (folder old))) (folder old) (folder new) r
changed_folder leaf path more k old new Done front gives = rw front (through (placed leaf more (find k old)) k old new gives)
changed_folder leaf path more k old new Blocked front gives = (rw front (blocked (placed leaf more (find k old)) k old gives.0), ap folder gives.1)
changed_folder leaf path more k old new Memory front gives = ap folder gives

-- a leaf at a path from the root, which begins with a name
rooted_some : (slot : Option Node) (k : List ℕ) (old new : Files) → option_map (λ node. insert k node old) slot ≡ Some new → option_and_then files_in (option_map (λ node. folder (insert k node old)) slot) ≡ Some new
rooted_some None k old new h = cc
rooted_some (Some node) k old new h = h

rooted_none : (slot : Option Node) (k : List ℕ) (old : Files) → option_map (λ node. insert k node old) slot ≡ None → option_and_then files_in (option_map (λ node. folder (insert k node old)) slot) ≡ None
rooted_none None k old h = refl
rooted_none (Some node) k old h = cc

pub rooted : (leaf : Leaf) (path more : Path) (k : List ℕ) (old new : Files) (r : Placed) → path ≡ k ∷ more → PlacedGives (entered leaf k more old) old new r → PlacedGives (with_leaf leaf path old) old new r
rooted leaf path more k old new Done front gives = rw front (rooted_some (placed leaf more (find k old)) k old new gives)
rooted leaf path more k old new Blocked front gives = (rw front (rooted_none (placed leaf more (find k old)) k old gives.0), gives.1)
rooted leaf path more k old new Memory front gives = gives
