-- Files that part, and the paths above them.
use Rattle.std.proofs.Common.{◌≡◌, ℕ, zero, suc, ◌<◌, ◌≤◌, ◌⊎◌, inl, inr, List, [], ◌∷◌, ◌++◌, length, map, take, get_or, Option, Some, None, IsSome, Ok, refl, sym, ap, ◌∙◌, subst, arith}
use Rattle.std.proofs.Math.ListN.{get_or-map}
use Rattle.std.proofs.lemmas.List.{length-map}
use Rattle.std.specs.List.{AllByRecursion}
use Rattle.pkg_world.specs.Path.{Path}
use Rattle.pkg_world.specs.Tree.{Files, no_files, bytes, a_folder, nothing, holds, a_file, with_leaf}
use Rattle.pkg_world.specs.Writing.{SetsOnePath, IsBlocked, BlockedLaw}
use Rattle.toml_view.specs.Document.{viewed}
use Rattle.world_maker.specs.declared.files.TableFile.{TableFile}
use Rattle.world_maker.specs.Laid.{file_of, IsLaid, IsApartFrom, HasExactly, DoPart, ArePartedFrom, AreParted, IsPlain, ArePlain, IsFree}
use Rattle.world_maker.specs.World.{Tabled}

first_same : {a b : List ℕ} {p q : Path} → a ∷ p ≡ b ∷ q → a ≡ b
first_same e = cc

rest_same : {a b : List ℕ} {p q : Path} → a ∷ p ≡ b ∷ q → p ≡ q
rest_same e = cc

-- paths that part are not above one another
pub part_above : (p q : Path) (k : ℕ) → DoPart p q → q ≡ take k p → ⊥
part_above [] q k parts e = parts
part_above (a ∷ p) [] k parts e = parts
part_above (a ∷ p) (b ∷ q) zero parts e = cc
part_above (a ∷ p) (b ∷ q) (suc k) (inl apart) e = apart (sym (first_same e))
part_above (a ∷ p) (b ∷ q) (suc k) (inr (same, parts)) e = part_above p q k parts (rest_same e)

pub part_back : (p q : Path) → DoPart p q → DoPart q p
part_back [] q parts = absurd parts
part_back (a ∷ p) [] parts = absurd parts
part_back (a ∷ p) (b ∷ q) (inl apart) = inl (λ e. apart (sym e))
part_back (a ∷ p) (b ∷ q) (inr (same, parts)) = inr (sym same, part_back p q parts)

-- a path above one of them is above the other too, or it is neither the other nor above it
pub above_both : (p q : Path) (k : ℕ) → DoPart p q → k < length p → ((k < length q) × (take k p ≡ take k q)) ⊎ ((j : ℕ) → take k p ≡ take j q → ⊥)
above_both [] q k parts inside = absurd parts
above_both (a ∷ p) [] k parts inside = absurd parts
above_both (a ∷ p) (b ∷ q) zero parts inside = inl (omega arith, refl)
above_both (a ∷ p) (b ∷ q) (suc k) (inl apart) inside = inr (λ j e. first_at j e)
  where
    first_at : (j : ℕ) → a ∷ take k p ≡ take j (b ∷ q) → ⊥
    first_at zero e = cc
    first_at (suc j) e = apart (first_same e)
above_both (a ∷ p) (b ∷ q) (suc k) (inr (same, parts)) inside = behind (above_both p q k parts (omega (arith, inside)))
  where
    rest_at : ((j : ℕ) → take k p ≡ take j q → ⊥) → (j : ℕ) → a ∷ take k p ≡ take j (b ∷ q) → ⊥
    rest_at none zero e = cc
    rest_at none (suc j) e = none j (rest_same e)

    behind : ((k < length q) × (take k p ≡ take k q)) ⊎ ((j : ℕ) → take k p ≡ take j q → ⊥) → ((suc k < length (b ∷ q)) × (a ∷ take k p ≡ b ∷ take k q)) ⊎ ((j : ℕ) → a ∷ take k p ≡ take j (b ∷ q) → ⊥)
    behind (inl (within, alike)) = inl (omega (arith, within), λ i. same i ∷ alike i)
    behind (inr none) = inr (rest_at none)

-- ---- one file more

all_behind : {X : Type 0} (P : X → Type 0) (xs : List X) (x : X) → AllByRecursion P xs → P x → AllByRecursion P (xs ++ x ∷ [])
all_behind P [] x all here = (here, tt)
all_behind P (y ∷ ys) x all here = (all.0, all_behind P ys x all.1 here)

all_front : {X : Type 0} (P : X → Type 0) (xs : List X) (x : X) → AllByRecursion P (xs ++ x ∷ []) → AllByRecursion P xs
all_front P [] x all = tt
all_front P (y ∷ ys) x all = (all.0, all_front P ys x all.1)

all_last : {X : Type 0} (P : X → Type 0) (xs : List X) (x : X) → AllByRecursion P (xs ++ x ∷ []) → P x
all_last P [] x all = all.0
all_last P (y ∷ ys) x all = all_last P ys x all.1

-- a file that was there stays
kept : (new : Tabled) (text : List ℕ) (before after : Files) (file : Tabled) → SetsOnePath new.path text before after → DoPart file.path new.path → IsLaid before file → IsLaid after file
kept new text before after file sets parts laid =
    let (here, above, others) = sets in
    record {
      text = laid.text;
      there = others file.path (λ k e. part_above new.path file.path k (part_back file.path new.path parts) e) ∙ laid.there;
      reads = laid.reads;
      folders = λ k inside. folder k inside above others (above_both file.path new.path k parts inside);
    }
  where
    folder : (k : ℕ) → k < length file.path → ((k : ℕ) → k < length new.path → holds (take k new.path) after ≡ a_folder) → ((other : Path) → ((k : ℕ) → other ≡ take k new.path → ⊥) → holds other after ≡ holds other before)
        → ((k < length new.path) × (take k file.path ≡ take k new.path)) ⊎ ((j : ℕ) → take k file.path ≡ take j new.path → ⊥) → holds (take k file.path) after ≡ a_folder
    folder k inside above others (inl (within, alike)) = ap (λ path. holds path after) alike ∙ above k within
    folder k inside above others (inr none) = others (take k file.path) none ∙ laid.folders k inside

all_kept : (new : Tabled) (text : List ℕ) (before after : Files) (files : List Tabled) → SetsOnePath new.path text before after → AllByRecursion (λ file. DoPart file.path new.path) files → AllByRecursion (IsLaid before) files → AllByRecursion (IsLaid after) files
all_kept new text before after [] sets parts laid = tt
all_kept new text before after (file ∷ files) sets parts laid = (kept new text before after file sets parts.0 laid.0, all_kept new text before after files sets parts.1 laid.1)

pub one_more : (new : Tabled) (text : List ℕ) (before after : Files) (files : List Tabled) → SetsOnePath new.path text before after → viewed text ≡ Ok new.members
    → AllByRecursion (λ file. DoPart file.path new.path) files → HasExactly files before → HasExactly (files ++ new ∷ []) after
one_more new text before after files sets reads parts has =
    let (here, above, others) = sets in
    record {
      each = all_behind (IsLaid after) files new (all_kept new text before after files sets parts has.each) (record { text = text; there = here; reads = reads; folders = above });
      nothing_else = λ path deep apart. others path (all_last (IsApartFrom path) files new apart) ∙ has.nothing_else path deep (all_front (IsApartFrom path) files new apart);
    }

-- ---- nothing is in its way

-- what a path above a new file holds
above_new : (new : Tabled) (before : Files) (files : List Tabled) (k : ℕ) → k < length new.path → AllByRecursion (λ file. DoPart file.path new.path) files → AllByRecursion (IsLaid before) files
    → (holds (take k new.path) before ≡ a_folder) ⊎ AllByRecursion (IsApartFrom (take k new.path)) files
above_new new before [] k inside parts laid = inr tt
above_new new before (file ∷ files) k inside parts laid = at_first (above_both new.path file.path k (part_back file.path new.path parts.0) inside) (above_new new before files k inside parts.1 laid.1)
  where
    at_first : ((k < length file.path) × (take k new.path ≡ take k file.path)) ⊎ ((j : ℕ) → take k new.path ≡ take j file.path → ⊥) → (holds (take k new.path) before ≡ a_folder) ⊎ AllByRecursion (IsApartFrom (take k new.path)) files
        → (holds (take k new.path) before ≡ a_folder) ⊎ AllByRecursion (IsApartFrom (take k new.path)) (file ∷ files)
    at_first (inl (within, alike)) rest = inl (ap (λ path. holds path before) alike ∙ laid.0.folders k within)
    at_first (inr none) (inl e) = inl e
    at_first (inr none) (inr apart) = inr (none, apart)

new_apart : (new : Tabled) (files : List Tabled) → AllByRecursion (λ file. DoPart file.path new.path) files → AllByRecursion (IsApartFrom new.path) files
new_apart new [] parts = tt
new_apart new (file ∷ files) parts = ((λ k e. part_above file.path new.path k parts.0 e), new_apart new files parts.1)

no_file : {b : List ℕ} → a_folder ≡ bytes b → ⊥
no_file e = cc

not_nothing : {b : List ℕ} → nothing ≡ bytes b → ⊥
not_nothing e = cc

no_folder : nothing ≡ a_folder → ⊥
no_folder e = cc

pub not_blocked : (new : Tabled) (before : Files) (files : List Tabled) → 0 < length new.path → AllByRecursion (λ file. DoPart file.path new.path) files → HasExactly files before → IsBlocked new.path before → ⊥
not_blocked new before files deep parts has (inl e) = no_folder (sym (has.nothing_else new.path deep (new_apart new files parts)) ∙ e)
not_blocked new before files deep parts has (inr (zero, inside, (b, e))) = no_file e
not_blocked new before files deep parts has (inr (suc k, inside, (b, e))) = stands (above_new new before files (suc k) inside parts has.each)
  where
    long : 0 < length (take (suc k) new.path)
    long = taken new.path inside
      where
        taken : (p : Path) → suc k < length p → 0 < length (take (suc k) p)
        taken [] h = absurd (omega (arith, h))
        taken (x ∷ p) h = omega arith

    stands : (holds (take (suc k) new.path) before ≡ a_folder) ⊎ AllByRecursion (IsApartFrom (take (suc k) new.path)) files → ⊥
    stands (inl folder) = no_file (sym folder ∙ e)
    stands (inr apart) = not_nothing (sym (has.nothing_else (take (suc k) new.path) long apart) ∙ e)

-- ---- all files, one after another

some_of : {X : Type 0} (o : Option X) → (o ≡ None → ⊥) → IsSome o
some_of None none = absurd (none refl)
some_of (Some x) none = refl

pub free : BlockedLaw → (new : Tabled) (before : Files) (files : List Tabled) → 0 < length new.path → AllByRecursion (λ file. DoPart file.path new.path) files → HasExactly files before → IsFree new.path before
free law new before files deep parts has text =
    some_of (with_leaf (a_file text) new.path before) (λ e. not_blocked new before files deep parts has ((law new.path text before).0 e))

-- a file parts from those before it
pub parted_at : (files : List Tabled) (i : ℕ) (d : Tabled) → AreParted files → i < length files → AllByRecursion (λ file. DoPart file.path (get_or files i d).path) (take i files)
parted_at [] i d parted inside = absurd (omega (arith, inside))
parted_at (file ∷ files) zero d parted inside = tt
parted_at (file ∷ files) (suc i) d parted inside =
    let within : i < length files = omega (arith, inside) in
    (from_all files i parted.1 within, parted_at files i d parted.2 within)
  where
    from_all : (files : List Tabled) (i : ℕ) → ArePartedFrom file files → i < length files → DoPart file.path (get_or files i d).path
    from_all [] i parts inside = absurd (omega (arith, inside))
    from_all (other ∷ files) zero parts inside = parts.0
    from_all (other ∷ files) (suc i) parts inside = from_all files i parts.1 (omega (arith, inside))

pub deep_at : (files : List Tabled) (i : ℕ) (d : Tabled) → AreParted files → i < length files → 0 < length (get_or files i d).path
deep_at [] i d parted inside = absurd (omega (arith, inside))
deep_at (file ∷ files) zero d parted inside = parted.0
deep_at (file ∷ files) (suc i) d parted inside = deep_at files i d parted.2 (omega (arith, inside))

pub plain_at : (files : List Tabled) (i : ℕ) (d : Tabled) → ArePlain files → i < length files → IsPlain (get_or files i d).members
plain_at [] i d plain inside = absurd (omega (arith, inside))
plain_at (file ∷ files) zero d plain inside = plain.0
plain_at (file ∷ files) (suc i) d plain inside = plain_at files i d plain.1 (omega (arith, inside))

-- a new store has nothing
pub none_yet : HasExactly [] no_files
none_yet = record { each = tt; nothing_else = λ path deep apart. nowhere path deep }
  where
    nowhere : (path : Path) → 0 < length path → holds path no_files ≡ nothing
    nowhere [] deep = absurd (omega (arith, deep))
    nowhere (x ∷ path) deep = refl

-- ---- the files of the code

pub mapped_at : (xs : List TableFile) (i : ℕ) (x : TableFile) → x ≡ get_or xs i x → get_or (map file_of xs) i (file_of x) ≡ file_of x
mapped_at xs i x is = get_or-map file_of xs i x ∙ sym (ap file_of is)

pub mapped_inside : (xs : List TableFile) (i : ℕ) → i < length xs → i < length (map file_of xs)
mapped_inside xs i inside = subst (λ n. i < n) (sym (length-map xs file_of)) inside

pub all_mapped : (xs : List TableFile) (i : ℕ) → i ≤ length xs → length xs ≤ i → i ≡ length (map file_of xs)
all_mapped xs i below above =
    let whole : i ≡ length xs = omega (arith, below, above) in
    whole ∙ sym (length-map xs file_of)
