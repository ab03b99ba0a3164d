-- Putting a key before the others of a table.
use Rattle.std.proofs.Common.{◌≡◌, ◌-◌, ℕ, zero, suc, Bool, true, false, ◌&&◌, List, [], ◌∷◌, map, drop, String, Global, Some, None, string_bytes, string_cmp, Less, Equal, Greater, Ordering, refl, ap, sym, ◌∙◌}
use Rattle.std.specs.Ordering.{nat_cmp, is_lt, match_ordering}
use Rattle.std.specs.Cmp.Lexicographic.{slice_cmp}
use Rattle.std.specs.BTreeMap.{insert_entry}
use Rattle.std.specs.FinMap.Entries.{below_all}
use Rattle.toml.specs.Data.{Data, Members, member, is_before}
use Rattle.toml.specs.View.{view, members_view}
use Rattle.toml.specs.declared.value.Value.{Value}
use Rattle.pkg_world.specs.ByName.{is_by_name}
use Rattle.manifest_file.specs.Written.{Puts, members_opt}

abbrev Entry : Type 0
Entry = String Global × Value

left_true : (a b : Bool) → (a && b) ≡ true → a ≡ true
left_true true b e = refl
left_true false b e = e

right_true : (a b : Bool) → (a && b) ≡ true → b ≡ true
right_true true b e = e
right_true false b e = cc

-- a key below all keys is before the table's first
before_puts : (key : List ℕ) (puts : Puts) → below_all (slice_cmp nat_cmp) key puts ≡ true → is_before key (members_opt puts) ≡ true
before_puts key [] h = refl
before_puts key ((k, None) ∷ puts) h = before_puts key puts (right_true (is_lt (slice_cmp nat_cmp key k)) _ h)
before_puts key ((k, Some d) ∷ puts) h = left_true (is_lt (slice_cmp nat_cmp key k)) _ h

insert_before : (k : String Global) (v : Value) (es : List Entry) → is_before (string_bytes k) (members_view es) ≡ true
    → members_view (insert_entry string_cmp es k v) ≡ member (string_bytes k) (view v) (members_view es)
insert_before k v [] h = refl
insert_before k v (e ∷ es) h = go (string_cmp k e.0) h
  where
    go : (o : Ordering) → is_lt o ≡ true
        → members_view (match_ordering o ((k, v) ∷ e ∷ es) ((e.0, v) ∷ es) (e ∷ insert_entry string_cmp es k v)) ≡ member (string_bytes k) (view v) (members_view (e ∷ es))
    go Less h = refl
    go Equal h = cc
    go Greater h = cc

-- what a table shows when a key before the others is put in
pub put_first : (k : String Global) (name : List ℕ) (v : Value) (old new : List Entry) (puts : Puts) → string_bytes k ≡ name → new ≡ insert_entry string_cmp old k v
    → members_view old ≡ members_opt puts → is_by_name ((name, Some (view v)) ∷ puts) ≡ true → members_view new ≡ members_opt ((name, Some (view v)) ∷ puts)
put_first k name v old new puts named inserted shows ordered =
    let below : below_all (slice_cmp nat_cmp) name puts ≡ true = left_true _ _ ordered in
    let before : is_before (string_bytes k) (members_view old) ≡ true = rw (named, shows) (before_puts name puts below) in
    ap members_view inserted ∙ insert_before k v old before ∙ ap (λ n. member n (view v) (members_view old)) named ∙ ap (member name (view v)) shows

below_all-map : {X Y : Type 0} (f : X → Y) (name : List ℕ) (ps : List (List ℕ × X)) → below_all (slice_cmp nat_cmp) name (map (λ p. (p.0, f p.1)) ps) ≡ below_all (slice_cmp nat_cmp) name ps
below_all-map f name [] = refl
below_all-map f name (p ∷ ps) = ap (λ b. is_lt (slice_cmp nat_cmp name p.0) && b) (below_all-map f name ps)

-- the order is one of the names alone
pub by_name-map : {X Y : Type 0} (f : X → Y) (ps : List (List ℕ × X)) → is_by_name (map (λ p. (p.0, f p.1)) ps) ≡ is_by_name ps
by_name-map f [] = refl
by_name-map f (p ∷ ps) = rw (below_all-map f p.0 ps, by_name-map f ps) refl

pub by_name-drop : {X : Type 0} (i : ℕ) (ps : List (List ℕ × X)) → is_by_name ps ≡ true → is_by_name (drop i ps) ≡ true
by_name-drop zero ps h = h
by_name-drop (suc i) [] h = refl
by_name-drop (suc i) (p ∷ ps) h = by_name-drop i ps (right_true _ _ h)

-- going from the last to the first, one more pair is put
pub next_put : {X : Type 0} (f : X → Data) (ps : List (List ℕ × X)) (left : ℕ) (item : List ℕ × X) (name : List ℕ) (d : Data) (old new : Members) → is_by_name ps ≡ true
    → drop (left - 1) ps ≡ item ∷ drop left ps → name ≡ item.0 → d ≡ f item.1
    → ((puts : Puts) → old ≡ members_opt puts → is_by_name ((name, Some d) ∷ puts) ≡ true → new ≡ members_opt ((name, Some d) ∷ puts))
    → old ≡ members_opt (map (λ q. (q.0, Some (f q.1))) (drop left ps)) → new ≡ members_opt (map (λ q. (q.0, Some (f q.1))) (drop (left - 1) ps))
next_put f ps left item name d old new sorted here named is put shows =
    let rest : Puts = map (λ q. (q.0, Some (f q.1))) (drop left ps) in
    let whole : is_by_name (item ∷ drop left ps) ≡ true = ap is_by_name (sym here) ∙ by_name-drop (left - 1) ps sorted in
    let ordered : is_by_name ((name, Some d) ∷ rest) ≡ true = rw named (by_name-map (λ x. Some (f x)) (item ∷ drop left ps) ∙ whole) in
    put rest shows ordered ∙ ap (λ n. members_opt ((n, Some d) ∷ rest)) named ∙ ap (λ e. members_opt ((item.0, Some e) ∷ rest)) is
    ∙ ap (λ r. members_opt (map (λ q. (q.0, Some (f q.1))) r)) (sym here)
