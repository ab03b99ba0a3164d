-- The members of a table, one more at a time.
use Rattle.std.proofs.Common.{◌≡◌, ℕ, ◌+◌, ◌<◌, List, [], ◌∷◌, ◌++◌, length, get_or, take, map, String, Global, string_bytes, string_cmp, Ordering, Less, Equal, Greater, refl, ap, ◌∙◌, arith}
use Rattle.std.proofs.lemmas.List.{map-append, take_more}
use Rattle.std.proofs.lemmas.List.Sums.{fold-append}
use Rattle.std.proofs.lemmas.List.FromFn.{map-range_with_len_more}
use Rattle.std.specs.BTreeMap.{insert_entry}
use Rattle.std.specs.List.{range_with_len}
use Rattle.std.specs.Ordering.{match_ordering}
use Rattle.toml.specs.Data.{Data, no_members}
use Rattle.toml.specs.View.{view, members_view}
use Rattle.toml.specs.declared.value.Value.{Value}
use Rattle.world_maker.specs.Tables.{put, members_of}

abbrev Entry : Type 0
Entry = String Global × Value

match_members : (o : Ordering) (a b c : List Entry) → members_view (match_ordering o a b c) ≡ match_ordering o (members_view a) (members_view b) (members_view c)
match_members Less a b c = refl
match_members Equal a b c = refl
match_members Greater a b c = refl

-- an insert into the map of a table puts the value at the key
pub insert_is_put : (es : List Entry) (k : String Global) (v : Value) → members_view (insert_entry string_cmp es k v) ≡ put (string_bytes k) (view v) (members_view es)
insert_is_put [] k v = refl
insert_is_put (e ∷ es) k v = match_members (string_cmp k e.0) _ _ _ ∙ rw (insert_is_put es k v)

members_more : (pairs : List (List ℕ × Data)) (pair : List ℕ × Data) → members_of (pairs ++ pair ∷ []) ≡ put pair.0 pair.1 (members_of pairs)
members_more pairs pair = fold-append (λ members p. put p.0 p.1 members) no_members pairs (pair ∷ [])

-- one number more
pub numbered_more : (f : ℕ → List ℕ × Data) (n : ℕ) → members_of (map f (range_with_len 0 (n + 1))) ≡ put (f n).0 (f n).1 (members_of (map f (range_with_len 0 n)))
numbered_more f n = ap members_of (map-range_with_len_more f 0 n n (omega arith)) ∙ members_more (map f (range_with_len 0 n)) (f n)

-- one item more
pub listed_more : (f : ℕ → List ℕ × Data) (xs : List ℕ) (i : ℕ) → i < length xs → members_of (map f (take (i + 1) xs)) ≡ put (f (get_or xs i 0)).0 (f (get_or xs i 0)).1 (members_of (map f (take i xs)))
listed_more f xs i inside =
    ap (λ ys. members_of (map f ys)) (take_more xs i 0 inside) ∙ ap members_of (map-append f (take i xs) (get_or xs i 0 ∷ [])) ∙ members_more (map f (take i xs)) (f (get_or xs i 0))
