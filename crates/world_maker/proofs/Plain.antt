-- The tables of a world nest three deep at most, and have no dates.
use Rattle.std.proofs.Common.{◌≡◌, ℕ, ◌+◌, ◌*◌, ◌≤◌, ◌&&◌, Bool, true, false, List, [], ◌∷◌, ◌++◌, map, length, get_or, codes, Ordering, Less, Equal, Greater, nat_cmp, refl, arith}
use Rattle.std.specs.Cmp.Lexicographic.{slice_cmp}
use Rattle.std.specs.List.{AllByRecursion, fold, flat_map, range_with_len}
use Rattle.std.specs.Ordering.{match_ordering}
use Rattle.std.proofs.Math.Nat.{max-le}
use Rattle.toml.specs.Data.{Data, string, Members, no_members, member, depth, members_depth, has_valid_dates, members_have_valid_dates}
use Rattle.world_maker.specs.declared.ranges.Span.{Span}
use Rattle.world_maker.specs.Tables.{put, members_of, table_of, id_pair, version_pair, compat_pair, section_pair, listing_pair, package_members, versions_members, deps_members, compat_members, registry_members, project_members}
use Rattle.world_maker.specs.Texts.{name, uuid, tree, range_text}
use Rattle.world_maker.specs.World.{Tabled, needs_of, spans_of, first_files, package_files, drawn_files, sized_world}
use Rattle.world_maker.specs.Laid.{IsPlain, ArePlain}

record IsFlat (n : ℕ) (d : Data) : Type 0 where
  deep : depth d ≤ n
  dated : has_valid_dates d ≡ true

record AreFlat (n : ℕ) (members : Members) : Type 0 where
  deep : members_depth members ≤ n
  dated : members_have_valid_dates members ≡ true

both : (a b : Bool) → a ≡ true → b ≡ true → (a && b) ≡ true
both true b first second = second
both false b first second = first

split : (a b : Bool) → (a && b) ≡ true → (a ≡ true) × (b ≡ true)
split true b e = (refl, e)
split false b e = cc

one : {n : ℕ} {key : List ℕ} {value : Data} {members : Members} → IsFlat n value → AreFlat n members → AreFlat n (member key value members)
one {n} {key} {value} {members} here rest =
    record { deep = max-le here.deep rest.deep; dated = both (has_valid_dates value) (members_have_valid_dates members) here.dated rest.dated }

put_at : {n : ℕ} (o : Ordering) (a b c : Members) → AreFlat n a → AreFlat n b → AreFlat n c → AreFlat n (match_ordering o a b c)
put_at Less a b c x y z = x
put_at Equal a b c x y z = y
put_at Greater a b c x y z = z

first : (n : ℕ) (key : List ℕ) (value : Data) (members : Members) → AreFlat n (member key value members) → IsFlat n value
first n key value members flat =
    let deep : members_depth (member key value members) ≤ n = flat.deep in
    record { deep = omega (arith, deep); dated = (split (has_valid_dates value) (members_have_valid_dates members) flat.dated).0 }

others : (n : ℕ) (key : List ℕ) (value : Data) (members : Members) → AreFlat n (member key value members) → AreFlat n members
others n key value members flat =
    let deep : members_depth (member key value members) ≤ n = flat.deep in
    record { deep = omega (arith, deep); dated = (split (has_valid_dates value) (members_have_valid_dates members) flat.dated).1 }

put_flat : (n : ℕ) (key : List ℕ) (value : Data) (members : Members) → IsFlat n value → AreFlat n members → AreFlat n (put key value members)
put_flat n key value no_members here rest = one here rest
put_flat n key value (member k v more) here rest =
    put_at (slice_cmp nat_cmp key k) (member key value (member k v more)) (member k value more) (member k v (put key value more))
    (one here rest) (one here (others n k v more rest)) (one (first n k v more rest) (put_flat n key value more here (others n k v more rest)))

folded : (n : ℕ) (pairs : List (List ℕ × Data)) (those : Members) → AllByRecursion (λ (p : List ℕ × Data). IsFlat n p.1) pairs → AreFlat n those → AreFlat n (fold (λ ms pair. put pair.0 pair.1 ms) those pairs)
folded n [] those all rest = rest
folded n (pair ∷ pairs) those all rest = folded n pairs (put pair.0 pair.1 those) all.1 (put_flat n pair.0 pair.1 those all.0 rest)

none : (n : ℕ) → AreFlat n no_members
none n = record { deep = omega arith; dated = refl }

members_flat : (n : ℕ) (pairs : List (List ℕ × Data)) → AllByRecursion (λ (p : List ℕ × Data). IsFlat n p.1) pairs → AreFlat n (members_of pairs)
members_flat n pairs all = folded n pairs no_members all (none n)

table_flat : (n : ℕ) (pairs : List (List ℕ × Data)) → AllByRecursion (λ (p : List ℕ × Data). IsFlat n p.1) pairs → IsFlat (n + 1) (table_of pairs)
table_flat n pairs all =
    let flat = members_flat n pairs all in
    let deep : members_depth (members_of pairs) ≤ n = flat.deep in
    record { deep = omega (arith, deep); dated = flat.dated }

text_flat : (n : ℕ) (text : List ℕ) → IsFlat n (string text)
text_flat n text = record { deep = omega arith; dated = refl }

deeper : (m n : ℕ) (d : Data) → m ≤ n → IsFlat m d → IsFlat n d
deeper m n d more flat =
    let deep : depth d ≤ m = flat.deep in
    record { deep = omega (arith, deep, more); dated = flat.dated }

all_mapped : {X : Type 0} (n : ℕ) (f : X → List ℕ × Data) → ((x : X) → IsFlat n (f x).1) → (xs : List X) → AllByRecursion (λ (p : List ℕ × Data). IsFlat n p.1) (map f xs)
all_mapped n f each [] = tt
all_mapped n f each (x ∷ xs) = (each x, all_mapped n f each xs)

plain : (n : ℕ) (members : Members) → n ≤ 3 → AreFlat n members → IsPlain members
plain n members small flat =
    let deep : members_depth members ≤ n = flat.deep in
    record { flat = omega (arith, deep, small); dated = flat.dated }

-- ---- the tables of the files

ids_flat : (xs : List ℕ) → IsFlat 1 (table_of (map id_pair xs))
ids_flat xs = table_flat 0 (map id_pair xs) (all_mapped 0 id_pair (λ k. text_flat 0 (uuid k)) xs)

abbrev Pairs : Type 0
Pairs = List (List ℕ × Data)

-- a table of two texts, and one of one
two_flat : (n : ℕ) (k l a b : List ℕ) → AllByRecursion (λ (p : List ℕ × Data). IsFlat n p.1) ((k, string a) ∷ (l, string b) ∷ [])
two_flat n k l a b = (text_flat n a, (text_flat n b, tt))

package_plain : (k : ℕ) → IsPlain (package_members k)
package_plain k = plain 0 (package_members k) (omega arith) (members_flat 0 ((codes "name", string (name k)) ∷ (codes "uuid", string (uuid k)) ∷ []) (two_flat 0 (codes "name") (codes "uuid") (name k) (uuid k)))

version_flat : (k i : ℕ) → IsFlat 1 (version_pair k i).1
version_flat k i = table_flat 0 ((codes "git-tree-sha1", string (tree k i)) ∷ []) (text_flat 0 (tree k i), tt)

versions_plain : (versions k : ℕ) → IsPlain (versions_members versions k)
unfolding versions_members
versions_plain versions k =
    let pairs : Pairs = map (version_pair k) (range_with_len 0 versions) in
    plain 1 (members_of pairs) (omega arith) (members_flat 1 pairs (all_mapped 1 (version_pair k) (version_flat k) (range_with_len 0 versions)))

deps_plain : (needs : List ℕ) → IsPlain (deps_members needs)
deps_plain needs = plain 1 (deps_members needs) (omega arith) (members_flat 1 ((codes "1", table_of (map id_pair needs)) ∷ []) (ids_flat needs, tt))

section_flat : (needs : List ℕ) (spans : List Span) (i : ℕ) → IsFlat 1 (section_pair needs spans i).1
section_flat needs spans i =
    let pairs : Pairs = map (compat_pair needs spans i) (range_with_len 0 (length needs)) in
    table_flat 0 pairs (all_mapped 0 (compat_pair needs spans i) (λ j. text_flat 0 (range_text (get_or spans (8 * j + i) (record { low = 0; high = 0 })))) (range_with_len 0 (length needs)))

compat_plain : (versions : ℕ) (needs : List ℕ) (spans : List Span) → IsPlain (compat_members versions needs spans)
unfolding compat_members
compat_plain versions needs spans =
    let pairs : Pairs = map (section_pair needs spans) (range_with_len 0 versions) in
    plain 1 (members_of pairs) (omega arith) (members_flat 1 pairs (all_mapped 1 (section_pair needs spans) (section_flat needs spans) (range_with_len 0 versions)))

listing_flat : (k : ℕ) → IsFlat 1 (listing_pair k).1
listing_flat k = table_flat 0 ((codes "name", string (name k)) ∷ (codes "path", string (name k)) ∷ []) (two_flat 0 (codes "name") (codes "path") (name k) (name k))

registry_plain : (count : ℕ) → IsPlain (registry_members count)
registry_plain count =
    let listed : IsFlat 2 (table_of (map listing_pair (range_with_len 0 count))) = table_flat 1 (map listing_pair (range_with_len 0 count)) (all_mapped 1 listing_pair listing_flat (range_with_len 0 count)) in
    let pairs : Pairs = (codes "name", string (codes "Made")) ∷ (codes "packages", table_of (map listing_pair (range_with_len 0 count))) ∷ (codes "uuid", string (codes "00000000-0000-4000-9000-000000000999")) ∷ [] in
    plain 2 (registry_members count) (omega arith) (members_flat 2 pairs (text_flat 2 (codes "Made"), (listed, (text_flat 2 (codes "00000000-0000-4000-9000-000000000999"), tt))))

project_plain : (roots : ℕ) → IsPlain (project_members roots)
unfolding project_members
project_plain roots =
    let pairs : Pairs = (codes "deps", table_of (map id_pair (range_with_len 0 roots))) ∷ [] in
    plain 1 (members_of pairs) (omega arith) (members_flat 1 pairs (ids_flat (range_with_len 0 roots), tt))

-- ---- all files

all_joined : (xs ys : List Tabled) → ArePlain xs → ArePlain ys → ArePlain (xs ++ ys)
all_joined [] ys first second = second
all_joined (x ∷ xs) ys first second = (first.0, all_joined xs ys first.1 second)

package_files_plain : (k : ℕ) (needs : List ℕ) (spans : List Span) → ArePlain (package_files k needs spans)
package_files_plain k needs spans = (package_plain k, (versions_plain 8 k, (deps_plain needs, (compat_plain 8 needs spans, tt))))

packages_plain : (number count : ℕ) (ks : List ℕ) → ArePlain (flat_map (drawn_files number count) ks)
packages_plain number count [] = tt
packages_plain number count (k ∷ ks) = all_joined (drawn_files number count k) (flat_map (drawn_files number count) ks) (package_files_plain k (needs_of number count k) (spans_of number count k)) (packages_plain number count ks)

pub world_plain : (number count : ℕ) → ArePlain (sized_world number count)
unfolding sized_world
world_plain number count = all_joined (first_files count) (flat_map (drawn_files number count) (range_with_len 0 count)) (project_plain 10, (registry_plain count, tt)) (packages_plain number count (range_with_len 0 count))
