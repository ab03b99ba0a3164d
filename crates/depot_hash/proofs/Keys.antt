-- The entries of a tree at their places, and names that come twice.
use Rattle.std.proofs.Common.{◌≡◌, ℕ, ◌+◌, ◌<◌, nat_lt, Bool, true, false, cond, if◌then◌else◌, ◌⊎◌, inl, inr, List, [], ◌∷◌, length, take, get_or, count_by, Option, Some, None, Ordering, nat_cmp, refl, ap, sym, ◌∙◌, arith, rules}
use Rattle.std.specs.Borrow.{Bor}
use Rattle.std.specs.List.{flat_map}
use Rattle.std.specs.Map.{values_of}
use Rattle.std.specs.BTreeMap.{insert_entry}
use Rattle.std.specs.BTreeSet.{BTreeSet, contains, Updates}
use Rattle.std.specs.Ordering.{is_lt, match_ordering, ordering_reverse}
use Rattle.std.specs.declared.cmp.Ordering.TheVariants.{Less, Equal, Greater}
use Rattle.std.specs.Str.{bytes_eq}
use Rattle.std.specs.Cmp.Lexicographic.{slice_cmp, nat_list_cmp_total}
use Rattle.std.proofs.lemmas.Bool.{both_ways}
use Rattle.std.proofs.lemmas.Bool.Decides.{nat_tests}
use Rattle.std.proofs.lemmas.List.Sums.{sum_by_more}
use Rattle.std.proofs.lemmas.Slice.Eq.{bytes_eq-Decides}
use Rattle.std.proofs.lemmas.Map.Text.{is_eq-slice_cmp}
use Rattle.depot_hash.specs.Trees.{IsFirst, IsFirstTwice, comes_twice, line}
use Rattle.depot_hash.specs.Placed.{seen, lesser}
use Rattle.depot_hash.specs.declared.entries.TreeEntry.{TreeEntry}

pub seen_insert : (es : List (List ℕ × Bor TreeEntry)) (k : List ℕ) (v : Bor TreeEntry) → seen (insert_entry (slice_cmp nat_cmp) es k v) ≡ insert_entry (slice_cmp nat_cmp) (seen es) k v.now
seen_insert [] k v = refl
seen_insert (e ∷ es) k v =
    elim (slice_cmp nat_cmp k e.0) as (λ o. seen (match_ordering o ((k, v) ∷ e ∷ es) ((e.0, v) ∷ es) (e ∷ insert_entry (slice_cmp nat_cmp) es k v)) ≡ match_ordering o ((k, v.now) ∷ (e.0, e.1.now) ∷ seen es) ((e.0, v.now) ∷ seen es) ((e.0, e.1.now) ∷ insert_entry (slice_cmp nat_cmp) (seen es) k v.now)) [
      | Less ↦ refl
      | Equal ↦ refl
      | Greater ↦ rw (seen_insert es k v)
    ]

pub lines_seen : (es : List (List ℕ × Bor TreeEntry)) → flat_map (λ e. line e.now) (values_of es) ≡ flat_map line (values_of (seen es))
lines_seen [] = refl
lines_seen (e ∷ es) = rw (lines_seen es)

-- ---- the first name that passes

less_is : (o : Ordering) → is_lt o ≡ true → o ≡ Less
less_is Less h = refl
less_is Equal h = cc
less_is Greater h = cc

not_below : (o : Bool) → (o ≡ true → ⊥) → o ≡ false
not_below true h = absurd (h refl)
not_below false h = refl

below_itself : (x : List ℕ) → is_lt (slice_cmp nat_cmp x x) ≡ false
below_itself x = not_below _ (λ h.
    let less = less_is (slice_cmp nat_cmp x x) h in
    let turned : slice_cmp nat_cmp x x ≡ ordering_reverse (slice_cmp nat_cmp x x) = nat_list_cmp_total.antisymm x x in
    let both : Less ≡ ordering_reverse Less = rw less at turned in
    cc)

below_through : (x y z : List ℕ) → is_lt (slice_cmp nat_cmp x y) ≡ true → is_lt (slice_cmp nat_cmp y z) ≡ true → is_lt (slice_cmp nat_cmp x z) ≡ true
below_through x y z h k = ap is_lt (nat_list_cmp_total.trans x y z (less_is (slice_cmp nat_cmp x y) h) (less_is (slice_cmp nat_cmp y z) k))

first_kept : (p q : List ℕ → Bool) → ((name : List ℕ) → q name ≡ p name) → (first : Option (List ℕ)) → IsFirst p first → IsFirst q first
first_kept p q same None h = λ name. same name ∙ h name
first_kept p q same (Some first) h = (same first ∙ h.0, λ other passes. h.1 other (sym (same other) ∙ passes))

lesser_of : (p q : List ℕ → Bool) (x first : List ℕ) (below : Bool) → is_lt (slice_cmp nat_cmp x first) ≡ below → q x ≡ true → ((name : List ℕ) → q name ≡ true → (p name ≡ true) ⊎ (name ≡ x))
    → ((name : List ℕ) → p name ≡ true → q name ≡ true) → IsFirst p (Some first) → IsFirst q (Some (if below then x else first))
lesser_of p q x first true is new more kept h = (
  new,
  λ other passes. elim (more other passes) [
    | inl old ↦ not_below _ (λ less. both_ways _ (h.1 other old) (below_through other x first less is))
    | inr same ↦ rw same (below_itself x)
  ],
)
lesser_of p q x first false is new more kept h =
    (kept first h.0, λ other passes. elim (more other passes) [ inl old ↦ h.1 other old | inr same ↦ rw same is ])

first_more : (p q : List ℕ → Bool) (x : List ℕ) → q x ≡ true → ((name : List ℕ) → q name ≡ true → (p name ≡ true) ⊎ (name ≡ x))
    → ((name : List ℕ) → p name ≡ true → q name ≡ true) → (first : Option (List ℕ)) → IsFirst p first → IsFirst q (Some (lesser first x))
first_more p q x new more kept None h =
    (new, λ other passes. elim (more other passes) [ inl old ↦ absurd (both_ways _ (h other) old) | inr same ↦ rw same (below_itself x) ])
first_more p q x new more kept (Some first) h = lesser_of p q x first _ refl new more kept h

-- ---- one entry more

counted : (entries : List TreeEntry) (i : ℕ) (e : TreeEntry) (name : List ℕ) → i < length entries → e ≡ get_or entries i e
    → count_by (λ entry. bytes_eq entry.name name) (take (i + 1) entries) ≡ count_by (λ entry. bytes_eq entry.name name) (take i entries) + cond (bytes_eq e.name name) 1 0
counted entries i e name h is = sum_by_more (λ entry. cond (bytes_eq entry.name name) 1 0) entries i e h ∙ rw (← is)

met_by : (same had has : Bool) (before now : ℕ) → has ≡ cond same true had → had ≡ nat_lt 0 before → now ≡ before + cond same 1 0 → has ≡ nat_lt 0 now
met_by true had has before now e f g = grind (arith, nat_tests)
met_by false had has before now e f g = grind (arith, nat_tests)

pub met_more : (entries : List TreeEntry) (i : ℕ) (e : TreeEntry) (old new : BTreeSet (List ℕ)) → i < length entries → e ≡ get_or entries i e
    → ((name : List ℕ) → contains (slice_cmp nat_cmp) old name ≡ nat_lt 0 (count_by (λ entry. bytes_eq entry.name name) (take i entries)))
    → Updates (slice_cmp nat_cmp) old new e.name true → (name : List ℕ)
    → contains (slice_cmp nat_cmp) new name ≡ nat_lt 0 (count_by (λ entry. bytes_eq entry.name name) (take (i + 1) entries))
met_more entries i e old new h is met set name =
    met_by (bytes_eq e.name name) _ _ _ _ (rw is_eq-slice_cmp at (set.0 name)) (met name) (counted entries i e name h is)

twice_kept : (same : Bool) (before now : ℕ) → (same ≡ true → before ≡ 0) → now ≡ before + cond same 1 0 → nat_lt 1 now ≡ nat_lt 1 before
twice_kept true before now h g = let none = h refl in grind (arith, nat_tests)
twice_kept false before now h g = grind (arith, nat_tests)

same_name : (x name : List ℕ) → bytes_eq x name ≡ true → x ≡ name
same_name x name h = search (rules, bytes_eq-Decides)

pub first_if_new : (entries : List TreeEntry) (i : ℕ) (e : TreeEntry) (first : Option (List ℕ)) → i < length entries → e ≡ get_or entries i e
    → nat_lt 0 (count_by (λ entry. bytes_eq entry.name e.name) (take i entries)) ≡ false → IsFirstTwice (take i entries) first → IsFirstTwice (take (i + 1) entries) first
first_if_new entries i e first h is new before =
    first_kept (comes_twice (take i entries)) (comes_twice (take (i + 1) entries))
    (λ name. twice_kept (bytes_eq e.name name) _ _ (λ same. let x = same_name e.name name same in rw (← x) (grind (arith, nat_tests))) (counted entries i e name h is))
    first before

twice_now : (same : Bool) (before now : ℕ) → now ≡ before + cond same 1 0 → nat_lt 1 now ≡ true → (nat_lt 1 before ≡ true) ⊎ (same ≡ true)
twice_now true before now g h = inr refl
twice_now false before now g h = inl (grind (arith, nat_tests))

twice_still : (same : Bool) (before now : ℕ) → now ≡ before + cond same 1 0 → nat_lt 1 before ≡ true → nat_lt 1 now ≡ true
twice_still true before now g h = grind (arith, nat_tests)
twice_still false before now g h = grind (arith, nat_tests)

pub first_if_met : (entries : List TreeEntry) (i : ℕ) (e : TreeEntry) (first : Option (List ℕ)) → i < length entries → e ≡ get_or entries i e
    → nat_lt 0 (count_by (λ entry. bytes_eq entry.name e.name) (take i entries)) ≡ true → IsFirstTwice (take i entries) first → IsFirstTwice (take (i + 1) entries) (Some (lesser first e.name))
first_if_met entries i e first h is met before =
    let itself : bytes_eq e.name e.name ≡ true = search (rules, bytes_eq-Decides) in
    let more : count_by (λ entry. bytes_eq entry.name e.name) (take (i + 1) entries) ≡ count_by (λ entry. bytes_eq entry.name e.name) (take i entries) + 1 =
    counted entries i e e.name h is ∙ rw itself in
    let twice : comes_twice (take (i + 1) entries) e.name ≡ true = grind (arith, nat_tests) in
    first_more (comes_twice (take i entries)) (comes_twice (take (i + 1) entries)) e.name
    twice
    (λ name passes. elim (twice_now (bytes_eq e.name name) _ _ (counted entries i e name h is) passes) [ inl old ↦ inl old | inr same ↦ inr (sym (same_name e.name name same)) ])
    (λ name passes. twice_still (bytes_eq e.name name) _ _ (counted entries i e name h is) passes)
    first before
