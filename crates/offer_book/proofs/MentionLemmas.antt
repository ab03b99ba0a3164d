-- Packages that are mentioned one after the other: each stands once, by its first mention, and the earlier ones stay in front.
use Rattle.std.proofs.Common.{◌≡◌, ℕ, ◌≤◌, Bool, true, false, cond, ◌||◌, List, [], ◌∷◌, ◌++◌, append-nil, append_assoc, map, fold, length, take, Option, Some, None, is_some, bytes_eq, option_map, ◌⊎◌, inl, inr, refl, sym, ap, ◌∙◌, subst, true≢false}
use Rattle.std.specs.List.{list_any, AllByRecursion, IsDistinct, find}
use Rattle.std.specs.Map.{keys_of, lookup}
use Rattle.std.specs.Option.{option_or}
use Rattle.std.proofs.lemmas.List.{map-append, take-append-le, length-map}
use Rattle.std.proofs.lemmas.List.Folds.{list_any-append}
use Rattle.std.proofs.lemmas.List.Sums.{fold-append}
use Rattle.std.proofs.lemmas.Map.Made.{is_some-lookup}
use Rattle.std.proofs.lemmas.Slice.Eq.{bytes_eq-Decides}
use Rattle.offer_terms.specs.Offered.{Text, Id}
use Rattle.offer_book.specs.Numbers.{Mentions, is_mentioned, mention, mention_all, firsts}
use Rattle.offer_book.specs.Laws.{named_in, FirstsAreOnce, FirstsAreNamed, FrontComesFirst}

pub same_id : (u v : Id) → bytes_eq u v ≡ true → u ≡ v
same_id u v = (bytes_eq-Decides u v).0

pub own_id : (u : Id) → bytes_eq u u ≡ true
own_id u = (bytes_eq-Decides u u).1 refl

-- whether an identifier is one of these
abbrev pub has : List Id → Id → Bool
has ids u = list_any (bytes_eq u) ids

pub mentioned-has : (ms : Mentions) (u : Id) → is_mentioned ms u ≡ has (keys_of ms) u
mentioned-has ms u = is_some-lookup (bytes_eq u) ms

-- what is in one of two
pub or_left : (a b : Bool) → a ≡ true → (a || b) ≡ true
or_left true b is = refl
or_left false b is = absurd (true≢false (sym is))

pub or_right : (a b : Bool) → b ≡ true → (a || b) ≡ true
or_right true b is = refl
or_right false b is = is

pub or_cases : (a b : Bool) → (a || b) ≡ true → (a ≡ true) ⊎ (b ≡ true)
or_cases true b is = inl refl
or_cases false b is = inr is

-- ---- the earlier ones stay in front

pub record Extends (old new : Mentions) : Type 0 where
  pub later : Mentions
  pub is : new ≡ old ++ later

mention-extends : (ms : Mentions) (d : Text × Id) → Extends ms (mention ms d)
mention-extends ms d =
    elim (is_mentioned ms d.1) as (λ b. Extends ms (cond b ms (ms ++ (d.1, d.0) ∷ []))) [
      | true ↦ record { later = []; is = sym (append-nil ms) }
      | false ↦ record { later = (d.1, d.0) ∷ []; is = refl }
    ]

pub mentions-extend : (list : List (Text × Id)) (ms : Mentions) → Extends ms (mention_all ms list)
mentions-extend [] ms = record { later = []; is = sym (append-nil ms) }
mentions-extend (d ∷ list) ms =
    let one = mention-extends ms d in
    let more = mentions-extend list (mention ms d) in record {
      later = one.later ++ more.later;
      is = more.is ∙ ap (λ t. t ++ more.later) one.is ∙ append_assoc ms one.later more.later;
    }

pub front_comes_first : FrontComesFirst
front_comes_first front more =
    let rest = mentions-extend more (firsts front) in (rest.later, fold-append mention [] front more ∙ rest.is)

-- those in front are the same after more was mentioned
pub front-stays : (ms : Mentions) (list : List (Text × Id)) (n : ℕ) → n ≤ length ms → take n (keys_of (mention_all ms list)) ≡ take n (keys_of ms)
front-stays ms list n within =
    let rest = mentions-extend list ms in
    let inside : n ≤ length (keys_of ms) = subst (λ m. n ≤ m) (sym (length-map ms (λ e. e.0))) within in
    ap (λ es. take n (keys_of es)) rest.is ∙ ap (take n) (map-append (λ e. e.0) ms rest.later) ∙ take-append-le n (keys_of ms) (keys_of rest.later) inside

-- ---- which packages are mentioned

-- whether a list of names and identifiers has a package
abbrev pub lists : List (Text × Id) → Id → Bool
lists list u = list_any (λ d. bytes_eq u d.1) list

or_false : (a : Bool) → (a || false) ≡ a
or_false true = refl
or_false false = refl

or_assoc : (a b c : Bool) → ((a || b) || c) ≡ (a || (b || c))
or_assoc true b c = refl
or_assoc false b c = refl

-- a package that is there already
there_already : (ids : List Id) (u v : Id) → has ids v ≡ true → has ids u ≡ (has ids u || bytes_eq u v)
there_already ids u v there =
    elim (bytes_eq u v) as (λ b. bytes_eq u v ≡ b → has ids u ≡ (has ids u || b)) [
      | true ↦ λ same. let is : has ids u ≡ true = ap (has ids) (same_id u v same) ∙ there in is ∙ sym (or_left (has ids u) true is)
      | false ↦ λ _. sym (or_false (has ids u))
    ] refl

mention-has : (ms : Mentions) (d : Text × Id) (u : Id) → has (keys_of (mention ms d)) u ≡ (has (keys_of ms) u || bytes_eq u d.1)
mention-has ms d u =
    elim (is_mentioned ms d.1) as (λ b. is_mentioned ms d.1 ≡ b → has (keys_of (cond b ms (ms ++ (d.1, d.0) ∷ []))) u ≡ (has (keys_of ms) u || bytes_eq u d.1)) [
      | true ↦ λ there. there_already (keys_of ms) u d.1 (sym (mentioned-has ms d.1) ∙ there)
      | false ↦ λ _. ap (λ ids. has ids u) (map-append (λ e. e.0) ms ((d.1, d.0) ∷ [])) ∙ list_any-append (bytes_eq u) (keys_of ms) (d.1 ∷ [])
          ∙ ap (λ b. has (keys_of ms) u || b) (or_false (bytes_eq u d.1))
    ] refl

pub mentions-have : (list : List (Text × Id)) (ms : Mentions) (u : Id) → has (keys_of (mention_all ms list)) u ≡ (has (keys_of ms) u || lists list u)
mentions-have [] ms u = sym (or_false (has (keys_of ms) u))
mentions-have (d ∷ list) ms u =
    mentions-have list (mention ms d) u ∙ ap (λ b. b || lists list u) (mention-has ms d u) ∙ or_assoc (has (keys_of ms) u) (bytes_eq u d.1) (lists list u)

-- ---- each stands once

pub turned : (k u : Id) → bytes_eq u k ≡ false → bytes_eq k u ≡ false
turned k u other = elim (bytes_eq k u) as (λ b. bytes_eq k u ≡ b → b ≡ false) [
  | true ↦ λ same. absurd (true≢false (sym (ap (bytes_eq u) (same_id k u same) ∙ own_id u) ∙ other))
  | false ↦ λ _. refl
] refl

apart : (ids : List Id) (u : Id) → has ids u ≡ false → AllByRecursion (λ k. bytes_eq k u ≡ false) ids
apart [] u none = tt
apart (k ∷ ks) u none =
    elim (bytes_eq u k) as (λ b. bytes_eq u k ≡ b → (b || has ks u) ≡ false → AllByRecursion (λ j. bytes_eq j u ≡ false) (k ∷ ks)) [
      | true ↦ λ _ wrong. absurd (true≢false wrong)
      | false ↦ λ other more. (turned k u other, apart ks u more)
    ] refl none

all-last : (P : Id → Type 0) (ids : List Id) (u : Id) → AllByRecursion P ids → P u → AllByRecursion P (ids ++ u ∷ [])
all-last P [] u all one = (one, tt)
all-last P (k ∷ ks) u all one = (all.0, all-last P ks u all.1 one)

distinct-last : (ids : List Id) (u : Id) → IsDistinct bytes_eq ids → AllByRecursion (λ k. bytes_eq k u ≡ false) ids → IsDistinct bytes_eq (ids ++ u ∷ [])
unfolding IsDistinct
distinct-last [] u once other = (tt, tt)
distinct-last (k ∷ ks) u once other = (all-last (λ y. bytes_eq k y ≡ false) ks u once.0 other.0, distinct-last ks u once.1 other.1)

mention-once : (ms : Mentions) (d : Text × Id) → IsDistinct bytes_eq (keys_of ms) → IsDistinct bytes_eq (keys_of (mention ms d))
mention-once ms d once =
    elim (is_mentioned ms d.1) as (λ b. is_mentioned ms d.1 ≡ b → IsDistinct bytes_eq (keys_of (cond b ms (ms ++ (d.1, d.0) ∷ [])))) [
      | true ↦ λ _. once
      | false ↦ λ absent. subst (IsDistinct bytes_eq) (sym (map-append (λ e. e.0) ms ((d.1, d.0) ∷ [])))
          (distinct-last (keys_of ms) d.1 once (apart (keys_of ms) d.1 (sym (mentioned-has ms d.1) ∙ absent)))
    ] refl

mentions-once : (list : List (Text × Id)) (ms : Mentions) → IsDistinct bytes_eq (keys_of ms) → IsDistinct bytes_eq (keys_of (mention_all ms list))
mentions-once [] ms once = once
mentions-once (d ∷ list) ms once = mentions-once list (mention ms d) (mention-once ms d once)

pub firsts_are_once : FirstsAreOnce
unfolding IsDistinct
firsts_are_once list = mentions-once list [] tt

-- ---- each has the name of its first mention

lookup-append : (xs ys : Mentions) (u : Id) → lookup (bytes_eq u) (xs ++ ys) ≡ option_or (lookup (bytes_eq u) xs) (lookup (bytes_eq u) ys)
lookup-append [] ys u = refl
lookup-append (x ∷ xs) ys u =
    elim (bytes_eq u x.0) as (λ b. cond b (Some x.1) (lookup (bytes_eq u) (xs ++ ys)) ≡ option_or (cond b (Some x.1) (lookup (bytes_eq u) xs)) (lookup (bytes_eq u) ys)) [
      | true ↦ refl
      | false ↦ lookup-append xs ys u
    ]

or_before : (o p q : Option Text) → is_some o ≡ true → option_or o p ≡ option_or o q
or_before None p q some = absurd (true≢false (sym some))
or_before (Some x) p q some = refl

or_assoc_options : (o p q : Option Text) → option_or (option_or o p) q ≡ option_or o (option_or p q)
or_assoc_options None p q = refl
or_assoc_options (Some x) p q = refl

last_or : (d : Text × Id) (list : List (Text × Id)) (u : Id) → option_or (lookup (bytes_eq u) ((d.1, d.0) ∷ [])) (named_in list u) ≡ named_in (d ∷ list) u
last_or d list u =
    elim (bytes_eq u d.1) as (λ b. option_or (cond b (Some d.0) None) (named_in list u) ≡ option_map (λ e. e.0) (cond b (Some d) (find (λ e. bytes_eq u e.1) list))) [ true ↦ refl | false ↦ refl ]

or_none : (o : Option Text) → option_or o None ≡ o
or_none None = refl
or_none (Some x) = refl

-- one more mention, before others
named-one : (ms : Mentions) (d : Text × Id) (list : List (Text × Id)) (u : Id) → option_or (lookup (bytes_eq u) (mention ms d)) (named_in list u) ≡ option_or (lookup (bytes_eq u) ms) (named_in (d ∷ list) u)
named-one ms d list u =
    elim (is_mentioned ms d.1) as (λ m. is_mentioned ms d.1 ≡ m
    → option_or (lookup (bytes_eq u) (cond m ms (ms ++ (d.1, d.0) ∷ []))) (named_in list u) ≡ option_or (lookup (bytes_eq u) ms) (named_in (d ∷ list) u)) [
      | true ↦ λ there. elim (bytes_eq u d.1) as (λ b. bytes_eq u d.1 ≡ b
          → option_or (lookup (bytes_eq u) ms) (named_in list u) ≡ option_or (lookup (bytes_eq u) ms) (option_map (λ e. e.0) (cond b (Some d) (find (λ e. bytes_eq u e.1) list)))) [
            | true ↦ λ same. or_before (lookup (bytes_eq u) ms) (named_in list u) (Some d.0) (ap (is_mentioned ms) (same_id u d.1 same) ∙ there)
            | false ↦ λ _. refl
          ] refl
      | false ↦ λ _. ap (λ o. option_or o (named_in list u)) (lookup-append ms ((d.1, d.0) ∷ []) u)
          ∙ or_assoc_options (lookup (bytes_eq u) ms) (lookup (bytes_eq u) ((d.1, d.0) ∷ [])) (named_in list u)
          ∙ ap (option_or (lookup (bytes_eq u) ms)) (last_or d list u)
    ] refl

mentions-named : (list : List (Text × Id)) (ms : Mentions) (u : Id) → lookup (bytes_eq u) (mention_all ms list) ≡ option_or (lookup (bytes_eq u) ms) (named_in list u)
mentions-named [] ms u = sym (or_none (lookup (bytes_eq u) ms))
mentions-named (d ∷ list) ms u = mentions-named list (mention ms d) u ∙ named-one ms d list u

pub firsts_are_named : FirstsAreNamed
firsts_are_named list u = mentions-named list [] u
