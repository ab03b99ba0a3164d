-- One package more: it has no number before, it comes behind the others, and the book is then what was read.
use Rattle.std.proofs.Common.{◌≡◌, ℕ, zero, suc, ◌+◌, ◌-◌, ◌<◌, ◌≤◌, Bool, true, false, cond, ◌||◌, List, [], ◌∷◌, ◌++◌, map, length, take, get_or, Option, Some, None, is_some, IfSome, bytes_eq, option_map, Result, Ok, Err, IfErr, OnOk, MatchResult, refl, sym, ap, ◌∙◌, subst, arith, true≢false}
use Rattle.std.specs.Prelude.{find, position, slice_get, slice_set}
use Rattle.std.specs.List.{list_any, AllByRecursion, IsDistinct}
use Rattle.std.specs.Map.{keys_of}
use Rattle.std.proofs.Math.ListN.{get_or-map}
use Rattle.std.proofs.Math.Seq.{take-suc}
use Rattle.std.proofs.lemmas.List.{length-map, length-append, map-append}
use Rattle.std.proofs.lemmas.Option.{none-some, same_Some, slice_get-map, slice_get-get_or, slice_get_within, get_or_from_slice_get}
use Rattle.pkg_world.specs.Each.{then_ok}
use Rattle.registry_tables.specs.Answers.{Read}
use Rattle.offer_terms.specs.Offered.{Text, Id, Offering}
use Rattle.offer_terms.specs.Booked.{Packed, unread, package_at, ids_of, is_for, number_of, with_offers, entered, filled}
use Rattle.offer_terms.proofs.Books.{none_from}
use Rattle.offer_terms.proofs.Finds.{position_within, find_there, find_nowhere}
use Rattle.offer_book.specs.AllOffers.{Found}
use Rattle.offer_book.specs.Numbers.{Mentions, Reached, mention_all, deps_offered, packed_as, with_package, read_next, step, walk}
use Rattle.offer_book.specs.Made.{reaching, AreFirst, HasOneMore}
use Rattle.offer_book.proofs.MentionLemmas.{has, turned, front-stays}

pub same_ok : {T E : Type 0} (x y : T) → ◌≡◌ {A = Result T E} (Ok x) (Ok y) → x ≡ y
same_ok x y same = cc

pub not_ok : {T E : Type 0} (x : E) (y : T) → ◌≡◌ {A = Result T E} (Err x) (Ok y) → ⊥
not_ok x y wrong = cc

-- ---- whether a package has a number

pub some-find : {X : Type 0} (p : X → Bool) (xs : List X) → is_some (find p xs) ≡ list_any p xs
some-find p [] = refl
some-find p (x ∷ xs) = elim (p x) as (λ b. is_some (cond b (Some x) (find p xs)) ≡ (b || list_any p xs)) [ true ↦ refl | false ↦ some-find p xs ]

pub some-within : {X : Type 0} (xs : List X) (i : ℕ) → i < length xs → is_some (slice_get xs i) ≡ true
some-within [] i within = absurd (omega (arith, within))
some-within (x ∷ xs) i within = ap is_some (slice_get-get_or (x ∷ xs) i x within)

some-position : {X : Type 0} (p : X → Bool) (xs : List X) → is_some (position p xs) ≡ is_some (find p xs)
some-position {X} p xs =
    elim (position p xs) as (λ o. o ≡ position p xs → is_some o ≡ is_some (find p xs)) [
      | None ↦ λ e. sym (ap is_some (find_nowhere p xs e))
      | Some i ↦ λ e. sym (ap is_some (find_there p xs i e) ∙ some-within xs i (position_within p xs i e))
    ] refl

pub any-for : (book : List Packed) (u : Id) → list_any (is_for u) book ≡ has (ids_of book) u
any-for [] u = refl
any-for (it ∷ more) u = ap (λ b. bytes_eq u it.uuid || b) (any-for more u)

pub number-has : (book : List Packed) (u : Id) → is_some (number_of book u) ≡ has (ids_of book) u
number-has book u = some-position (is_for u) book ∙ some-find (is_for u) book ∙ any-for book u

-- ---- the next package has no number yet

all-at : {X : Type 0} (P : X → Type 0) (xs : List X) (n : ℕ) (x : X) → AllByRecursion P xs → slice_get xs n ≡ Some x → P x
all-at P [] n x all there = absurd (none-some x there)
all-at P (y ∷ ys) zero x all there = subst P (same_Some y x there) all.0
all-at P (y ∷ ys) (suc n) x all there = all-at P ys n x all.1 there

before-fresh : (ids : List Id) (n : ℕ) (u : Id) → IsDistinct bytes_eq ids → slice_get ids n ≡ Some u → has (take n ids) u ≡ false
unfolding IsDistinct
before-fresh [] n u once there = absurd (none-some u there)
before-fresh (k ∷ ks) zero u once there = refl
before-fresh (k ∷ ks) (suc n) u once there =
    let other : bytes_eq u k ≡ false = turned u k (all-at (λ y. bytes_eq k y ≡ false) ks n u once.0 there) in
    ap (λ b. b || has (take n ks) u) other ∙ before-fresh ks n u once.1 there

pub id-at : (ms : Mentions) (n : ℕ) (m : Id × Text) → slice_get ms n ≡ Some m → slice_get (keys_of ms) n ≡ Some m.0
id-at ms n m there = slice_get-map (λ e. e.0) ms n ∙ ap (option_map (λ e. e.0)) there

pub next-absent : (book : List Packed) (ms : Mentions) (n : ℕ) (m : Id × Text) → IsDistinct bytes_eq (keys_of ms) → AreFirst book ms → length book ≡ n → slice_get ms n ≡ Some m → number_of book m.0 ≡ None
next-absent book ms n m once front count there =
    let fresh : has (ids_of book) m.0 ≡ false = ap (λ ids. has ids m.0) front ∙ ap (λ k. has (take k (keys_of ms)) m.0) count ∙ before-fresh (keys_of ms) n m.0 once (id-at ms n m there) in
    none_from (number_of book m.0) (number-has book m.0 ∙ fresh)

-- ---- one more stands behind the others

pub entered-new : (book : List Packed) (u : Id) (name : Text) → number_of book u ≡ None → entered book u name ≡ book ++ unread u name ∷ []
entered-new book u name absent = ap (λ o. cond (is_some o) book (book ++ unread u name ∷ [])) absent

last-set : (book : List Packed) (x y : Packed) (p : ℕ) → p ≡ length book → slice_set (book ++ x ∷ []) p y ≡ book ++ y ∷ []
last-set [] x y zero h = refl
last-set [] x y (suc p) h = absurd (omega (arith, h))
last-set (z ∷ zs) x y zero h = absurd (omega (arith, h))
last-set (z ∷ zs) x y (suc p) h = ap (λ t. z ∷ t) (last-set zs x y p (omega (arith, h)))

pub last-at : (book : List Packed) (x : Packed) (p : ℕ) → p ≡ length book → package_at (book ++ x ∷ []) p ≡ x
last-at [] x zero h = refl
last-at [] x (suc p) h = absurd (omega (arith, h))
last-at (z ∷ zs) x zero h = absurd (omega (arith, h))
last-at (z ∷ zs) x (suc p) h = last-at zs x p (omega (arith, h))

pub filled-last : (book : List Packed) (u : Id) (name : Text) (offers : List Offering) (p : ℕ) → p ≡ length book
    → filled (book ++ unread u name ∷ []) p offers ≡ book ++ packed_as (u, name) (Some (record { name = name; offers = offers })) ∷ []
filled-last book u name offers p h =
    ap (λ it. slice_set (book ++ unread u name ∷ []) p (with_offers it offers)) (last-at book (unread u name) p h)
    ∙ last-set book (unread u name) (with_offers (unread u name) offers) p h

pub ok-as : {E : Type 0} {X : Type 0} (answer : Result (Unit {0}) E) (x a b : X) → a ≡ b → OnOk answer (x ≡ a) → OnOk answer (x ≡ b)
ok-as (Ok done) x a b same h = h ∙ same
ok-as (Err none) x a b same h = tt

pub packed-id : (m : Id × Text) (found : Option Found) → (packed_as m found).uuid ≡ m.0
packed-id m None = refl
packed-id m (Some it) = refl

-- the book has the identifier behind the others'
pub one-more : (book new : List Packed) (m : Id × Text) (found : Option Found) → new ≡ book ++ packed_as m found ∷ [] → HasOneMore m.0 book new
one-more book new m found is = ap ids_of is ∙ map-append (λ it. it.uuid) book (packed_as m found ∷ []) ∙ ap (λ u. ids_of book ++ u ∷ []) (packed-id m found)

pub one-more-ok : {E : Type 0} (answer : Result (Unit {0}) E) (book new : List Packed) (m : Id × Text) (found : Option Found) → OnOk answer (new ≡ book ++ packed_as m found ∷ []) → OnOk answer (HasOneMore m.0 book new)
one-more-ok (Ok done) book new m found is = one-more book new m found is
one-more-ok (Err none) book new m found is = tt

-- ---- the packages that were read are still those that were mentioned first

pub count-more : (book new : List Packed) (u : Id) (n : ℕ) → length book ≡ n → HasOneMore u book new → length new ≡ n + 1
count-more book new u n count more =
    omega (arith, count, ap length more, length-map new (λ (it : Packed). it.uuid), length-map book (λ (it : Packed). it.uuid), length-append (ids_of book) (u ∷ []))

pub first-more : (book new : List Packed) (ms more : Mentions) (list : List (Text × Id)) (n : ℕ) (m : Id × Text)
    → length book ≡ n → AreFirst book ms → slice_get ms n ≡ Some m → HasOneMore m.0 book new → more ≡ mention_all ms list → AreFirst new more
first-more book new ms more list n m count front there one mentioned =
    let within : n < length ms = slice_get_within ms n m there in
    let inside : n < length (keys_of ms) = omega (arith, within, length-map ms (λ e. e.0)) in
    let enough : suc n ≤ length ms = omega (arith, within) in
    let counted : suc n ≡ length new = omega (arith, count-more book new m.0 n count one) in
    let last : get_or (keys_of ms) n m.0 ≡ m.0 = get_or_from_slice_get (keys_of ms) n m.0 m.0 (id-at ms n m there) in
    one ∙ (λ i. (front ∙ ap (λ k. take k (keys_of ms)) count) i ++ sym last i ∷ []) ∙ sym (take-suc (keys_of ms) n m.0 inside)
    ∙ sym (front-stays ms list (suc n) enough) ∙ ap (λ es. take (suc n) (keys_of es)) (sym mentioned) ∙ ap (λ k. take k (keys_of more)) counted

-- ---- what was read

-- there is no next package
pub step-none : (read : Id → Read (Option Found)) (ms : Mentions) (book : List Packed) (n : ℕ) → length book ≡ n → slice_get ms n ≡ None → step read (reaching ms book) ≡ Ok (reaching ms book)
step-none read ms book n count none = ap (read_next read (reaching ms book)) (ap (slice_get ms) count ∙ none)

with-next : (read : Id → Read (Option Found)) (answer : Read (Option Found)) (m : Id × Text) (ms new : Mentions) (book more : List Packed) (p : ℕ) → p ≡ length book
    → then_ok answer (λ found. Ok (book ++ packed_as m found ∷ [])) ≡ Ok more → new ≡ mention_all ms (deps_offered (package_at more p).offers)
    → then_ok answer (λ found. Ok (with_package (reaching ms book) (packed_as m found))) ≡ Ok (reaching new more)
with-next read (Ok found) m ms new book more p at packed mentioned =
    let same = same_ok (book ++ packed_as m found ∷ []) more packed in
    let last : package_at more p ≡ packed_as m found = ap (λ b. package_at b p) (sym same) ∙ last-at book (packed_as m found) p at in
    let said : new ≡ mention_all ms (deps_offered (packed_as m found).offers) = mentioned ∙ ap (λ it. mention_all ms (deps_offered it.offers)) last in
    ap Ok (λ i. reaching (sym said i) (same i))
with-next read (Err refused) m ms new book more p at packed mentioned = absurd (not_ok refused more packed)

-- the next package was read, and what it leads to mentioned
pub step-some : (read : Id → Read (Option Found)) (m : Id × Text) (ms new : Mentions) (book more : List Packed) (n : ℕ) → length book ≡ n → slice_get ms n ≡ Some m
    → then_ok (read m.0) (λ found. Ok (book ++ packed_as m found ∷ [])) ≡ Ok more → new ≡ mention_all ms (deps_offered (package_at more n).offers)
    → step read (reaching ms book) ≡ Ok (reaching new more)
step-some read m ms new book more n count there packed mentioned =
    ap (read_next read (reaching ms book)) (ap (slice_get ms) count ∙ there) ∙ with-next read (read m.0) m ms new book more n (sym count) packed mentioned

-- ---- several steps

-- where there is no next package, nothing more is read
pub walk-still : (read : Id → Read (Option Found)) (n : ℕ) (ms : Mentions) (book : List Packed) → slice_get ms (length book) ≡ None → walk read n (reaching ms book) ≡ Ok (reaching ms book)
walk-still read zero ms book none = refl
walk-still read (suc n) ms book none =
    ap (λ r. then_ok r (walk read n)) (step-none read ms book (length book) refl none) ∙ walk-still read n ms book none

-- a step, and then the rest
pub walk-step : (read : Id → Read (Option Found)) (left less : ℕ) (r next : Reached) → left ≡ suc less → step read r ≡ Ok next → walk read left r ≡ walk read less next
walk-step read left less r next one read_so =
    ap (λ n. walk read n r) one ∙ ap (λ answer. then_ok answer (walk read less)) read_so
