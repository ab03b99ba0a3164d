-- What holds of the packages that were read: they stand in the order of first mention, each is what its source says, and each
-- is in every set that has the first ones and what offers depend on.
use Rattle.std.proofs.Common.{◌≡◌, ℕ, zero, suc, ◌+◌, ◌<◌, ◌≤◌, Bool, true, false, ◌||◌, List, [], ◌∷◌, ◌++◌, append-nil, append_assoc, map, fold, length, take, Option, Some, None, is_some, bytes_eq, option_map, Result, Ok, Err, ◌⊎◌, inl, inr, refl, sym, ap, ◌∙◌, subst, arith, true≢false}
use Rattle.std.specs.Prelude.{slice_get}
use Rattle.std.specs.List.{list_any, flat_map, AllByRecursion}
use Rattle.std.specs.Map.{keys_of}
use Rattle.std.proofs.lemmas.Grind.{flat_map-append}
use Rattle.std.proofs.lemmas.List.{length-append}
use Rattle.std.proofs.lemmas.List.Sums.{fold-append}
use Rattle.std.proofs.lemmas.Option.{none-some, same_Some}
use Rattle.pkg_world.specs.Each.{then_ok}
use Rattle.registry_tables.specs.Answers.{Read}
use Rattle.offer_terms.specs.Offered.{Text, Id, Offering, Offers}
use Rattle.offer_terms.specs.Booked.{Packed, ids_of}
use Rattle.offer_book.specs.AllOffers.{Found, offers_found}
use Rattle.offer_book.specs.Numbers.{Mentions, Reached, mention, mention_all, firsts, deps_offered, packed_as, with_package, read_next, step, walk}
use Rattle.offer_book.specs.Made.{reaching, AreFirst}
use Rattle.offer_book.proofs.MentionLemmas.{has, lists, own_id, or_right, or_cases, mentions-have}
use Rattle.offer_book.proofs.StepLemmas.{same_ok, not_ok, packed-id, one-more, first-more, walk-still, id-at}

abbrev pub offers_by : (Id → Read (Option Found)) → Offers
offers_by read u = offers_found (read u)

-- what books lead to
abbrev pub deps_in : List Packed → List (Text × Id)
deps_in book = flat_map (λ it. deps_offered it.offers) book

-- a package is what its source says
pub record IsReadBy (read : Id → Read (Option Found)) (it : Packed) : Type 0 where
  pub name : Text
  pub found : Option Found
  pub answer : read it.uuid ≡ Ok found
  pub is : it ≡ packed_as (it.uuid, name) found

-- the set has what the list has, and with a package all that its offers depend on
pub record IsClosedBy (o : Offers) (base : List (Text × Id)) (set : Id → Bool) : Type 0 where
  pub first : (u : Id) → lists base u ≡ true → set u ≡ true
  pub needs : (u v : Id) → set u ≡ true → lists (deps_offered (o u)) v ≡ true → set v ≡ true

pub record IsWalked (read : Id → Read (Option Found)) (base : List (Text × Id)) (r : Reached) : Type 0 where
  pub order : r.mentions ≡ firsts (base ++ deps_in r.book)
  pub front : AreFirst r.book r.mentions
  pub each : AllByRecursion (IsReadBy read) r.book
  pub reached : (set : Id → Bool) → IsClosedBy (offers_by read) base set → (u : Id) → has (keys_of r.mentions) u ≡ true → set u ≡ true

-- ---- one step

-- the package that a step reads
pub record IsNext (read : Id → Read (Option Found)) (r next : Reached) : Type 0 where
  pub m : Id × Text
  pub found : Option Found
  pub there : slice_get r.mentions (length r.book) ≡ Some m
  pub answer : read m.0 ≡ Ok found
  pub is : with_package r (packed_as m found) ≡ next

next-read : (read : Id → Read (Option Found)) (r next : Reached) (m : Id × Text) (answer : Read (Option Found)) → slice_get r.mentions (length r.book) ≡ Some m → read m.0 ≡ answer
    → then_ok answer (λ found. Ok (with_package r (packed_as m found))) ≡ Ok next → IsNext read r next
next-read read r next m (Ok found) there answer is = record { m = m; found = found; there = there; answer = answer; is = same_ok _ _ is }
next-read read r next m (Err refused) there answer is = absurd (not_ok refused next is)

step-cases : (read : Id → Read (Option Found)) (r next : Reached) (at : Option (Id × Text)) → slice_get r.mentions (length r.book) ≡ at → read_next read r at ≡ Ok next
    → ((slice_get r.mentions (length r.book) ≡ None) × (r ≡ next)) ⊎ IsNext read r next
step-cases read r next None none is = inl (none, same_ok r next is)
step-cases read r next (Some m) there is = inr (next-read read r next m (read m.0) there refl is)

pub step-is : (read : Id → Read (Option Found)) (r next : Reached) → step read r ≡ Ok next → ((slice_get r.mentions (length r.book) ≡ None) × (r ≡ next)) ⊎ IsNext read r next
step-is read r next is = step-cases read r next (slice_get r.mentions (length r.book)) refl is

-- ---- what holds goes on

all-last : {X : Type 0} (P : X → Type 0) (xs : List X) (x : X) → AllByRecursion P xs → P x → AllByRecursion P (xs ++ x ∷ [])
all-last P [] x all one = (one, tt)
all-last P (y ∷ ys) x all one = (all.0, all-last P ys x all.1 one)

has-at : (ids : List Id) (n : ℕ) (u : Id) → slice_get ids n ≡ Some u → has ids u ≡ true
has-at [] n u there = absurd (none-some u there)
has-at (k ∷ ks) zero u there = ap (λ j. bytes_eq u j || has ks u) (same_Some k u there) ∙ ap (λ b. b || has ks u) (own_id u)
has-at (k ∷ ks) (suc n) u there = or_right (bytes_eq u k) (has ks u) (has-at ks n u there)

pub offers-packed : (m : Id × Text) (found : Option Found) → (packed_as m found).offers ≡ offers_found (Ok found)
offers-packed m None = refl
offers-packed m (Some it) = refl

order-more : (base : List (Text × Id)) (book : List Packed) (ms : Mentions) (it : Packed) → ms ≡ firsts (base ++ deps_in book)
    → mention_all ms (deps_offered it.offers) ≡ firsts (base ++ deps_in (book ++ it ∷ []))
order-more base book ms it order =
    ap (λ t. mention_all t (deps_offered it.offers)) order
    ∙ sym (fold-append mention [] (base ++ deps_in book) (deps_offered it.offers))
    ∙ ap firsts (append_assoc base (deps_in book) (deps_offered it.offers))
    ∙ ap (λ t. firsts (base ++ (deps_in book ++ t))) (sym (append-nil (deps_offered it.offers)))
    ∙ ap (λ t. firsts (base ++ t)) (sym (flat_map-append (λ one. deps_offered one.offers) book (it ∷ [])))

read-by : (read : Id → Read (Option Found)) (m : Id × Text) (found : Option Found) → read m.0 ≡ Ok found → IsReadBy read (packed_as m found)
read-by read m found answer = record {
  name = m.1;
  found = found;
  answer = ap read (packed-id m found) ∙ answer;
  is = ap (λ u. packed_as (u, m.1) found) (sym (packed-id m found));
}

walked-more : (read : Id → Read (Option Found)) (base : List (Text × Id)) (r : Reached) (m : Id × Text) (found : Option Found) → slice_get r.mentions (length r.book) ≡ Some m → read m.0 ≡ Ok found
    → IsWalked read base r → IsWalked read base (with_package r (packed_as m found))
walked-more read base r m found there answer walked =
    let it = packed_as m found in record {
      order = order-more base r.book r.mentions it walked.order;
      front = first-more r.book (r.book ++ it ∷ []) r.mentions (mention_all r.mentions (deps_offered it.offers)) (deps_offered it.offers) (length r.book) m refl walked.front there
          (one-more r.book (r.book ++ it ∷ []) m found refl) refl;
      each = all-last (IsReadBy read) r.book it walked.each (read-by read m found answer);
      reached = λ set closed u mentioned. elim (or_cases (has (keys_of r.mentions) u) (lists (deps_offered it.offers) u) (sym (mentions-have (deps_offered it.offers) r.mentions u) ∙ mentioned)) [
        | inl before ↦ walked.reached set closed u before
        | inr now ↦
            let here : set m.0 ≡ true = walked.reached set closed m.0 (has-at (keys_of r.mentions) (length r.book) m.0 (id-at r.mentions (length r.book) m there)) in
            let said : it.offers ≡ offers_by read m.0 = offers-packed m found ∙ ap offers_found (sym answer) in
            closed.needs m.0 u here (ap (λ offers. lists (deps_offered offers) u) (sym said) ∙ now)
      ];
    }

walked-step : (read : Id → Read (Option Found)) (base : List (Text × Id)) (r next : Reached) → step read r ≡ Ok next → IsWalked read base r → IsWalked read base next
walked-step read base r next is walked =
    elim (step-is read r next is) [
      | inl still ↦ subst (IsWalked read base) still.1 walked
      | inr one ↦ subst (IsWalked read base) one.is (walked-more read base r one.m one.found one.there one.answer walked)
    ]

-- ---- several steps

-- the step that begins several, and the rest
record Goes (read : Id → Read (Option Found)) (n : ℕ) (r last : Reached) : Type 0 where
  pub next : Reached
  pub first : step read r ≡ Ok next
  pub rest : walk read n next ≡ Ok last

goes-on : (read : Id → Read (Option Found)) (n : ℕ) (r last : Reached) (answer : Read Reached) → step read r ≡ answer → then_ok answer (walk read n) ≡ Ok last → Goes read n r last
goes-on read n r last (Ok next) first rest = record { next = next; first = first; rest = rest }
goes-on read n r last (Err refused) first rest = absurd (not_ok refused last rest)

pub walked-walk : (read : Id → Read (Option Found)) (base : List (Text × Id)) (n : ℕ) (r last : Reached) → walk read n r ≡ Ok last → IsWalked read base r → IsWalked read base last
walked-walk read base zero r last is walked = subst (IsWalked read base) (same_ok r last is) walked
walked-walk read base (suc n) r last is walked =
    let goes = goes-on read n r last (step read r) refl is in
    walked-walk read base n goes.next last goes.rest (walked-step read base r goes.next goes.first walked)

pub walked-begun : (read : Id → Read (Option Found)) (base : List (Text × Id)) → IsWalked read base (reaching (firsts base) [])
walked-begun read base = record {
  order = ap firsts (sym (append-nil base));
  front = refl;
  each = tt;
  reached = λ set closed u mentioned. closed.first u (sym (mentions-have base [] u) ∙ mentioned);
}

-- all that were mentioned are read, or as many as there are steps
pub walk-ends : (read : Id → Read (Option Found)) (n : ℕ) (r last : Reached) → walk read n r ≡ Ok last → (slice_get last.mentions (length last.book) ≡ None) ⊎ (length last.book ≡ length r.book + n)
walk-ends read zero r last is = inr (let same : length r.book ≡ length last.book = ap (λ (t : Reached). length t.book) (same_ok r last is) in omega (arith, same))
walk-ends read (suc n) r last is =
    let goes = goes-on read n r last (step read r) refl is in
    elim (step-is read r goes.next goes.first) [
      | inl still ↦
          let same : last ≡ r = same_ok last r (sym goes.rest ∙ ap (walk read n) (sym still.1) ∙ walk-still read n r.mentions r.book still.0) in
          inl (ap (λ (t : Reached). slice_get t.mentions (length t.book)) same ∙ still.0)
      | inr one ↦ elim (walk-ends read n goes.next last goes.rest) [
        | inl all ↦ inl all
        | inr some ↦
            let counted : length goes.next.book ≡ length (r.book ++ packed_as one.m one.found ∷ []) = ap (λ (t : Reached). length t.book) (sym one.is) in
            inr (omega (arith, some, counted, length-append r.book (packed_as one.m one.found ∷ [])))
      ]
    ]
