-- Shutting what isn't allowed.
use Rattle.std.proofs.Common.{◌≡◌, ◌≢◌, ℕ, ◌+◌, ◌<◌, ◌≤◌, ◌^◌, Bool, true, false, true≢false, ◌&&◌, ◌⊎◌, List, [], length, map, get_or, set, slice_get, Option, Some, None, Contains, bytes_eq, option_map, length-set, refl, sym, ◌∙◌, ap, subst, inl, inr, arith}
use Rattle.std.specs.List.{IsDistinct}
use Rattle.std.proofs.lemmas.Bool.{cases_lt, cases_eq, and_parts, and_from}
use Rattle.std.proofs.lemmas.List.{get_or-set_same, get_or-set_other, get_or_past, length-map, get_or-map}
use Rattle.std.proofs.lemmas.List.Elements.{Contains-append_left, Contains-append_right}
use Rattle.std.proofs.lemmas.Option.{none-some, same_Some, slice_get-map, slice_get_read, slice_get-get_or, slice_get_within, get_or_from_slice_get}
use Rattle.jl_versions.specs.Triple.{triple_of}
use Rattle.jl_versions.specs.declared.version.Version.{Version}
use Rattle.compat_spec.specs.declared.part.Part.{Part}
use Rattle.compat_spec.specs.declared.allowed.Allowed.{Allowed}
use Rattle.compat_spec.specs.declared.allowed.Allowed.TheVariants as kinds
use Rattle.compat_spec.specs.Admitted.{allowed_holds}
use Rattle.bit_rows.specs.Rows.{row_at, truth_at}
use Rattle.offer_terms.specs.Offered.{Id, Allows, allows, allows_holds, Offering, offering, Selected, taken}
use Rattle.offer_terms.specs.Booked.{Packed, package_at, ids_of, book_offers}
use Rattle.offer_terms.specs.Demanded.{Wanted}
use Rattle.offer_terms.specs.declared.offer.Offer.{Offer}
use Rattle.selection_check.specs.Order.{rank}
use Rattle.compat_spec.specs.Meaning.{specifier_holds}
use Rattle.selection_check.specs.Found.{compat_in}
use Rattle.selection_check.specs.Scratch.{IsTableFor}
use Rattle.selection_check.specs.Opening.{is_open, HasSamePlaces, NarrowsRow, Allowing, Narrows, AllowsOf, IsFree, IsWithin, AllowsOther, IsWithinOffer, IsWithinFirst, IsAllowedByAll, AreOpen}
use Rattle.selection_check.proofs.Ranks.{id_at_rank, rank_of_number}
use Rattle.selection_check.proofs.Clauses.{contains_append}

-- ---- places

pub places_same : (table : List (List Bool)) → HasSamePlaces table table
places_same table = record { rows = refl; wide = λ p. refl }

pub places_on : (a b c : List (List Bool)) → HasSamePlaces a b → HasSamePlaces b c → HasSamePlaces a c
places_on a b c f g = record { rows = g.rows ∙ f.rows; wide = λ p. g.wide p ∙ f.wide p }

pub table_kept : (book : List Packed) (old new : List (List Bool)) → HasSamePlaces old new → IsTableFor book old → IsTableFor book new
table_kept book old new same made = record {
  rows = same.rows ∙ made.rows;
  wide = λ p inside few. subst (λ n. length (package_at book p).offers ≤ n) (sym (same.wide p)) (made.wide p inside few);
}

-- ---- one place

and_false : (b : Bool) → (b && false) ≡ false
and_false true = refl
and_false false = refl

and_true : (b : Bool) → (b && true) ≡ b
and_true true = refl
and_true false = refl

row_set : (table : List (List Bool)) (p : ℕ) (row : List Bool) (q : ℕ) → p < length table → ((q ≡ p) × (row_at (set table p row) q ≡ row)) ⊎ ((q ≢ p) × (row_at (set table p row) q ≡ row_at table q))
row_set table p row q inside = elim (cases_eq q p) [
  | inl same ↦ inl (same, ap (row_at (set table p row)) same ∙ get_or-set_same table p row [] inside)
  | inr ne ↦ inr (ne, get_or-set_other table p q row [] ne)
]

module _ (table new : List (List Bool)) (p j : ℕ) (inside : p < length table) (e : new ≡ set table p (set (row_at table p) j false)) where
  pub cleared_places : HasSamePlaces table new
  cleared_places = record {
    rows = ap length e ∙ length-set table p (set (row_at table p) j false);
    wide = λ q. ap (λ t. length (row_at t q)) e ∙ elim (row_set table p (set (row_at table p) j false) q inside) [
      | inl here ↦ ap length here.1 ∙ length-set (row_at table p) j false ∙ ap (λ k. length (row_at table k)) (sym here.0)
      | inr other ↦ ap length other.1
    ];
  }

  pub cleared_here : j < length (row_at table p) → is_open new p j ≡ false
  cleared_here wide = ap (λ t. is_open t p j) e ∙ ap (λ row. truth_at row j) (get_or-set_same table p (set (row_at table p) j false) [] inside) ∙ get_or-set_same (row_at table p) j false false wide

  pub cleared_others : (q i : ℕ) → (q ≡ p → i ≡ j → ⊥) → is_open new q i ≡ is_open table q i
  cleared_others q i ne = ap (λ t. is_open t q i) e ∙ elim (row_set table p (set (row_at table p) j false) q inside) [
    | inl here ↦ ap (λ row. truth_at row i) here.1 ∙ get_or-set_other (row_at table p) j i false false (ne here.0) ∙ ap (λ k. is_open table k i) (sym here.0)
    | inr other ↦ ap (λ row. truth_at row i) other.1
  ]

-- ---- a row

pub row_none : (offers : List Offer) (table : List (List Bool)) (p : ℕ) (test : List ℕ → Bool) → NarrowsRow offers table table p 0 test
row_none offers table p test = record {
  places = places_same table;
  here = λ j x below. absurd (omega (arith, below));
  after = λ j past. refl;
  others = λ q j ne. refl;
}

pub row_more : (offers : List Offer) (old table new : List (List Bool)) (p count : ℕ) (test : List ℕ → Bool) (y : Offer) (keeps : Bool) → NarrowsRow offers old table p count test →
    slice_get offers count ≡ Some y → keeps ≡ test (triple_of y.version) → HasSamePlaces table new → is_open new p count ≡ (is_open table p count && keeps) →
    ((q i : ℕ) → (q ≡ p → i ≡ count → ⊥) → is_open new q i ≡ is_open table q i) → NarrowsRow offers old new p (count + 1) test
row_more offers old table new p count test y keeps f there kept places here others = record {
  places = places_on old table new f.places places;
  here = λ j x below at. elim (cases_eq j count) [
    | inl same ↦
        let is : y ≡ x = same_Some y x (sym there ∙ ap (slice_get offers) (sym same) ∙ at) in
        ap (is_open new p) same ∙ here ∙ (λ i. f.after count (omega arith) i && kept i) ∙ (λ i. is_open old p (sym same i) && test (triple_of (is i).version))
    | inr ne ↦ others p j (λ _ same. ne same) ∙ f.here j x (omega (arith, below, ne)) at
  ];
  after = λ j past. others p j (λ _ same. absurd (omega (arith, past, same))) ∙ f.after j (omega (arith, past));
  others = λ q j ne. others q j (λ same _. ne same) ∙ f.others q j ne;
}

-- ---- a book

pub narrows_none : (book : List Packed) (table : List (List Bool)) (A : Allowing) → ((u : Id) (v : Version) → A u v) → Narrows book table table A
narrows_none book table A all = record {
  places = places_same table;
  sound = λ p j x inside there is. (is, all (package_at book p).uuid x.version);
  whole = λ p j x inside there is allowed. is;
}

pub narrows_on : (book : List Packed) (a b c : List (List Bool)) (A B C : Allowing) → Narrows book a b A → Narrows book b c B →
    ((u : Id) (v : Version) → A u v → B u v → C u v) → ((u : Id) (v : Version) → C u v → A u v) → ((u : Id) (v : Version) → C u v → B u v) → Narrows book a c C
narrows_on book a b c A B C f g both first second = record {
  places = places_on a b c f.places g.places;
  sound = λ p j x inside there is.
      let late = g.sound p j x inside there is in
      let early = f.sound p j x inside there late.0 in
      (early.0, both (package_at book p).uuid x.version early.1 late.1);
  whole = λ p j x inside there is allowed.
      g.whole p j x inside there (f.whole p j x inside there is (first (package_at book p).uuid x.version allowed)) (second (package_at book p).uuid x.version allowed);
}

-- what the first of a list of conditions allow
abbrev pub AllowsFirst : {X : Type 0} → (X → Allowing) → List X → ℕ → Allowing
AllowsFirst {X} A xs count u v = (k : ℕ) (x : X) → k < count → slice_get xs k ≡ Some x → A x u v

pub first_none : {X : Type 0} (book : List Packed) (table : List (List Bool)) (A : X → Allowing) (xs : List X) → Narrows book table table (AllowsFirst A xs 0)
first_none book table A xs = narrows_none book table (AllowsFirst A xs 0) (λ u v k x below. absurd (omega (arith, below)))

pub first_more : {X : Type 0} (book : List Packed) (old table new : List (List Bool)) (A : X → Allowing) (xs : List X) (count : ℕ) (x : X) → Narrows book old table (AllowsFirst A xs count) → slice_get xs count ≡ Some x →
    Narrows book table new (A x) → Narrows book old new (AllowsFirst A xs (count + 1))
first_more {X} book old table new A xs count x f there g = narrows_on book old table new (AllowsFirst A xs count) (A x) (AllowsFirst A xs (count + 1)) f g both
    (λ u v all k y below at. all k y (omega (arith, below)) at) (λ u v all. all count x (omega arith) there)
  where
    both : (u : Id) (v : Version) → AllowsFirst A xs count u v → A x u v → AllowsFirst A xs (count + 1) u v
    both u v early late k y below at = elim (cases_eq k count) [
      | inl same ↦ subst (λ z. A z u v) (same_Some x y (sym there ∙ ap (slice_get xs) (sym same) ∙ at)) late
      | inr ne ↦ early k y (omega (arith, below, ne)) at
    ]

pub narrows_like : (book : List Packed) (a b : List (List Bool)) (A B : Allowing) → Narrows book a b A → ((u : Id) (v : Version) → A u v → B u v) → ((u : Id) (v : Version) → B u v → A u v) → Narrows book a b B
narrows_like book a b A B f to back = record {
  places = f.places;
  sound = λ p j x inside there is. let parts = f.sound p j x inside there is in (parts.0, to (package_at book p).uuid x.version parts.1);
  whole = λ p j x inside there is allowed. f.whole p j x inside there is (back (package_at book p).uuid x.version allowed);
}

-- all of a list
pub first_all : {X : Type 0} (book : List Packed) (old new : List (List Bool)) (A : X → Allowing) (xs : List X) (count : ℕ) → Narrows book old new (AllowsFirst A xs count) → length xs ≤ count →
    Narrows book old new (λ u v. (x : X) → Contains xs x → A x u v)
first_all {X} book old new A xs count f all = narrows_like book old new (AllowsFirst A xs count) (λ u v. (x : X) → Contains xs x → A x u v) f to back
  where
    to : (u : Id) (v : Version) → AllowsFirst A xs count u v → (x : X) → Contains xs x → A x u v
    to u v first x c = let inside = c.1 in first c.0 x (omega (arith, inside, all)) (slice_get-get_or xs c.0 x inside ∙ ap Some c.2)

    back : (u : Id) (v : Version) → ((x : X) → Contains xs x → A x u v) → AllowsFirst A xs count u v
    back u v each k x below at = each x (k, slice_get_within xs k x at, get_or_from_slice_get xs k x x at)

-- ---- a package's offers

-- an offer that is seen in a place of a package's offers
record SeenAt (offers : List Offer) (j : ℕ) (x : Offering) : Type 0 where
  pub offer : Offer
  pub there : slice_get offers j ≡ Some offer
  pub is : offering offer ≡ x

seen_at : (offers : List Offer) (j : ℕ) (x : Offering) → slice_get (map offering offers) j ≡ Some x → SeenAt offers j x
seen_at offers j x at =
    elim (slice_get offers j) as (λ found. slice_get offers j ≡ found → option_map offering found ≡ Some x → SeenAt offers j x) [
      | None ↦ λ _ none. absurd (none-some x none)
      | Some y ↦ λ there is. record { offer = y; there = there; is = same_Some (offering y) x is }
    ] refl (sym (slice_get-map offering offers j) ∙ at)

module _ (book : List Packed) (old new : List (List Bool)) (offers : List Offer) (u : Id) (p : ℕ) (test : List ℕ → Bool) (at : p ≡ rank book u) (known : p < length book)
    (once : IsDistinct bytes_eq (ids_of book)) (seen : map offering offers ≡ (package_at book p).offers) (f : NarrowsRow offers old new p (length offers) test) where
  named : u ≡ (package_at book p).uuid
  named = id_at_rank book u (omega (arith, at, known)) ∙ ap (λ k. (package_at book k).uuid) (sym at)

  -- the package of that identifier has this number
  number : (q : ℕ) → q < length book → (package_at book q).uuid ≡ u → q ≡ p
  number q inside is = sym (rank_of_number book q once inside) ∙ ap (rank book) is ∙ sym at

  seen_of : (q j : ℕ) (x : Offering) → q ≡ p → slice_get (package_at book q).offers j ≡ Some x → SeenAt offers j x
  seen_of q j x same there = seen_at offers j x (ap (λ xs. slice_get xs j) (seen ∙ ap (λ k. (package_at book k).offers) (sym same)) ∙ there)

  shut_sound : (q j : ℕ) (x : Offering) → q < length book → slice_get (package_at book q).offers j ≡ Some x → is_open new q j ≡ true → (is_open old q j ≡ true) × AllowsOf u test (package_at book q).uuid x.version
  shut_sound q j x inside there is = elim (cases_eq q p) [
    | inl same ↦
        let z = seen_of q j x same there in
        let here = f.here j z.offer (slice_get_within offers j z.offer z.there) z.there in
        let parts = and_parts (is_open old p j) (test (triple_of z.offer.version)) (sym here ∙ ap (λ k. is_open new k j) (sym same) ∙ is) in
        (ap (λ k. is_open old k j) same ∙ parts.0, λ _. ap (λ (o : Offering). test (triple_of o.version)) (sym z.is) ∙ parts.1)
    | inr ne ↦ (sym (f.others q j ne) ∙ is, λ on. absurd (ne (number q inside on)))
  ]

  shut_whole : (q j : ℕ) (x : Offering) → q < length book → slice_get (package_at book q).offers j ≡ Some x → is_open old q j ≡ true → AllowsOf u test (package_at book q).uuid x.version → is_open new q j ≡ true
  shut_whole q j x inside there is allowed = elim (cases_eq q p) [
    | inl same ↦
        let z = seen_of q j x same there in
        let here = f.here j z.offer (slice_get_within offers j z.offer z.there) z.there in
        let passes : test (triple_of x.version) ≡ true = allowed (ap (λ k. (package_at book k).uuid) same ∙ sym named) in
        ap (λ k. is_open new k j) same ∙ here
        ∙ and_from (is_open old p j) (test (triple_of z.offer.version)) (ap (λ k. is_open old k j) (sym same) ∙ is) (ap (λ (o : Offering). test (triple_of o.version)) z.is ∙ passes)
    | inr ne ↦ f.others q j ne ∙ is
  ]

  pub shut_book : Narrows book old new (AllowsOf u test)
  shut_book = record { places = f.places; sound = shut_sound; whole = shut_whole }

-- an identifier without a number shuts nothing
pub shut_nowhere : (book : List Packed) (table : List (List Bool)) (u : Id) (test : List ℕ → Bool) → IsDistinct bytes_eq (ids_of book) → (rank book u < length book → ⊥) → Narrows book table table (AllowsOf u test)
shut_nowhere book table u test once out = record {
  places = places_same table;
  sound = λ q j x inside there is. (is, λ on. absurd (out (subst (λ n. n < length book) (sym (rank_of_number book q once inside) ∙ ap (rank book) on) inside)));
  whole = λ q j x inside there is allowed. is;
}

-- ---- lists of conditions

-- an item of a list that is read, in the list that is made of it
pub mapped_at : {X Y : Type 0} (f : X → Y) (xs : List X) (i : ℕ) (x : X) → i < length xs → x ≡ get_or xs i x → slice_get (map f xs) i ≡ Some (f x)
mapped_at f xs i x inside is = slice_get-map f xs i ∙ ap (option_map f) (slice_get_read xs (length xs) i x refl inside is)

pub pins_shut : (book : List Packed) (old new : List (List Bool)) (pins : List (Id × Version)) (count : ℕ) → Narrows book old new (AllowsFirst (λ (p : Id × Version). AllowsOf p.0 (λ _. false)) pins count) → length pins ≤ count →
    Narrows book old new (IsFree pins)
pins_shut book old new pins count f all = narrows_like book old new _ (IsFree pins) (first_all book old new (λ (p : Id × Version). AllowsOf p.0 (λ _. false)) pins count f all)
    (λ u v each p c on. true≢false (sym (each p c (sym on)))) (λ u v free p c on. absurd (free p c (sym on)))

pub project_shut : (book : List Packed) (old new : List (List Bool)) (entries : List (Id × List Part)) (count : ℕ) → Narrows book old new (AllowsFirst (λ (e : Id × List Part). AllowsOf e.0 (specifier_holds e.1)) entries count) →
    length entries ≤ count → Narrows book old new (IsWithin entries)
project_shut book old new entries count f all = narrows_like book old new _ (IsWithin entries) (first_all book old new (λ (e : Id × List Part). AllowsOf e.0 (specifier_holds e.1)) entries count f all)
    (λ u v each e c on. each e c (sym on)) (λ u v within e c on. within e c (sym on))

pub offer_shut : (book : List Packed) (old new : List (List Bool)) (t : Id) (entries : List (Id × Allows)) (count : ℕ) → Narrows book old new (AllowsFirst (λ (e : Id × Allows). AllowsOther t e) entries count) →
    length entries ≤ count → Narrows book old new (IsWithinOffer t entries)
offer_shut book old new t entries count f all = narrows_like book old new _ (IsWithinOffer t entries) (first_all book old new (λ (e : Id × Allows). AllowsOther t e) entries count f all)
    (λ u v each. each) (λ u v within. within)

same_holds : (a : Allowed) (triple : List ℕ) → allows_holds (allows a) triple ≡ allowed_holds a triple
same_holds (kinds.Spec parts) triple = refl
same_holds (kinds.Ranges set) triple = refl

pub other_shut : (book : List Packed) (old new : List (List Bool)) (t : Id) (e : Id × Allowed) → (e.0 ≡ t → ⊥) → Narrows book old new (AllowsOf e.0 (allowed_holds e.1)) → Narrows book old new (AllowsOther t (e.0, allows e.1))
other_shut book old new t e ne f = narrows_like book old new _ (AllowsOther t (e.0, allows e.1)) f
    (λ u v all _ on. same_holds e.1 (triple_of v) ∙ all (sym on)) (λ u v all on. sym (same_holds e.1 (triple_of v)) ∙ all ne (sym on))

pub own_shut : (book : List Packed) (table : List (List Bool)) (t : Id) (e : Id × Allows) → e.0 ≡ t → Narrows book table table (AllowsOther t e)
own_shut book table t e same = narrows_none book table (AllowsOther t e) (λ u v ne. absurd (ne same))

-- ---- what is selected

pub selected_none : (book : List Packed) (s : Selected) (table : List (List Bool)) → Narrows book table table (IsWithinFirst book s 0)
selected_none book s table = narrows_none book table (IsWithinFirst book s 0) (λ u v q x below. absurd (omega (arith, below)))

pub selected_more : (book : List Packed) (s : Selected) (old table new : List (List Bool)) (p : ℕ) → p < length book → Narrows book old table (IsWithinFirst book s p) →
    Narrows book table new (IsWithinOffer (package_at book p).uuid (compat_in (taken (book_offers book) s (package_at book p).uuid))) → Narrows book old new (IsWithinFirst book s (p + 1))
selected_more book s old table new p known f g = narrows_on book old table new _ _ (IsWithinFirst book s (p + 1)) f g both
    (λ u v all q x below. all q x (omega (arith, below))) second
  where
    both : (u : Id) (v : Version) → IsWithinFirst book s p u v → IsWithinOffer (package_at book p).uuid (compat_in (taken (book_offers book) s (package_at book p).uuid)) u v → IsWithinFirst book s (p + 1) u v
    both u v early late q x below inside is = elim (cases_eq q p) [
      | inl same ↦
          let mine : taken (book_offers book) s (package_at book p).uuid ≡ Some x = ap (λ k. taken (book_offers book) s (package_at book k).uuid) (sym same) ∙ is in
          subst (λ k. IsWithinOffer (package_at book k).uuid x.compat u v) (sym same) (subst (λ (o : Option Offering). IsWithinOffer (package_at book p).uuid (compat_in o) u v) mine late)
      | inr ne ↦ early q x (omega (arith, below, ne)) inside is
    ]

    second : (u : Id) (v : Version) → IsWithinFirst book s (p + 1) u v → IsWithinOffer (package_at book p).uuid (compat_in (taken (book_offers book) s (package_at book p).uuid)) u v
    second u v all =
        elim (taken (book_offers book) s (package_at book p).uuid) as (λ (o : Option Offering). taken (book_offers book) s (package_at book p).uuid ≡ o → IsWithinOffer (package_at book p).uuid (compat_in o) u v) [
          | None ↦ λ _ e c. let inside = c.1 in absurd (omega (arith, inside))
          | Some x ↦ λ is. all p x (omega arith) known is
        ] refl

-- ---- all together

pub filled_open : (old new : List (List Bool)) (p j : ℕ) → new ≡ map (λ xs. map (λ b. true) xs) old → p < length old → j < length (row_at old p) → is_open new p j ≡ true
filled_open old new p j e known inside =
    ap (λ t. is_open t p j) e ∙ ap (λ row. truth_at row j) (get_or-map (λ xs. map (λ b. true) xs) old p [] [] known) ∙ get_or-map (λ b. true) (row_at old p) j false false inside

pub filled_places : (old new : List (List Bool)) → new ≡ map (λ xs. map (λ b. true) xs) old → HasSamePlaces old new
filled_places old new e = record {
  rows = ap length e ∙ length-map old (λ xs. map (λ b. true) xs);
  wide = λ p. ap (λ t. length (row_at t p)) e ∙ elim (cases_lt p (length old)) [
    | inl known ↦ ap length (get_or-map (λ xs. map (λ b. true) xs) old p [] [] known) ∙ length-map (row_at old p) (λ b. true)
    | inr past ↦
        let out : length (map (λ xs. map (λ b. true) xs) old) ≤ p = subst (λ n. n ≤ p) (sym (length-map old (λ xs. map (λ b. true) xs))) past in
        ap length (get_or_past (map (λ xs. map (λ b. true) xs) old) p [] out) ∙ sym (ap length (get_or_past old p [] past))
  ];
}

pub all_open : (book : List Packed) (w : Wanted) (s : Selected) (old filled a b c d : List (List Bool)) → IsTableFor book old → ((p : ℕ) → length (package_at book p).offers < 2 ^ 32) →
    filled ≡ map (λ xs. map (λ b. true) xs) old → Narrows book filled a (IsFree w.pins) → Narrows book a b (IsFree w.held) → Narrows book b c (IsWithin w.compat) → Narrows book c d (IsWithinFirst book s (length book)) → AreOpen book w s d
all_open book w s old filled a b c d made few e first second third fourth = record { sound = sound; whole = whole }
  where
    sound : (p j : ℕ) (x : Offering) → p < length book → slice_get (package_at book p).offers j ≡ Some x → is_open d p j ≡ true → IsAllowedByAll book w s (package_at book p).uuid x.version
    sound p j x inside there is =
        let four = fourth.sound p j x inside there is in
        let three = third.sound p j x inside there four.0 in
        let two = second.sound p j x inside there three.0 in
        let one = first.sound p j x inside there two.0 in
        record {
          free = λ q pin. elim (contains_append w.pins w.held q pin) [ inl pinned ↦ one.1 q pinned | inr held ↦ two.1 q held ];
          project = three.1;
          offers = four.1;
        }

    open_first : (p j : ℕ) (x : Offering) → p < length book → slice_get (package_at book p).offers j ≡ Some x → is_open filled p j ≡ true
    open_first p j x inside there =
        let wide = made.wide p inside (few p) in
        let below = slice_get_within (package_at book p).offers j x there in
        filled_open old filled p j e (omega (arith, inside, made.rows)) (omega (arith, wide, below))

    whole : (p j : ℕ) (x : Offering) → p < length book → slice_get (package_at book p).offers j ≡ Some x → IsAllowedByAll book w s (package_at book p).uuid x.version → is_open d p j ≡ true
    whole p j x inside there all =
        fourth.whole p j x inside there
        (third.whole p j x inside there
        (second.whole p j x inside there
        (first.whole p j x inside there (open_first p j x inside there) (λ q pinned. all.free q (Contains-append_left w.pins w.held q pinned)))
        (λ q held. all.free q (Contains-append_right w.pins w.held q held)))
        all.project)
        all.offers
