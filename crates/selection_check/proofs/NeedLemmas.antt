-- Marking the packages that are needed.
use Rattle.std.proofs.Common.{◌≡◌, ℕ, suc, ◌+◌, ◌<◌, ◌≤◌, Bool, true, false, true≢false, not, cond, is_some, MatchBool, ◌||◌, ◌⊎◌, List, [], ◌∷◌, ◌++◌, length, get_or, set, slice_get, Option, Some, None, IsSome, Contains, bytes_eq, eqb, eq-eqb, length-append, length-set, refl, sym, ◌∙◌, ap, subst, inl, inr, arith}
use Rattle.std.specs.List.{IsDistinct}
use Rattle.std.proofs.Math.Seq.{get_or-append_seam}
use Rattle.std.proofs.lemmas.Bool.{eqb-true, cases_lt, cases_eq, or_cases, or_left, or_right}
use Rattle.std.proofs.lemmas.Bool.Decides.{eqb_tells}
use Rattle.std.proofs.lemmas.List.{get_or-set_same, get_or-set_other, get_or_append_left, get_or_past, get_or_default}
use Rattle.std.proofs.lemmas.List.Elements.{Contains-append_left, Contains-append_right}
use Rattle.std.proofs.lemmas.List.Sums.{sum_by-set, count_by-le-length}
use Rattle.std.proofs.lemmas.Option.{same_Some, slice_get-get_or}
use Rattle.jl_versions.specs.declared.version.Version.{Version}
use Rattle.offer_terms.specs.Offered.{Text, Id, Offering, Selected, version_in, offer_at, taken}
use Rattle.offer_terms.specs.Booked.{Packed, package_at, ids_of, book_offers}
use Rattle.offer_terms.specs.Demanded.{Wanted}
use Rattle.offer_terms.specs.Feasible.{IsFeasible, IsNeeded}
use Rattle.selection_check.specs.Order.{rank, id_cmp, FirstOf}
use Rattle.selection_check.specs.Breaches.{IsSpare}
use Rattle.selection_check.specs.Found.{deps_in}
use Rattle.selection_check.specs.Needing.{is_marked, has_mark, marked_count, AreListed, Grows, IsNamed, MarksOne, Marks, AreNeeded, AreMet, AreTheNeeded, IsUnmarked}
use Rattle.selection_check.proofs.Ranks.{id_case, id_at_rank, rank_of_number, offered_held, taken_held}
use Rattle.selection_check.proofs.Clauses.{some_value}
use Rattle.selection_check.proofs.Orders.{contains_first, first_like}

or_false : (b : Bool) → (b || false) ≡ b
or_false true = refl
or_false false = refl

-- ---- one mark more

pub marked_set : (xs : List Bool) (i : ℕ) → i < length xs → (q : ℕ) → is_marked (set xs i true) q ≡ (is_marked xs q || eqb q i)
unfolding is_marked
marked_set xs i h q = elim (eqb_tells q i) [
  | inl s ↦ let same = s.1 in
      rw same (get_or-set_same xs i true false h ∙ sym (or_right (get_or xs i false) (eqb i i) (eq-eqb i i refl)))
  | inr s ↦ get_or-set_other xs i q true false s.1 ∙ sym (ap (λ b. get_or xs q false || b) s.0 ∙ or_false (get_or xs q false))
]

counted_set : (xs : List Bool) (i : ℕ) → i < length xs → is_marked xs i ≡ false → marked_count (set xs i true) ≡ marked_count xs + 1
unfolding is_marked
counted_set xs i h e =
    let s = sum_by-set (λ (x : Bool). cond x 1 0) xs i true false h in
    let same = rw e at s in
    omega (arith, same)

-- there is room for one number more
pub room_left : (n : ℕ) (marks : List Bool) (order : List ℕ) (p room : ℕ) → AreListed n marks order → p < length marks → is_marked marks p ≡ false → n ≤ room → length order < room
room_left n marks order p room l h e r =
    let more = counted_set marks p h e in
    let most = count_by-le-length (λ b. b) (set marks p true) in
    omega (arith, more, most, length-set marks p true, l.each, l.counted, r)

at_seam : (order : List ℕ) (p k : ℕ) → k ≡ length order → get_or (order ++ p ∷ []) k 0 ≡ p
at_seam order p k e = rw e (get_or-append_seam order p [] 0)

-- a package that is marked and listed last
pub listed_more : (n : ℕ) (marks new : List Bool) (order more : List ℕ) (p : ℕ) → AreListed n marks order → p < length marks → is_marked marks p ≡ false →
    new ≡ set marks p true → more ≡ order ++ p ∷ [] → AreListed n new more
listed_more n marks new order more p l inside e f h =
    let long = length-append order (p ∷ []) in
    let now : (q : ℕ) → is_marked new q ≡ (is_marked marks q || eqb q p) = λ q. ap (λ m. is_marked m q) f ∙ marked_set marks p inside q in
    let at_old : (k : ℕ) → k < length order → get_or more k 0 ≡ get_or order k 0 = λ k b. ap (λ o. get_or o k 0) h ∙ get_or_append_left order (p ∷ []) 0 k b in
    let at_last : (k : ℕ) → k ≡ length order → get_or more k 0 ≡ p = λ k s. ap (λ o. get_or o k 0) h ∙ at_seam order p k s in
    let count : length more ≡ length order + 1 = ap length h ∙ omega (arith, long) in
    record {
      each = ap length f ∙ length-set marks p true ∙ l.each;
      counted = omega (arith, count, counted_set marks p inside e, l.counted, ap marked_count f);
      marked = λ k b. elim (cases_lt k (length order)) [
        | inl s ↦ ap (is_marked new) (at_old k s) ∙ now (get_or order k 0) ∙ or_left (is_marked marks (get_or order k 0)) (eqb (get_or order k 0) p) (l.marked k s)
        | inr s ↦ ap (is_marked new) (at_last k (omega (arith, s, b, count))) ∙ now p ∙ or_right (is_marked marks p) (eqb p p) (eq-eqb p p refl)
      ];
      listed = λ q is. elim (or_cases (is_marked marks q) (eqb q p) (sym (now q) ∙ is)) [
        | inl s ↦ subst (λ o. Contains o q) (sym h) (Contains-append_left order (p ∷ []) q (l.listed q s))
        | inr s ↦ subst (λ o. Contains o q) (sym h) (subst (λ x. Contains (order ++ p ∷ []) x) (sym (eqb-true q p s)) (Contains-append_right order (p ∷ []) p (contains_first p [])))
      ];
    }

-- what was marked stays marked, and the list goes on
pub grows_more : (marks new : List Bool) (order more : List ℕ) (p : ℕ) → p < length marks → new ≡ set marks p true → more ≡ order ++ p ∷ [] → Grows marks new order more
grows_more marks new order more p inside f h = record {
  marks = λ q is. ap (λ m. is_marked m q) f ∙ marked_set marks p inside q ∙ or_left (is_marked marks q) (eqb q p) is;
  longer = let long = length-append order (p ∷ []) in let e = ap length h in omega (arith, long, e);
  same = λ k b. ap (λ o. get_or o k 0) h ∙ get_or_append_left order (p ∷ []) 0 k b;
}

pub grows_none : (marks : List Bool) (order : List ℕ) → Grows marks marks order order
grows_none marks order = record { marks = λ p is. is; longer = omega arith; same = λ k b. refl }

pub grows_on : (a b c : List Bool) (xs ys zs : List ℕ) → Grows a b xs ys → Grows b c ys zs → Grows a c xs zs
grows_on a b c xs ys zs f g =
    let first = f.longer in
    let second = g.longer in
    record {
      marks = λ p is. g.marks p (f.marks p is);
      longer = omega (arith, first, second);
      same = λ k inside. g.same k (omega (arith, inside, first)) ∙ f.same k inside;
    }

-- marking a package that is marked changes nothing
pub marked_same : (marks : List Bool) (p q : ℕ) → is_marked marks p ≡ true → is_marked marks q ≡ (is_marked marks q || eqb q p)
marked_same marks p q e = elim (eqb_tells q p) [
  | inl s ↦ ap (is_marked marks) s.1 ∙ e ∙ sym (or_right (is_marked marks q) (eqb q p) s.0)
  | inr s ↦ sym (ap (λ v. is_marked marks q || v) s.0 ∙ or_false (is_marked marks q))
]

pub marked_inside : (marks : List Bool) (p : ℕ) → is_marked marks p ≡ true → p < length marks
unfolding is_marked
marked_inside marks p is = elim (cases_lt p (length marks)) [ inl inside ↦ inside | inr past ↦ absurd (true≢false (sym is ∙ get_or_past marks p false past)) ]

-- ---- no marks

pub unmarked_more : (xs ys : List Bool) (i : ℕ) → i < length xs → ys ≡ set xs i false → ((q : ℕ) → q < i → is_marked xs q ≡ false) →
    (q : ℕ) → q < i + 1 → is_marked ys q ≡ false
unfolding is_marked
unmarked_more xs ys i h e none q b = elim (eqb_tells q i) [
  | inl s ↦ ap (λ m. get_or m q false) e ∙ ap (λ k. get_or (set xs i false) k false) s.1 ∙ get_or-set_same xs i false false h
  | inr s ↦ (let ne = s.1 in ap (λ m. get_or m q false) e ∙ get_or-set_other xs i q false false ne ∙ none q (omega (arith, b, ne)))
]

pub unmarked_all : (xs : List Bool) (n : ℕ) → length xs ≡ n → ((q : ℕ) → q < n → is_marked xs q ≡ false) → (q : ℕ) → is_marked xs q ≡ false
unfolding is_marked
unmarked_all xs n e none q = elim (cases_lt q n) [
  | inl s ↦ none q s
  | inr s ↦ get_or_past xs q false (omega (arith, s, e))
]

none_counted : (xs : List Bool) → ((q : ℕ) → is_marked xs q ≡ false) → marked_count xs ≡ 0
unfolding is_marked
none_counted [] none = refl
none_counted (true ∷ xs) none = absurd (true≢false (none 0))
none_counted (false ∷ xs) none = none_counted xs (λ q. none (suc q))

pub listed_none : (n : ℕ) (marks : List Bool) (order : List ℕ) → length marks ≡ n → ((q : ℕ) → is_marked marks q ≡ false) → order ≡ [] → AreListed n marks order
listed_none n marks order each none empty =
    let count : length order ≡ 0 = ap length empty in
    record {
      each = each;
      counted = count ∙ sym (none_counted marks none);
      marked = λ k b. absurd (omega (arith, b, count));
      listed = λ p is. absurd (true≢false (sym is ∙ none p));
    }

-- ---- the packages of identifiers

pub one_marked : (book : List Packed) (u : Id) (old new : List Bool) (p : ℕ) → p ≡ rank book u → p < length book → ((q : ℕ) → is_marked new q ≡ (is_marked old q || eqb q p)) → MarksOne book u old new
one_marked book u old new p at inside now = record {
  whole = λ _. now (rank book u) ∙ or_right (is_marked old (rank book u)) (eqb (rank book u) p) (eq-eqb (rank book u) p (sym at));
  only = λ q is. elim (or_cases (is_marked old q) (eqb q p) (sym (now q) ∙ is)) [
    | inl before ↦ inl before
    | inr here ↦ (let same = eqb-true q p here in inr (sym at ∙ sym same, omega (arith, same, inside)))
  ];
}

-- an identifier without a number marks nothing
pub none_marked : (book : List Packed) (u : Id) (marks : List Bool) → (rank book u < length book → ⊥) → MarksOne book u marks marks
none_marked book u marks out = record { whole = λ inside. absurd (out inside); only = λ p is. inl is }

-- the first identifiers of a list
pub record MarksFirst (book : List Packed) (ids : List (Text × Id)) (old new : List Bool) (count : ℕ) : Type 0 where
  pub whole : (k : ℕ) (e : Text × Id) → k < count → slice_get ids k ≡ Some e → rank book e.1 < length book → has_mark book new e.1 ≡ true
  pub only : (p : ℕ) → is_marked new p ≡ true → (is_marked old p ≡ true) ⊎ IsNamed book ids p

pub marks_none : (book : List Packed) (ids : List (Text × Id)) (marks : List Bool) → MarksFirst book ids marks marks 0
marks_none book ids marks = record { whole = λ k e below. absurd (omega (arith, below)); only = λ p is. inl is }

pub marks_more : (book : List Packed) (ids : List (Text × Id)) (old marks new : List Bool) (count : ℕ) (e : Text × Id) (order more : List ℕ) → MarksFirst book ids old marks count → slice_get ids count ≡ Some e →
    Contains ids e → MarksOne book e.1 marks new → Grows marks new order more → MarksFirst book ids old new (count + 1)
marks_more book ids old marks new count e order more f there held one grows = record {
  whole = λ k d below at known. elim (cases_eq k count) [
    | inl same ↦
        let is : e ≡ d = same_Some e d (sym there ∙ ap (slice_get ids) (sym same) ∙ at) in
        subst (λ (x : Text × Id). has_mark book new x.1 ≡ true) is (one.whole (subst (λ (x : Text × Id). rank book x.1 < length book) (sym is) known))
    | inr ne ↦ grows.marks (rank book d.1) (f.whole k d (omega (arith, below, ne)) at known)
  ];
  only = λ p is. elim (one.only p is) [
    | inl before ↦ f.only p before
    | inr named ↦ inr (record { entry = e; there = held; number = named.0; known = named.1 })
  ];
}

pub marks_all : (book : List Packed) (ids : List (Text × Id)) (old new : List Bool) (count : ℕ) → MarksFirst book ids old new count → length ids ≤ count → Marks book ids old new
marks_all book ids old new count f all = record {
  whole = λ e c known. let inside = c.1 in f.whole c.0 e (omega (arith, inside, all)) (slice_get-get_or ids c.0 e inside ∙ ap Some c.2) known;
  only = f.only;
}

-- ---- what is needed

needed_dep : (book : List Packed) (w : Wanted) (s : Selected) (u : Id) (x : Offering) (d : Text × Id) → IsNeeded (book_offers book) w s u → taken (book_offers book) s u ≡ Some x → Contains x.deps d → IsNeeded (book_offers book) w s d.1
needed_dep book w s u x d needed is dep = elim (id_case d.1 u) [
  | inl same ↦ subst (IsNeeded (book_offers book) w s) (sym same.0) needed
  | inr a ↦ record { in_each = λ set spreads. spreads.needs u x d (needed.in_each set spreads) is dep a.0 }
]

-- a package of an identifier that is needed
named_needed : (book : List Packed) (w : Wanted) (s : Selected) (u : Id) (p : ℕ) → rank book u ≡ p → p < length book → IsNeeded (book_offers book) w s u → IsNeeded (book_offers book) w s (package_at book p).uuid
named_needed book w s u p at inside needed =
    subst (IsNeeded (book_offers book) w s) (id_at_rank book u (omega (arith, at, inside)) ∙ ap (λ k. (package_at book k).uuid) at) needed

pub roots_needed : (book : List Packed) (w : Wanted) (s : Selected) (old new : List Bool) → ((p : ℕ) → is_marked old p ≡ false) → Marks book w.roots old new → AreNeeded book w s new
roots_needed book w s old new none m = record {
  sound = λ p is. elim (m.only p is) [
    | inl before ↦ absurd (true≢false (sym before ∙ none p))
    | inr named ↦ named_needed book w s named.entry.1 p named.number named.known (record { in_each = λ set spreads. spreads.roots named.entry named.there })
  ];
}

some_deps : (found : Option Offering) (d : Text × Id) → Contains (deps_in found) d → (x : Offering) × (found ≡ Some x) × Contains x.deps d
some_deps None d c = let inside = c.1 in absurd (omega (arith, inside))
some_deps (Some x) d c = (x, refl, c)

-- with what the offer of a marked package depends on, only needed packages are marked
pub deps_needed : (book : List Packed) (w : Wanted) (s : Selected) (old new : List Bool) (p : ℕ) → is_marked old p ≡ true →
    Marks book (deps_in (taken (book_offers book) s (package_at book p).uuid)) old new → AreNeeded book w s old → AreNeeded book w s new
deps_needed book w s old new p marked m needed = record {
  sound = λ q is. elim (m.only q is) [
    | inl before ↦ needed.sound q before
    | inr named ↦
        let dep = some_deps (taken (book_offers book) s (package_at book p).uuid) named.entry named.there in
        named_needed book w s named.entry.1 q named.number named.known (needed_dep book w s (package_at book p).uuid dep.0 named.entry (needed.sound p marked) dep.1 dep.2)
  ];
}

-- what the next package of the list depends on is marked too
pub met_more : (book : List Packed) (s : Selected) (old new : List Bool) (order more : List ℕ) (next p : ℕ) → next < length order → get_or order next 0 ≡ p →
    Marks book (deps_in (taken (book_offers book) s (package_at book p).uuid)) old new → Grows old new order more → AreMet book s old order next → AreMet book s new more (next + 1)
met_more book s old new order more next p inside at m grows met = record {
  met = λ k x d below there is dep known. elim (cases_eq k next) [
    | inl same ↦
        let here : get_or more k 0 ≡ p = ap (λ i. get_or more i 0) same ∙ grows.same next inside ∙ at in
        let mine : taken (book_offers book) s (package_at book p).uuid ≡ Some x = ap (λ i. taken (book_offers book) s (package_at book i).uuid) (sym here) ∙ is in
        let listed = subst (λ (found : Option Offering). Contains (deps_in found) d) (sym mine) dep in
        m.whole d listed known
    | inr ne ↦
        let before : k < length order = omega (arith, below, ne, inside) in
        grows.marks (rank book d.1) (met.met k x d (omega (arith, below, ne)) before (ap (λ i. taken (book_offers book) s (package_at book i).uuid) (sym (grows.same k before)) ∙ is) dep known)
  ];
}

-- a selected package has a number, where the selection is feasible
pub selected_held : (book : List Packed) (w : Wanted) (s : Selected) (u : Id) (v : Version) → IsFeasible (book_offers book) w s → version_in s u ≡ Some v → rank book u < length book
selected_held book w s u v all at = let found = some_value (offer_at (book_offers book) u v) (all.offered u v at) in offered_held book u v found.0 found.1

pub held_if : (book : List Packed) (w : Wanted) (s : Selected) (u : Id) → IsFeasible (book_offers book) w s → IsSome (version_in s u) → rank book u < length book
held_if book w s u all is = let found = some_value (version_in s u) is in selected_held book w s u found.0 all found.1

-- at the end the needed packages and no others are marked
pub the_needed : (book : List Packed) (w : Wanted) (s : Selected) (marks : List Bool) (order : List ℕ) (count : ℕ) → IsFeasible (book_offers book) w s → AreListed (length book) marks order → AreNeeded book w s marks →
    ((e : Text × Id) → Contains w.roots e → rank book e.1 < length book → has_mark book marks e.1 ≡ true) → AreMet book s marks order count → length order ≤ count → AreTheNeeded book w s marks
the_needed book w s marks order count all l needed roots met whole = record {
  needed = needed;
  spreads = record {
    roots = λ r root. roots r root (held_if book w s r.1 all (all.roots r root));
    needs = λ u x d is there dep other.
        let c = l.listed (rank book u) is in
        let inside = c.1 in
        let at : get_or order c.0 0 ≡ rank book u = get_or_default order c.0 0 (rank book u) inside ∙ c.2 in
        let named : u ≡ (package_at book (get_or order c.0 0)).uuid = id_at_rank book u (taken_held book s u x there) ∙ ap (λ k. (package_at book k).uuid) (sym at) in
        met.met c.0 x d (omega (arith, inside, whole)) inside (ap (taken (book_offers book) s) (sym named) ∙ there) dep (held_if book w s d.1 all (all.needs u x d there dep other));
  };
}

-- marks are those of the packages of the book, so no more of them are listed than there are packages
pub listed_few : (n : ℕ) (marks : List Bool) (order : List ℕ) → AreListed n marks order → length order ≤ n
listed_few n marks order l = let most = count_by-le-length (λ b. b) marks in omega (arith, most, l.each, l.counted)

-- ---- what isn't needed

pub spare_first : (book : List Packed) (w : Wanted) (s : Selected) (marks : List Bool) (r : Option Id) → IsFeasible (book_offers book) w s → AreTheNeeded book w s marks →
    FirstOf (id_cmp book) (IsUnmarked book s marks) r → FirstOf (id_cmp book) (IsSpare (book_offers book) w s) r
spare_first book w s marks r all the = first_like (id_cmp book) r to back
  where
    to : (u : Id) → IsUnmarked book s marks u → IsSpare (book_offers book) w s u
    to u l = record { version = l.version; selected = l.selected; unneeded = λ needed. true≢false (sym (needed.in_each (has_mark book marks) the.spreads) ∙ l.unmarked) }

    back : (u : Id) → IsSpare (book_offers book) w s u → IsUnmarked book s marks u
    back u l =
        let inside = selected_held book w s u l.version all l.selected in
        record {
          version = l.version;
          selected = l.selected;
          known = inside;
          unmarked = elim (is_marked marks (rank book u)) as (λ b. is_marked marks (rank book u) ≡ b → b ≡ false) [
            | true ↦ λ is. absurd (l.unneeded (subst (IsNeeded (book_offers book) w s) (sym (id_at_rank book u inside)) (the.needed.sound (rank book u) is)))
            | false ↦ λ _. refl
          ] refl;
        }

module _ (book : List Packed) (s : Selected) (marks : List Bool) (p : ℕ) (once : IsDistinct bytes_eq (ids_of book)) (inside : p < length book) where
  pub unmarked_if : is_marked marks p ≡ false → (b : Bool) → b ≡ is_some (version_in s (package_at book p).uuid) → MatchBool b (IsUnmarked book s marks (package_at book p).uuid) (IsUnmarked book s marks (package_at book p).uuid → ⊥)
  unmarked_if out true is =
      let found = some_value (version_in s (package_at book p).uuid) (sym is) in
      record {
        version = found.0;
        selected = found.1;
        known = subst (λ n. n < length book) (sym (rank_of_number book p once inside)) inside;
        unmarked = ap (is_marked marks) (rank_of_number book p once inside) ∙ out;
      }
  unmarked_if out false is = λ l. true≢false (sym (is ∙ ap is_some l.selected))

  pub marked_not : is_marked marks p ≡ true → (b : Bool) → b ≡ true → MatchBool (not b) (IsUnmarked book s marks (package_at book p).uuid) (IsUnmarked book s marks (package_at book p).uuid → ⊥)
  marked_not marked true is = λ l. true≢false (sym marked ∙ sym (ap (is_marked marks) (rank_of_number book p once inside)) ∙ l.unmarked)
  marked_not marked false is = absurd (true≢false (sym is))
