-- How the instance of a book is made: which states and which pairs of states one step after another forbids.
use Rattle.std.specs.Prelude.{◌≡◌, ◌≢◌, ◌⊎◌, ℕ, ◌+◌, ◌<◌, Bool, true, not, ◌&&◌, List, length, Option, Some, Contains, slice_get}
use Rattle.std.specs.List.{list_any}
use Rattle.std.specs.Ordering.{eq_by_cmp}
use Rattle.std.specs.Str.{bytes_eq}
use Rattle.jl_versions.specs.Order.{version_cmp}
use Rattle.jl_versions.specs.Triple.{triple_of}
use Rattle.jl_versions.specs.declared.version.Version.{Version}
use Rattle.compat_spec.specs.declared.part.Part.{Part}
use Rattle.compat_spec.specs.Meaning.{specifier_holds}
use Rattle.package_tables.specs.Row.{julia_id}
use Rattle.offer_terms.specs.Offered.{Id, Allows, allows_holds, Offering}
use Rattle.offer_terms.specs.Booked.{Packed, package_at}
use Rattle.offer_terms.specs.Demanded.{Wanted}
use Rattle.version_graph.specs.Graph.{Graph, packages, states, is_barred, is_forbidden}
use Rattle.book_graph.specs.StandsFor.{id_of, offer_in, state_count, Shuts, Excludes}

-- a package and its state, and two of them
abbrev pub State : Type 0
State = ℕ × ℕ

abbrev pub Pair : Type 0
Pair = ℕ × ℕ × ℕ × ℕ

-- there is a number of states for each package of the book, and it is small
pub record IsSized (book : List Packed) (g : Graph) : Type 0 where
  pub each : packages g ≡ length book
  pub wide : (p : ℕ) → p < length book → states g p ≡ length (package_at book p).offers + 1
  pub few : (p : ℕ) → p < length book → length (package_at book p).offers < 65536

-- the package has that identifier, and no other has it
pub record IsNumberOf (book : List Packed) (u : Id) (q : ℕ) : Type 0 where
  pub known : q < length book
  pub named : id_of book q ≡ u
  pub only : (r : ℕ) → r < length book → id_of book r ≡ u → r ≡ q

-- no package has that identifier
abbrev pub IsNowhere : List Packed → Id → Type 0
IsNowhere book u = (r : ℕ) → r < length book → id_of book r ≡ u → ⊥

-- no package but p has it
abbrev pub IsNowhereElse : List Packed → Id → ℕ → Type 0
IsNowhereElse book u p = (r : ℕ) → r < length book → id_of book r ≡ u → r ≡ p

-- what passes the new test and not the old one are these
pub record Adds {X : Type 0} (old new : X → Bool) (These : X → Type 0) : Type 0 where
  pub keeps : (x : X) → old x ≡ true → new x ≡ true
  pub sound : (x : X) → new x ≡ true → (old x ≡ true) ⊎ These x
  pub whole : (x : X) → These x → new x ≡ true

abbrev pub barred_at : Graph → State → Bool
barred_at g x = is_barred g x.0 x.1

abbrev pub forbidden_at : Graph → Pair → Bool
forbidden_at g x = is_forbidden g x.0 x.1 x.2 x.3

-- these states are forbidden alone besides
pub record Bars (old new : Graph) (These : State → Type 0) : Type 0 where
  pub sizes : new.sizes ≡ old.sizes
  pub alike : (p i q j : ℕ) → is_forbidden new p i q j ≡ is_forbidden old p i q j
  pub adds : Adds (barred_at old) (barred_at new) These

-- in whichever order the two states are named
abbrev pub EitherWay : (Pair → Type 0) → Pair → Type 0
EitherWay These x = These x ⊎ These (x.2, x.3, x.0, x.1)

-- these pairs of states are forbidden besides
pub record Forbids (old new : Graph) (These : Pair → Type 0) : Type 0 where
  pub sizes : new.sizes ≡ old.sizes
  pub alike : (p i : ℕ) → is_barred new p i ≡ is_barred old p i
  pub adds : Adds (forbidden_at old) (forbidden_at new) (EitherWay These)

-- ---- by steps

-- one of the first n
pub record UpTo {X : Type 0} (These : ℕ → X → Type 0) (n : ℕ) (x : X) : Type 0 where
  pub place : ℕ
  pub below : place < n
  pub here : These place x

-- by a member of the list
pub record OfOne {X Y : Type 0} (These : Y → X → Type 0) (ys : List Y) (x : X) : Type 0 where
  pub item : Y
  pub there : Contains ys item
  pub here : These item x

-- by the member in that place
pub record OfPlace {X Y : Type 0} (These : Y → X → Type 0) (ys : List Y) (k : ℕ) (x : X) : Type 0 where
  pub item : Y
  pub there : slice_get ys k ≡ Some item
  pub here : These item x

-- ---- states

-- this state, where it is wanted
pub record IsThis (p i : ℕ) (wanted : Bool) (x : State) : Type 0 where
  pub package_is : x.0 ≡ p
  pub state_is : x.1 ≡ i
  pub due : wanted ≡ true

-- a state of p whose offer among these passes the test
pub record IsAmong (p : ℕ) (offers : List Offering) (test : Offering → Bool) (x : State) : Type 0 where
  pub package_is : x.0 ≡ p
  pub offer : Offering
  pub there : slice_get offers x.1 ≡ Some offer
  pub passes : test offer ≡ true

-- the same in one place
pub record IsAmongAt (p : ℕ) (offers : List Offering) (test : Offering → Bool) (k : ℕ) (x : State) : Type 0 where
  pub state_is : x.1 ≡ k
  pub among : IsAmong p offers test x

-- a state of the package of that identifier whose offer passes the test
pub record IsOffered (book : List Packed) (u : Id) (test : Offering → Bool) (x : State) : Type 0 where
  pub known : x.0 < length book
  pub named : id_of book x.0 ≡ u
  pub offer : Offering
  pub there : offer_in book x.0 x.1 ≡ Some offer
  pub passes : test offer ≡ true

-- the absent state of the package of that identifier
pub record IsAbsent (book : List Packed) (u : Id) (x : State) : Type 0 where
  pub known : x.0 < length book
  pub named : id_of book x.0 ≡ u
  pub last : x.1 ≡ length (package_at book x.0).offers

-- a state of any package whose offer passes the test
pub record IsAnywhere (book : List Packed) (test : Offering → Bool) (x : State) : Type 0 where
  pub known : x.0 < length book
  pub offer : Offering
  pub there : offer_in book x.0 x.1 ≡ Some offer
  pub passes : test offer ≡ true

-- a state of the book that the demand shuts
pub record IsShut (book : List Packed) (w : Wanted) (x : State) : Type 0 where
  pub known : x.0 < length book
  pub state : x.1 < state_count (package_at book x.0)
  pub shut : Shuts w (id_of book x.0) (offer_in book x.0 x.1)

-- ---- tests of offers

-- the specifier doesn't hold its version
abbrev pub is_outside : List Part → Offering → Bool
is_outside parts x = not (specifier_holds parts (triple_of x.version))

-- the entry doesn't allow its version
abbrev pub is_refused : Allows → Offering → Bool
is_refused entry x = not (allows_holds entry (triple_of x.version))

-- it has another version
abbrev pub is_other : Version → Offering → Bool
is_other pin x = not (eq_by_cmp version_cmp x.version pin)

-- it doesn't allow Julia's version
abbrev pub refuses_entry : List ℕ → Id × Allows → Bool
refuses_entry julia e = bytes_eq e.0 julia_id && not (allows_holds e.1 julia)

abbrev pub refuses_julia : List ℕ → Offering → Bool
refuses_julia julia x = list_any (refuses_entry julia) x.compat

-- ---- pairs

-- these two states, where this is wanted
pub record AreThese (p i q j : ℕ) (wanted : Bool) (x : Pair) : Type 0 where
  pub first : x.0 ≡ p
  pub first_state : x.1 ≡ i
  pub second : x.2 ≡ q
  pub second_state : x.3 ≡ j
  pub due : wanted ≡ true

-- the state i of p, and one of these
pub record IsWith (p i : ℕ) (These : State → Type 0) (x : Pair) : Type 0 where
  pub first : x.0 ≡ p
  pub first_state : x.1 ≡ i
  pub other : These (x.2, x.3)

-- the state i of p, and one of these of another package
pub record IsFrom (p i : ℕ) (These : State → Type 0) (x : Pair) : Type 0 where
  pub first : x.0 ≡ p
  pub first_state : x.1 ≡ i
  pub apart : x.2 ≢ p
  pub other : These (x.2, x.3)

-- a state of the book that the offer excludes
pub record IsExcludedBy (book : List Packed) (x : Option Offering) (y : State) : Type 0 where
  pub known : y.0 < length book
  pub state : y.1 < state_count (package_at book y.0)
  pub excluded : Excludes x (id_of book y.0) (offer_in book y.0 y.1)

-- a state of p, and one of another package that its offer excludes
pub record AreExcludedOf (book : List Packed) (p : ℕ) (x : Pair) : Type 0 where
  pub first : x.0 ≡ p
  pub apart : x.2 ≢ p
  pub other : IsExcludedBy book (offer_in book p x.1) (x.2, x.3)

-- two states of different packages, the first of which excludes the second
pub record AreExcluded (book : List Packed) (x : Pair) : Type 0 where
  pub first : x.0 < length book
  pub apart : x.0 ≢ x.2
  pub other : IsExcludedBy book (offer_in book x.0 x.1) (x.2, x.3)
