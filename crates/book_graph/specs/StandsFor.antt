-- The instance that stands for a book and a demand. Its packages are those of the book, by their numbers. The states of a
-- package are its offers in rising order of versions, and last that it is absent. A state is forbidden alone where the demand
-- or Julia's version shuts it, and two states are forbidden together where what the one needs or allows excludes the other.
-- (own rule, after Pkg, Compatibility)
--     offer_in b p i    what is offered of package p in its state i; nothing in its last state
--     Shuts w u x       the state with this offer of u, or without one, is forbidden alone
--     Excludes x t y    the state with the offer x is forbidden with that of the package t with the offer y, or without one
use Rattle.std.specs.Prelude.{◌≡◌, ◌≢◌, ◌↔◌, ◌⊎◌, ℕ, ◌+◌, ◌<◌, Bool, true, false, List, ◌++◌, length, map, Option, Some, None, is_some, Contains, slice_get}
use Rattle.std.specs.List.{IsDistinct}
use Rattle.std.specs.List.Sorted.{IsStrictlySortedBy}
use Rattle.std.specs.Str.{bytes_eq}
use Rattle.jl_versions.specs.Order.{version_cmp}
use Rattle.jl_versions.specs.Triple.{triple_of}
use Rattle.jl_versions.specs.declared.version.Version.{Version}
use Rattle.compat_spec.specs.declared.part.Part.{Part}
use Rattle.compat_spec.specs.Meaning.{specifier_holds}
use Rattle.package_tables.specs.Row.{julia_id}
use Rattle.offer_terms.specs.Offered.{Text, Id, Allows, allows_holds, Offering}
use Rattle.offer_terms.specs.Booked.{Packed, package_at, ids_of, number_of, book_offers}
use Rattle.offer_terms.specs.Demanded.{Wanted}
use Rattle.offer_terms.specs.Laws.{IsClosedSet}
use Rattle.version_graph.specs.Graph.{Graph, packages, states, is_barred, is_forbidden}

abbrev pub id_of : List Packed → ℕ → Id
id_of book p = (package_at book p).uuid

abbrev pub offer_in : List Packed → ℕ → ℕ → Option Offering
offer_in book p i = slice_get (package_at book p).offers i

-- how many states a package has, and how many each package of a book has
abbrev pub state_count : Packed → ℕ
state_count it = length it.offers + 1

abbrev pub sizes_of : List Packed → List ℕ
sizes_of book = map state_count book

-- a root of the demand
pub record IsRoot (w : Wanted) (u : Id) : Type 0 where
  pub name : Text
  pub there : Contains w.roots (name, u)

-- the offer's entry on Julia doesn't hold Julia's version, the project's compat on the package doesn't hold the offer's
-- version, or the package is pinned or held at another version
pub data ShutsOffer (w : Wanted) (u : Id) (x : Offering) : Type 0 where
  at_julia : (entry : Allows) → Contains x.compat (julia_id, entry) → allows_holds entry w.julia ≡ false → ShutsOffer w u x
  at_project : (parts : List Part) → Contains w.compat (u, parts) → specifier_holds parts (triple_of x.version) ≡ false → ShutsOffer w u x
  at_pin : (pin : Version) → Contains (w.pins ++ w.held) (u, pin) → x.version ≢ pin → ShutsOffer w u x

-- a root can't be absent
abbrev pub Shuts : Wanted → Id → Option Offering → Type 0
Shuts w u None = IsRoot w u
Shuts w u (Some x) = ShutsOffer w u x

-- the offer depends on the package
pub record Depends (x : Offering) (t : Id) : Type 0 where
  pub name : Text
  pub there : Contains x.deps (name, t)

-- an entry of the offer's compat on the package, be it a dependency or a weak dependency, doesn't hold the version
pub record IsOutside (x : Offering) (t : Id) (v : Version) : Type 0 where
  pub entry : Allows
  pub there : Contains x.compat (t, entry)
  pub outside : allows_holds entry (triple_of v) ≡ false

-- an offer excludes that a dependency is absent, and versions outside its compat
abbrev pub Excludes : Option Offering → Id → Option Offering → Type 0
Excludes None t y = ⊥
Excludes (Some x) t None = Depends x t
Excludes (Some x) t (Some y) = IsOutside x t y.version

pub record StandsFor (book : List Packed) (w : Wanted) (g : Graph) : Type 0 where
  pub each : packages g ≡ length book
  pub wide : (p : ℕ) → p < length book → states g p ≡ state_count (package_at book p)
  pub barred : (p i : ℕ) → p < length book → i < state_count (package_at book p) →
      (is_barred g p i ≡ true) ↔ Shuts w (id_of book p) (offer_in book p i)
  pub forbidden : (p i q j : ℕ) → p < length book → i < state_count (package_at book p) → q < length book → j < state_count (package_at book q) → p ≢ q →
      (is_forbidden g p i q j ≡ true) ↔ (Excludes (offer_in book p i) (id_of book q) (offer_in book q j) ⊎ Excludes (offer_in book q j) (id_of book p) (offer_in book p i))

-- ---- what a book and a demand are to each other

-- each package once, and its offers in strictly rising order of versions
pub record IsBook (book : List Packed) : Type 0 where
  pub once : IsDistinct bytes_eq (ids_of book)
  pub rising : (p : ℕ) → p < length book → IsStrictlySortedBy version_cmp (map (λ x. x.version) (package_at book p).offers)

abbrev pub is_held : List Packed → Id → Bool
is_held book u = is_some (number_of book u)

-- the book holds the roots of the demand, and all that its offers depend on; so does one that was gathered for the demand
abbrev pub Covers : List Packed → Wanted → Type 0
Covers book w = IsClosedSet (book_offers book) w (is_held book)
