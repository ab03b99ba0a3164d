-- What one entry of a list breaks: the package that it names, where it does; and the first of the packages that a list's
-- entries name so.
use Rattle.std.specs.Prelude.{ℕ, Bool, false, not, if◌then◌else◌, ◌&&◌, ◌||◌, List, [], Option, Some, None, is_some, fold}
use Rattle.std.specs.Ordering.{eq_by_cmp}
use Rattle.std.specs.Str.{bytes_eq}
use Rattle.jl_versions.specs.Order.{version_cmp}
use Rattle.jl_versions.specs.Triple.{triple_of}
use Rattle.jl_versions.specs.declared.version.Version.{Version}
use Rattle.compat_spec.specs.declared.part.Part.{Part}
use Rattle.compat_spec.specs.Meaning.{specifier_holds}
use Rattle.package_tables.specs.Row.{julia_id}
use Rattle.offer_terms.specs.Offered.{Text, Id, Allows, allows_holds, Offering, Selected, version_in}
use Rattle.offer_terms.specs.Booked.{Packed, number_of}
use Rattle.selection_check.specs.Order.{first_id}

-- the selected version passes a test
abbrev pub some_and : (Version → Bool) → Option Version → Bool
some_and test None = false
some_and test (Some v) = test v

-- what a selected offer depends on, and what it allows; nothing where there is none
abbrev pub deps_in : Option Offering → List (Text × Id)
deps_in None = []
deps_in (Some x) = x.deps

abbrev pub compat_in : Option Offering → List (Id × Allows)
compat_in None = []
compat_in (Some x) = x.compat

-- a root, where it isn't selected
abbrev pub lacking : Selected → Id → Option Id
lacking s u = if is_some (version_in s u) then None else Some u

-- a dependency of u on another package, where it isn't selected
abbrev pub lacking_other : Selected → Id → Id → Option Id
lacking_other s u d = if bytes_eq d u then None else lacking s d

-- an identifier that the book doesn't hold
abbrev pub unheld : List Packed → Id → Option Id
unheld book u = if is_some (number_of book u) then None else Some u

-- an entry that doesn't allow what is selected
abbrev pub outside_spec : Selected → Id × List Part → Option Id
outside_spec s e = if some_and (λ v. not (specifier_holds e.1 (triple_of v))) (version_in s e.0) then Some e.0 else None

abbrev pub refuses_julia : List ℕ → Id × Allows → Bool
refuses_julia julia e = bytes_eq e.0 julia_id && not (allows_holds e.1 julia)

abbrev pub refuses_other : Selected → Id → Id × Allows → Bool
refuses_other s u e = not (bytes_eq e.0 u) && some_and (λ v. not (allows_holds e.1 (triple_of v))) (version_in s e.0)

abbrev pub outside_entry : List ℕ → Selected → Id → Id × Allows → Option Id
outside_entry julia s u e = if refuses_julia julia e || refuses_other s u e then Some e.0 else None

-- a package that is selected at another version
abbrev pub off_pin : Selected → Id × Version → Option Id
off_pin s p = if some_and (λ v. not (eq_by_cmp version_cmp v p.1)) (version_in s p.0) then Some p.0 else None

-- ---- the first of what the entries of a list name

abbrev pub first_named : {X : Type 0} → List Packed → (X → Option Id) → List X → Option Id
first_named book name xs = fold (λ first x. first_id book first (name x)) None xs

abbrev pub first_lacking : List Packed → Selected → List (Text × Id) → Option Id
first_lacking book s roots = first_named book (λ r. lacking s r.1) roots

abbrev pub first_unheld : List Packed → Selected → Option Id
first_unheld book s = first_named book (λ e. unheld book e.0) s

abbrev pub first_lacking_other : List Packed → Selected → Id → List (Text × Id) → Option Id
first_lacking_other book s u deps = first_named book (λ d. lacking_other s u d.1) deps

abbrev pub first_outside_spec : List Packed → Selected → List (Id × List Part) → Option Id
first_outside_spec book s entries = first_named book (outside_spec s) entries

abbrev pub first_outside : List Packed → List ℕ → Selected → Id → List (Id × Allows) → Option Id
first_outside book julia s u entries = first_named book (outside_entry julia s u) entries

abbrev pub first_off_pin : List Packed → Selected → List (Id × Version) → Option Id
first_off_pin book s pins = first_named book (off_pin s) pins
