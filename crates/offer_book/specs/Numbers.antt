-- The packages of a book and their numbers (own rule): the roots by their names, then the extra packages, then, package by
-- package in the order of the numbers and offer by offer, each new dependency by its name. Weak dependencies lead nowhere.
--     firsts list                the packages of a list of names and identifiers, each where it stands first
--     walk read n reached        the packages that are reached once up to n more of them were read, in the order of their numbers
-- `read` says what the source of a package says.
use Rattle.std.specs.Prelude.{ℕ, zero, suc, Bool, List, [], ◌∷◌, ◌++◌, map, fold, slice_get, length, Option, Some, None, is_some, true, if◌then◌else◌, Ok}
use Rattle.std.specs.List.{flat_map}
use Rattle.std.specs.Map.{lookup}
use Rattle.std.specs.Str.{bytes_eq}
use Rattle.pkg_world.specs.Each.{then_ok}
use Rattle.registry_tables.specs.Answers.{Read}
use Rattle.offer_terms.specs.Offered.{Text, Id, Offering}
use Rattle.offer_terms.specs.Booked.{Packed, unread}
use Rattle.offer_book.specs.Scope.{Scope}
use Rattle.offer_book.specs.AllOffers.{Found}

-- the packages that were mentioned, each with the name by which it was mentioned first
abbrev pub Mentions : Type 0
Mentions = List (Id × Text)

abbrev pub is_mentioned : Mentions → Id → Bool
is_mentioned mentions u = is_some (lookup (bytes_eq u) mentions)

-- one more at the end, unless it is there
abbrev pub mention : Mentions → Text × Id → Mentions
mention mentions d = if is_mentioned mentions d.1 then mentions else mentions ++ (d.1, d.0) ∷ []

abbrev pub mention_all : Mentions → List (Text × Id) → Mentions
mention_all mentions list = fold mention mentions list

abbrev pub firsts : List (Text × Id) → Mentions
firsts list = mention_all [] list

-- an extra package has no name but the one of its source
abbrev pub unnamed : Id → Text × Id
unnamed u = ([], u)

-- the packages that a book begins with
abbrev pub start : Scope → List Id → List (Text × Id)
start scope extra = scope.roots ++ map unnamed extra

-- what offers lead to
abbrev pub deps_offered : List Offering → List (Text × Id)
deps_offered offers = flat_map (λ x. x.deps) offers

-- the packages that were mentioned, and of those that were read what their sources say, in the order of the numbers
pub record Reached : Type 0 where
  pub mentions : Mentions
  pub book : List Packed

-- a package without a source keeps the name by which it was mentioned; any other has the name of its source
abbrev pub packed_as : Id × Text → Option Found → Packed
packed_as m None = unread m.0 m.1
packed_as m (Some found) = record { uuid = m.0; name = found.name; has_source = true; offers = found.offers }

-- one more package that was read
abbrev pub with_package : Reached → Packed → Reached
with_package reached it = record { mentions = mention_all reached.mentions (deps_offered it.offers); book = reached.book ++ it ∷ [] }

abbrev pub read_next : (Id → Read (Option Found)) → Reached → Option (Id × Text) → Read Reached
read_next read reached None = Ok reached
read_next read reached (Some m) = then_ok (read m.0) (λ found. Ok (with_package reached (packed_as m found)))

-- the package of the next number is read, where there is one
abbrev pub step : (Id → Read (Option Found)) → Reached → Read Reached
step read reached = read_next read reached (slice_get reached.mentions (length reached.book))

abbrev pub walk : (Id → Read (Option Found)) → ℕ → Reached → Read Reached
walk read zero reached = Ok reached
walk read (suc n) reached = then_ok (step read reached) (walk read n)

abbrev pub begun : Scope → List Id → Reached
begun scope extra = record { mentions = firsts (start scope extra); book = [] }
