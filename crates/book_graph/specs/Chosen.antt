-- Which selection the states of a book's packages choose, and which states a selection says. (own rule)
use Rattle.std.specs.Prelude.{◌≡◌, ℕ, List, length, map, Option, Some, None, slice_index, option_map, if◌then◌else◌}
use Rattle.std.specs.List.{position_or_len}
use Rattle.std.specs.Map.{keys_of}
use Rattle.std.specs.Option.{option_and_then}
use Rattle.std.specs.Str.{bytes_eq}
use Rattle.jl_versions.specs.declared.version.Version.{Version}
use Rattle.offer_terms.specs.ById.{AreRising}
use Rattle.offer_terms.specs.Offered.{Id, Offering, Selected, version_in, is_of}
use Rattle.offer_terms.specs.Booked.{Packed, number_of}
use Rattle.book_graph.specs.StandsFor.{offer_in}

-- the version in the state that is chosen of package p; none where that is its absent state
abbrev pub version_of : List Packed → List ℕ → ℕ → Option Version
version_of book chosen p = option_map (λ x. x.version) (offer_in book p (slice_index chosen p))

-- the version that is chosen of a package; none of a package that the book doesn't hold
abbrev pub chosen_version : List Packed → List ℕ → Id → Option Version
chosen_version book chosen u = option_and_then (version_of book chosen) (number_of book u)

-- the selection has what the states choose
pub record IsSelectionOf (book : List Packed) (chosen : List ℕ) (s : Selected) : Type 0 where
  pub once : AreRising (keys_of s)
  pub each : (u : Id) → version_in s u ≡ chosen_version book chosen u

-- the place of a version among offers, or behind them where it isn't there
abbrev pub state_of : List Offering → Option Version → ℕ
state_of offers None = length offers
state_of offers (Some v) = position_or_len (is_of v) offers

-- for each package of the book the state that a selection says of it
abbrev pub states_of : List Packed → Selected → List ℕ
states_of book s = map (λ it. state_of it.offers (version_in s it.uuid)) book

-- the one version where there is one, else the other
abbrev pub or_else : Option Version → Option Version → Option Version
or_else None other = other
or_else (Some v) other = Some v

-- the package has that version, if there is one, and the others have what they had
abbrev pub Puts : Id → Option Version → Selected → Selected → Type 0
Puts u found old new = (t : Id) → version_in new t ≡ (if bytes_eq t u then or_else found (version_in old t) else version_in old t)
