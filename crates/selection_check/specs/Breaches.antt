-- How a selection breaks what a demand asks of it, clause by clause, with the packages at which it does. (Pkg,
-- Compatibility; pins and held versions are own rules)
use Rattle.std.specs.Prelude.{◌≡◌, ◌≢◌, ◌⊎◌, ℕ, false, List, ◌++◌, Option, Some, None, Contains}
use Rattle.jl_versions.specs.Triple.{triple_of}
use Rattle.jl_versions.specs.declared.version.Version.{Version}
use Rattle.compat_spec.specs.declared.part.Part.{Part}
use Rattle.compat_spec.specs.Meaning.{specifier_holds}
use Rattle.package_tables.specs.Row.{julia_id}
use Rattle.offer_terms.specs.Offered.{Text, Id, Allows, allows_holds, Offering, Offers, Selected, version_in, offer_at, taken}
use Rattle.offer_terms.specs.Demanded.{Wanted}
use Rattle.offer_terms.specs.Feasible.{IsNeeded}

-- a root that isn't selected
pub record LacksRoot (w : Wanted) (s : Selected) (u : Id) : Type 0 where
  pub name : Text
  pub root : Contains w.roots (name, u)
  pub missing : version_in s u ≡ None

-- a selected package that isn't offered at its version
pub record LacksOffer (o : Offers) (s : Selected) (u : Id) : Type 0 where
  pub version : Version
  pub selected : version_in s u ≡ Some version
  pub missing : offer_at o u version ≡ None

-- an offer of u that depends on another package, which isn't selected
pub record OfferLacks (s : Selected) (u : Id) (offer : Offering) (d : Id) : Type 0 where
  pub name : Text
  pub dependency : Contains offer.deps (name, d)
  pub other : d ≢ u
  pub missing : version_in s d ≡ None

-- the selected offer of u does so
pub record LacksDep (o : Offers) (s : Selected) (u d : Id) : Type 0 where
  pub offer : Offering
  pub selected : taken o s u ≡ Some offer
  pub lacks : OfferLacks s u offer d

-- the selected version of d is none of those that are allowed
pub record IsSelectedOutside (s : Selected) (allowed : Allows) (d : Id) : Type 0 where
  pub version : Version
  pub selected : version_in s d ≡ Some version
  pub outside : allows_holds allowed (triple_of version) ≡ false

-- what is allowed of d by u's compat, which stands on dependencies and weak dependencies alike, doesn't allow the selected
-- version of d, or Julia's version
abbrev pub IsOutside : List ℕ → Selected → Id → Allows → Id → Type 0
IsOutside julia s u allowed d =
    ((d ≢ u) × IsSelectedOutside s allowed d)
    ⊎ ((d ≡ julia_id) × (allows_holds allowed julia ≡ false))

-- an offer of u with such an entry of compat
pub record OfferExcludes (julia : List ℕ) (s : Selected) (u : Id) (offer : Offering) (d : Id) : Type 0 where
  pub allowed : Allows
  pub entry : Contains offer.compat (d, allowed)
  pub outside : IsOutside julia s u allowed d

-- the selected offer of u is such a one
pub record Excludes (o : Offers) (julia : List ℕ) (s : Selected) (u d : Id) : Type 0 where
  pub offer : Offering
  pub selected : taken o s u ≡ Some offer
  pub excludes : OfferExcludes julia s u offer d

-- an entry of the project's compat that doesn't allow the selected version of d
pub record ProjectExcludes (w : Wanted) (s : Selected) (d : Id) : Type 0 where
  pub parts : List Part
  pub version : Version
  pub entry : Contains w.compat (d, parts)
  pub selected : version_in s d ≡ Some version
  pub outside : specifier_holds parts (triple_of version) ≡ false

-- d is outside what a package, or the project, allows
abbrev pub HasOutside : Offers → Wanted → Selected → Option Id × Id → Type 0
HasOutside o w s (None, d) = ProjectExcludes w s d
HasOutside o w s (Some u, d) = Excludes o w.julia s u d

-- a selected package that is pinned or held at another version
pub record BreaksPin (w : Wanted) (s : Selected) (u : Id) : Type 0 where
  pub pin : Version
  pub version : Version
  pub pinned : Contains (w.pins ++ w.held) (u, pin)
  pub selected : version_in s u ≡ Some version
  pub differs : version ≢ pin

-- a selected package that isn't needed
pub record IsSpare (o : Offers) (w : Wanted) (s : Selected) (u : Id) : Type 0 where
  pub version : Version
  pub selected : version_in s u ≡ Some version
  pub unneeded : IsNeeded o w s u → ⊥
