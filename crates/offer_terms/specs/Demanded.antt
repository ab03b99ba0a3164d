-- What is demanded of a selection, as plain lists: the room that lists set aside for more is no part of it. (Pkg,
-- Project.toml; held versions and what a fixed package is are own rules)
use Rattle.std.specs.Prelude.{ℕ, List, map, Option}
use Rattle.jl_versions.specs.declared.version.Version.{Version}
use Rattle.compat_spec.specs.declared.part.Part.{Part}
use Rattle.project_file.specs.Spelled.{Spelled}
use Rattle.manifest_file.specs.declared.origin.Origin.{Origin}
use Rattle.offer_terms.specs.Offered.{Text, Id, Exts}
use Rattle.offer_terms.specs.declared.demand.Demand.{Demand}
use Rattle.offer_terms.specs.declared.demand.SpecId.{SpecId}
use Rattle.offer_terms.specs.declared.demand.VersionPair.{VersionPair}
use Rattle.offer_terms.specs.declared.fixed.Fixed.{Fixed}

-- a package whose one version is given, as by a folder or a repository
pub record FixedSaid : Type 0 where
  pub uuid : Id
  pub name : Text
  pub version : Version
  pub deps : List (Text × Id)
  pub weak : List (Text × Id)
  pub compat : List (Text × Spelled)
  pub origin : Origin
  pub extensions : Exts

abbrev pub fixed_said : Fixed → FixedSaid
fixed_said it = record {
  uuid = it.uuid;
  name = it.name;
  version = it.version;
  deps = it.deps.items;
  weak = it.weak.items;
  compat = it.compat.items;
  origin = it.origin;
  extensions = it.extensions.items;
}

-- the roots by their names, the project's own identifier, its compat, the pinned and the held versions, the fixed
-- packages, and Julia's version
pub record Wanted : Type 0 where
  pub roots : List (Text × Id)
  pub own : Option Id
  pub compat : List (Id × List Part)
  pub pins : List (Id × Version)
  pub held : List (Id × Version)
  pub fixed : List FixedSaid
  pub julia : List ℕ

abbrev pub spec_entry : SpecId → Id × List Part
spec_entry entry = (entry.uuid, entry.spec)

abbrev pub version_entry : VersionPair → Id × Version
version_entry pair = (pair.uuid, pair.version)

abbrev pub wanted : Demand → Wanted
wanted demand = record {
  roots = demand.roots.items;
  own = demand.own;
  compat = map spec_entry demand.compat.items;
  pins = map version_entry demand.pins.items;
  held = map version_entry demand.held.items;
  fixed = map fixed_said demand.fixed.items;
  julia = demand.julia;
}
