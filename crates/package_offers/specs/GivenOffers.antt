-- The one offer of a package whose version is given: of a fixed package, or of a standard library (Pkg, developed packages and
-- standard libraries; which entries count is an own rule). A name in both kinds of dependency is weak, and Julia and the
-- project's own package are no dependencies.
--     given_offering own it          of a fixed package
--     library_offering own it        of a standard library
use Rattle.std.specs.Prelude.{Bool, ◌&&◌, List, [], filter, Option, option_map}
use Rattle.std.specs.List.{filter_map}
use Rattle.manifest_file.specs.declared.origin.Origin.TheVariants.{Std}
use Rattle.package_tables.specs.Row.{value_of, is_absent, is_package}
use Rattle.project_file.specs.Spelled.{Spelled}
use Rattle.standard_libraries.specs.SaidLibrary.{SaidLibrary}
use Rattle.offer_terms.specs.Offered.{Text, Id, Allows, of_parts, Offering}
use Rattle.offer_terms.specs.Demanded.{FixedSaid}
use Rattle.package_offers.specs.RegistryOffers.{is_other, compat_on}

-- a package that may be depended on: neither Julia nor the project's own
abbrev pub may_be_needed : Option Id → Id → Bool
may_be_needed own id = is_package id && is_other own id

-- the dependencies that aren't weak
abbrev pub strong_deps : Option Id → List (Text × Id) → List (Text × Id) → List (Text × Id)
strong_deps own weak deps = filter (λ p. is_absent (value_of p.0 weak) && may_be_needed own p.1) deps

abbrev pub weak_deps : Option Id → List (Text × Id) → List (Text × Id)
weak_deps own weak = filter (λ p. may_be_needed own p.1) weak

-- compat of a project file by identifiers; on any other name it is ignored
abbrev pub spec_entry : List (Text × Id) → List (Text × Id) → Text × Spelled → Option (Id × Allows)
spec_entry deps weak entry = option_map (λ id. (id, of_parts entry.1.parts)) (compat_on deps weak entry.0)

abbrev pub spec_compat : List (Text × Id) → List (Text × Id) → List (Text × Spelled) → List (Id × Allows)
spec_compat deps weak entries = filter_map (spec_entry deps weak) entries

abbrev pub given_with : FixedSaid → List (Text × Id) → List (Text × Id) → Offering
given_with it deps weak = record {
  version = it.version;
  deps = deps;
  weak = weak;
  compat = spec_compat deps weak it.compat;
  origin = it.origin;
  extensions = it.extensions;
}

-- what is offered of a fixed package
abbrev pub given_offering : Option Id → FixedSaid → Offering
given_offering own it = given_with it (strong_deps own it.weak it.deps) (weak_deps own it.weak)

-- a standard library allows every version of what it needs
abbrev pub as_given : SaidLibrary → FixedSaid
as_given it = record {
  uuid = it.uuid;
  name = it.name;
  version = it.version;
  deps = it.deps;
  weak = it.weak;
  compat = [];
  origin = Std;
  extensions = it.extensions;
}

-- what is offered of a standard library
abbrev pub library_offering : Option Id → SaidLibrary → Offering
library_offering own it = given_offering own (as_given it)
