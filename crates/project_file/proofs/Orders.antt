-- The readings in the order of the keys' bytes give what the definitions say.
use Rattle.std.proofs.Common.{◌≡◌, ℕ, List, [], ◌∷◌, codes, Option, None, Result, Ok, Err, refl}
use Rattle.toml.specs.Data.{Members}
use Rattle.toml_view.specs.declared.refusal.Refusal.{Refusal}
use Rattle.toml_view.specs.KeyOrder.{in_key_order, verdict}
use Rattle.toml_view.specs.Reading.{chained}
use Rattle.jl_versions.specs.declared.version.Version.{Version}
use Rattle.project_file.specs.declared.source.Source.{Source}
use Rattle.project_file.specs.Spelled.{Spelled}
use Rattle.project_file.specs.Places.{read_or, text_in, source_from, placed_source}
use Rattle.project_file.specs.Keys.{unnamed}
use Rattle.project_file.specs.Projects.{project_of, uuid_in, version_in, ids_in, extensions_in, compat_in, sources_in}
use Rattle.project_file.specs.Chain.{source_chain, fronts, middles, backs, front_of, middle_of, back_of, in_turn, project_chain}

four : {A B C D T : Type 0} (f : A → B → C → D → Result T Refusal) (path : Result A Refusal) (url : Result B Refusal) (rev : Result C Refusal) (subdir : Result D Refusal)
    (no_path : A) (no_url : B) (no_rev : C) (no_subdir : D)
    → chained (λ p. chained (λ r. chained (λ s. chained (λ u. f p u r s) url) subdir) rev) path
    ≡ in_key_order (verdict (codes "path") path ∷ verdict (codes "url") url ∷ verdict (codes "rev") rev ∷ verdict (codes "subdir") subdir ∷ [])
    (f (read_or no_path path) (read_or no_url url) (read_or no_rev rev) (read_or no_subdir subdir))
four f (Err r) url rev subdir np nu nr ns = refl
four f (Ok p) url (Err r) subdir np nu nr ns = refl
four f (Ok p) url (Ok r) (Err e) np nu nr ns = refl
four f (Ok p) (Err e) (Ok r) (Ok s) np nu nr ns = refl
four f (Ok p) (Ok u) (Ok r) (Ok s) np nu nr ns = refl

pub source_in_order : (members : Members) → source_chain members ≡ placed_source members
unfolding source_chain
source_in_order members =
    four source_from (text_in (codes "path") members) (text_in (codes "url") members) (text_in (codes "rev") members) (text_in (codes "subdir") members) None None None None

-- ten keys in three parts, in the order of their bytes
ten : (compat : Result (List (List ℕ × Spelled)) Refusal) (deps : Result (List (List ℕ × List ℕ)) Refusal) (extensions : Result (List (List ℕ × List (List ℕ))) Refusal)
    (extras : Result (List (List ℕ × List ℕ)) Refusal) (manifest name : Result (Option (List ℕ)) Refusal) (sources : Result (List (List ℕ × Source)) Refusal)
    (uuid : Result (Option (List ℕ)) Refusal) (version : Result (Option Version) Refusal) (weakdeps : Result (List (List ℕ × List ℕ)) Refusal) (rest : Members)
    → in_turn (fronts compat deps extensions extras) (middles manifest name sources) (backs uuid version weakdeps) rest
    ≡ in_key_order (
    verdict (codes "name") name ∷ verdict (codes "uuid") uuid ∷ verdict (codes "version") version ∷ verdict (codes "deps") deps ∷ verdict (codes "weakdeps") weakdeps
    ∷ verdict (codes "extensions") extensions ∷ verdict (codes "compat") compat ∷ verdict (codes "extras") extras ∷ verdict (codes "sources") sources
    ∷ verdict (codes "manifest") manifest ∷ [])
    (Ok (record {
      name = read_or None name;
      uuid = read_or None uuid;
      version = read_or None version;
      deps = read_or [] deps;
      weakdeps = read_or [] weakdeps;
      extensions = read_or [] extensions;
      compat = read_or [] compat;
      extras = read_or [] extras;
      sources = read_or [] sources;
      manifest = read_or None manifest;
      rest = rest;
    }))
ten (Err r) b c d e g h i j k rest = refl
ten (Ok a) (Err r) c d e g h i j k rest = refl
ten (Ok a) (Ok b) (Err r) d e g h i j k rest = refl
ten (Ok a) (Ok b) (Ok c) (Err r) e g h i j k rest = refl
ten (Ok a) (Ok b) (Ok c) (Ok d) (Err r) g h i j k rest = refl
ten (Ok a) (Ok b) (Ok c) (Ok d) (Ok e) (Err r) h i j k rest = refl
ten (Ok a) (Ok b) (Ok c) (Ok d) (Ok e) (Ok g) (Err r) i j k rest = refl
ten (Ok a) (Ok b) (Ok c) (Ok d) (Ok e) (Ok g) (Ok h) (Err r) j k rest = refl
ten (Ok a) (Ok b) (Ok c) (Ok d) (Ok e) (Ok g) (Ok h) (Ok i) (Err r) k rest = refl
ten (Ok a) (Ok b) (Ok c) (Ok d) (Ok e) (Ok g) (Ok h) (Ok i) (Ok j) (Err r) rest = refl
ten (Ok a) (Ok b) (Ok c) (Ok d) (Ok e) (Ok g) (Ok h) (Ok i) (Ok j) (Ok k) rest = refl

pub project_in_order : (members : Members) → project_chain members ≡ project_of members
unfolding project_chain front_of middle_of back_of project_of
project_in_order members =
    ten (compat_in members) (ids_in (codes "deps") members) (extensions_in members) (ids_in (codes "extras") members) (text_in (codes "manifest") members)
    (text_in (codes "name") members) (sources_in members) (uuid_in members) (version_in members) (ids_in (codes "weakdeps") members) (unnamed members)
