-- Chains of readings in the order of their keys.
use Rattle.std.proofs.Common.{◌≡◌, ℕ, List, [], ◌∷◌, codes, Result, Ok, Err, refl}
use Rattle.toml_view.specs.declared.refusal.Refusal.{Refusal}
use Rattle.toml_view.specs.KeyOrder.{in_key_order, verdict}
use Rattle.toml_view.specs.Reading.{chained, mapped, text_of, uuid_of, need}
use Rattle.pkg_world.specs.Path.{Path}
use Rattle.registry_tables.specs.Registry.{Registered, packages_at, path_of}
use Rattle.registry_tables.specs.RegistryKeys.{RegistryKeyOrder, PackageKeyOrder}
use Rattle.registry_tables.specs.declared.package_list.Package.{Package}

three : {A B C T : Type 0} (f : A → B → C → T) (name : Result A Refusal) (packages : Result B Refusal) (uuid : Result C Refusal)
    → chained (λ a. chained (λ b. mapped (λ c. f a b c) uuid) packages) name
    ≡ in_key_order (verdict (codes "name") name ∷ verdict (codes "uuid") uuid ∷ verdict (codes "packages") packages ∷ []) (chained (λ a. chained (λ b. mapped (λ c. f a b c) uuid) packages) name)
three f (Err r) packages uuid = refl
three f (Ok a) (Err r) uuid = refl
three f (Ok a) (Ok b) (Err r) = refl
three f (Ok a) (Ok b) (Ok c) = refl

two : {A B T : Type 0} (f : A → B → T) (name : Result A Refusal) (path : Result B Refusal)
    → chained (λ a. mapped (λ b. f a b) path) name ≡ in_key_order (verdict (codes "path") path ∷ verdict (codes "name") name ∷ []) (chained (λ a. mapped (λ b. f a b) path) name)
two f (Err r) path = refl
two f (Ok a) (Err r) = refl
two f (Ok a) (Ok b) = refl

abbrev make_registry : Path → List ℕ → List Package → List ℕ → Registered
make_registry folder name packages uuid = record { folder = folder; name = name; uuid = uuid; packages = packages }

pub registry_key_order : RegistryKeyOrder
registry_key_order folder table =
    three (make_registry folder) (need text_of (codes "name") table) (packages_at folder table) (need uuid_of (codes "uuid") table)

abbrev make_package : List ℕ → List ℕ → List ℕ → Package
make_package uuid name path = record { uuid = uuid; name = name; path = path }

pub package_key_order : PackageKeyOrder
package_key_order folder uuid table = two (make_package uuid) (need text_of (codes "name") table) (need (path_of folder) (codes "path") table)
