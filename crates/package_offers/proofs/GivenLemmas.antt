-- The parts of the one offer of a package whose version is given.
use Rattle.std.proofs.Common.{◌≡◌, List, Option, ap, ◌∙◌}
use Rattle.project_file.specs.Spelled.{Spelled}
use Rattle.offer_terms.specs.Offered.{Text, Id, Allows, Offering}
use Rattle.offer_terms.specs.Demanded.{FixedSaid}
use Rattle.package_offers.specs.GivenOffers.{strong_deps, weak_deps, spec_compat, given_offering}

module _ (own : Option Id) (it : FixedSaid) (weak_list deps_list : List (Text × Id)) (compat_list : List (Text × Spelled)) (deps weak : List (Text × Id)) (compat : List (Id × Allows)) where
  pub given-same : weak_list ≡ it.weak → deps_list ≡ it.deps → compat_list ≡ it.compat
      → deps ≡ strong_deps own weak_list deps_list → weak ≡ weak_deps own weak_list → compat ≡ spec_compat deps weak compat_list
      → ◌≡◌ {A = Offering} (record { version = it.version; deps = deps; weak = weak; compat = compat; origin = it.origin; extensions = it.extensions }) (given_offering own it)
  given-same weak_is deps_is compat_is deps_made weak_made compat_made =
      let deps_same : deps ≡ strong_deps own it.weak it.deps = deps_made ∙ (λ i. strong_deps own (weak_is i) (deps_is i)) in
      let weak_same : weak ≡ weak_deps own it.weak = weak_made ∙ ap (weak_deps own) weak_is in
      let compat_same : compat ≡ spec_compat (strong_deps own it.weak it.deps) (weak_deps own it.weak) it.compat =
      compat_made ∙ (λ i. spec_compat (deps_same i) (weak_same i) (compat_is i)) in
      λ i. record { version = it.version; deps = deps_same i; weak = weak_same i; compat = compat_same i; origin = it.origin; extensions = it.extensions }
