-- The parts of an offer.
use Rattle.std.proofs.Common.{◌≡◌, ℕ, Bool, true, false, cond, not, ◌||◌, List, [], ◌∷◌, map, filter, Option, Some, None, option_map, Result, Ok, Err, IfOk, OnOk, ◌++◌, refl, sym, ap, subst, ◌∙◌}
use Rattle.std.proofs.lemmas.List.Elements.{All-append, All-cons, All-nil}
use Rattle.std.specs.List.{list_any, filter_map, cons_option, AllByRecursion}
use Rattle.std.specs.List.Sorted.{IsStrictlySortedBy}
use Rattle.std.specs.Map.{keys_of, values_of}
use Rattle.std.specs.Str.{bytes_eq}
use Rattle.std.specs.declared.cmp.Ordering.{Ordering}
use Rattle.std.specs.declared.cmp.Ordering.TheVariants.{Less}
use Rattle.jl_versions.specs.Order.{version_cmp}
use Rattle.jl_versions.specs.declared.version.Version.{Version}
use Rattle.compat_spec.specs.Ranges.{Ranged}
use Rattle.compat_spec.specs.declared.allowed.Allowed.{Allowed}
use Rattle.compat_spec.specs.declared.allowed.Allowed.TheVariants as kinds
use Rattle.manifest_file.specs.declared.origin.Origin.TheVariants.{Tree}
use Rattle.pkg_world.specs.Listing.{Listing}
use Rattle.package_tables.specs.Row.{allowed_in, some_ranges}
use Rattle.package_tables.specs.declared.expanding.Row.{Row}
use Rattle.package_tables.specs.declared.package_rows.VersionRow.{VersionRow}
use Rattle.offer_terms.specs.Offered.{Text, Id, Allows, allows, of_ranges, Offering, offering}
use Rattle.offer_terms.specs.Kept.{AreNumbered, DoRise}
use Rattle.offer_terms.specs.declared.offer.Offer.{Offer}
use Rattle.registry_tables.specs.Rows.{Rows}
use Rattle.registered_offers.specs.Merged.{ListedVersion, ListedVersions, merged}
use Rattle.package_offers.specs.RegistryOffers.{others, compat_on, compat_entry, compat_ids, made_entry, made_compat, is_offered, pinned_of, extensions_of, offering_of, registry_offers, OffersRise}
use Rattle.registered_offers.specs.SaidRow.{deps_of, weak_of, compat_of, IsRowOf}
use Rattle.package_offers.specs.TreeExts.{TreeExts}
use Rattle.registered_offers.proofs.MergedLemmas.{versions-rise, rows-are-of-their-versions}

-- ---- the project's own package

pub others-none : (ids : List (Text × Id)) → others None ids ≡ ids
others-none [] = refl
others-none (p ∷ ps) = ap (λ t. p ∷ t) (others-none ps)

pub others-kept : (own : Id) (ids : List (Text × Id)) → list_any (λ p. bytes_eq own p.1) ids ≡ false → filter (λ p. not (bytes_eq own p.1)) ids ≡ ids
others-kept own [] none = refl
others-kept own (p ∷ ps) none =
    elim (bytes_eq own p.1) as (λ b. (b || list_any (λ q. bytes_eq own q.1) ps) ≡ false → cond (not b) (p ∷ filter (λ q. not (bytes_eq own q.1)) ps) (filter (λ q. not (bytes_eq own q.1)) ps) ≡ p ∷ ps) [
      | true ↦ λ wrong. cc
      | false ↦ λ more. ap (λ t. p ∷ t) (others-kept own ps more)
    ] none

-- ---- compat

no_ranges : (ranges : List Ranged) → None ≡ Some ranges → ⊥
no_ranges ranges wrong = cc

same_ranges : (xs ys : List Ranged) → Some xs ≡ Some ys → xs ≡ ys
same_ranges xs ys same = cc

same_allows : (name other : Text) (allowed : Allowed) (ranges : List Ranged) → allowed_in (name, allowed) ≡ some_ranges (other, ranges)
    → (name ≡ other) × (allows allowed ≡ of_ranges ranges)
same_allows name other (kinds.Spec parts) ranges same = absurd (no_ranges ranges (ap (λ p. p.1) same))
same_allows name other (kinds.Ranges set) ranges same = (ap (λ p. p.0) same, ap of_ranges (same_ranges set.items ranges (ap (λ p. p.1) same)))

made-same : (deps weak : List (Text × Id)) (made : List (Text × Allowed)) (said : List (Text × List Ranged)) → map allowed_in made ≡ map some_ranges said
    → made_compat deps weak made ≡ compat_ids deps weak said
made-same deps weak [] [] same = refl
made-same deps weak [] (s ∷ ss) same = cc
made-same deps weak (m ∷ ms) [] same = cc
made-same deps weak (m ∷ ms) (s ∷ ss) same =
    let first : allowed_in m ≡ some_ranges s = cc in
    let more : map allowed_in ms ≡ map some_ranges ss = cc in
    let (name, ranges) = same_allows m.0 s.0 m.1 s.1 first in
    let one : made_entry deps weak m ≡ compat_entry deps weak s = λ i. option_map (λ id. (id, ranges i)) (compat_on deps weak (name i)) in
    ap (λ o. cons_option o (made_compat deps weak ms)) one ∙ ap (cons_option (compat_entry deps weak s)) (made-same deps weak ms ss more)

compat-made : (deps weak : List (Text × Id)) (made : List (Text × Allowed)) (said : List (Text × List Ranged)) → map allowed_in made ≡ map some_ranges said
    → made_compat deps weak made ≡ compat_ids deps weak said
compat-made deps weak made said same = made-same deps weak made said same

-- ---- the order of versions

below_filter : {K X : Type 0} (P : K → Type 0) (p : X → Bool) (es : List (K × X)) → AllByRecursion P (keys_of es) → AllByRecursion P (keys_of (filter (λ e. p e.1) es))
below_filter P p [] all = tt
below_filter P p (e ∷ es) all =
    let rest = below_filter P p es all.1 in
    elim (p e.1) as (λ b. AllByRecursion P (keys_of (cond b (e ∷ filter (λ e. p e.1) es) (filter (λ e. p e.1) es)))) [ true ↦ (all.0, rest) | false ↦ rest ]

sorted_filter : {K X : Type 0} (cmp : K → K → Ordering) (p : X → Bool) (es : List (K × X)) → IsStrictlySortedBy cmp (keys_of es) → IsStrictlySortedBy cmp (keys_of (filter (λ e. p e.1) es))
unfolding IsStrictlySortedBy
sorted_filter cmp p [] rise = tt
sorted_filter cmp p (e ∷ es) rise =
    let rest = sorted_filter cmp p es rise.1 in
    let below = below_filter (λ y. cmp e.0 y ≡ Less) p es rise.0 in
    elim (p e.1) as (λ b. IsStrictlySortedBy cmp (keys_of (cond b (e ∷ filter (λ e. p e.1) es) (filter (λ e. p e.1) es)))) [ true ↦ (below, rest) | false ↦ rest ]

-- what is offered of versions has these versions
versions_offered : (own : Option Id) (known : Option TreeExts) (p : ListedVersion → Bool) (es : ListedVersions) → AllByRecursion (λ e. e.0 ≡ e.1.0.version) es
    → keys_of (filter (λ e. p e.1) es) ≡ map (λ x. x.version) (map (offering_of own known) (filter p (values_of es)))
versions_offered own known p [] all = refl
versions_offered own known p (e ∷ es) all =
    let rest = versions_offered own known p es all.1 in
    elim (p e.1) as (λ b. keys_of (cond b (e ∷ filter (λ e. p e.1) es) (filter (λ e. p e.1) es))
    ≡ map (λ x. x.version) (map (offering_of own known) (cond b (e.1 ∷ filter p (values_of es)) (filter p (values_of es))))) [
      | true ↦ λ i. all.0 i ∷ rest i
      | false ↦ rest
    ]

pub offers-rise : OffersRise
offers-rise uuid own pins known tables =
    let p : ListedVersion → Bool = λ listed. is_offered (pinned_of uuid pins) listed.0 in
    subst (IsStrictlySortedBy version_cmp) (versions_offered own known p (merged tables) (rows-are-of-their-versions tables)) (sorted_filter version_cmp p (merged tables) (versions-rise tables))

versions_made : (offers : List Offer) → map (λ x. x.version) (map offering offers) ≡ map (λ offer. offer.version) offers
versions_made [] = refl
versions_made (offer ∷ more) = ap (λ t. offer.version ∷ t) (versions_made more)

-- and so do offers that were made
pub made-rise : (offers : List Offer) (uuid : Id) (own : Option Id) (pins : List (Id × Version)) (known : Option TreeExts) (tables : List Rows)
    → map offering offers ≡ registry_offers uuid own pins known tables → DoRise offers
made-rise offers uuid own pins known tables same =
    subst (IsStrictlySortedBy version_cmp) (ap (map (λ x. x.version)) (sym same) ∙ versions_made offers) (offers-rise uuid own pins known tables)

pub rise-ok : {E : Type 0} (answer : Result (Listing Offer) E) (uuid : Id) (own : Option Id) (pins : List (Id × Version)) (known : Option TreeExts) (tables : List Rows) (pinned : List Version) (versions : ListedVersions)
    → pinned ≡ pinned_of uuid pins → versions ≡ merged tables
    → IfOk answer (λ offers. map offering offers.items ≡ map (offering_of own known) (filter (λ listed. is_offered pinned listed.0) (values_of versions)))
    → IfOk answer (λ offers. DoRise offers.items)
rise-ok (Ok offers) uuid own pins known tables pinned versions pins_are versions_are same =
    made-rise offers.items uuid own pins known tables (same ∙ λ i. map (offering_of own known) (filter (λ listed. is_offered (pins_are i) listed.0) (values_of (versions_are i))))
rise-ok (Err none) uuid own pins known tables pinned versions pins_are versions_are same = tt

-- ---- one offer

pub offered-same : {E : Type 0} (answer : Result Offer E) (made said : Offering) → made ≡ said → IfOk answer (λ offer. offering offer ≡ made) → IfOk answer (λ offer. offering offer ≡ said)
offered-same (Ok offer) made said same h = h ∙ same
offered-same (Err none) made said same h = tt

pub parts-same : (own : Option Id) (known : Option TreeExts) (listed : ListedVersion) (version : VersionRow) (rows : Rows) (row : Row) (deps weak : List (Text × Id)) (compat : List (Id × Allows))
    → version ≡ listed.0 → rows ≡ listed.1 → IsRowOf rows version.version row → deps ≡ others own row.deps.items → weak ≡ others own row.weak.items
    → compat ≡ made_compat deps weak row.compat.items
    → ◌≡◌ {A = Offering} (record { version = version.version; deps = deps; weak = weak; compat = compat; origin = Tree version.tree; extensions = extensions_of known version.tree }) (offering_of own known listed)
parts-same own known listed version rows row deps weak compat version_is rows_is said deps_made weak_made compat_made =
    let deps_is : deps ≡ others own (deps_of listed.1 listed.0.version) = deps_made ∙ ap (others own) (said.deps ∙ (λ i. deps_of (rows_is i) (version_is i).version)) in
    let weak_is : weak ≡ others own (weak_of listed.1 listed.0.version) = weak_made ∙ ap (others own) (said.weak ∙ (λ i. weak_of (rows_is i) (version_is i).version)) in
    let entries : map allowed_in row.compat.items ≡ map some_ranges (compat_of listed.1 listed.0.version) = said.compat ∙ (λ i. map some_ranges (compat_of (rows_is i) (version_is i).version)) in
    let compat_is : compat ≡ compat_ids (others own (deps_of listed.1 listed.0.version)) (others own (weak_of listed.1 listed.0.version)) (compat_of listed.1 listed.0.version) =
    compat_made ∙ (λ i. made_compat (deps_is i) (weak_is i) row.compat.items)
    ∙ compat-made (others own (deps_of listed.1 listed.0.version)) (others own (weak_of listed.1 listed.0.version)) row.compat.items (compat_of listed.1 listed.0.version) entries in
    λ i. record {
      version = (version_is i).version;
      deps = deps_is i;
      weak = weak_is i;
      compat = compat_is i;
      origin = Tree (version_is i).tree;
      extensions = extensions_of known (version_is i).tree;
    }

pub numbered-push : {E : Type 0} (answer : Result (Unit {0}) E) (number : ℕ) (old new : List Offer) (offer : Offer) → OnOk answer (new ≡ old ++ offer ∷ []) → AreNumbered number old → offer.package ≡ number
    → OnOk answer (AreNumbered number new)
numbered-push (Ok done) number old new offer pushed all one =
    let P : Offer → Type 0 = λ o. o.package ≡ number in
    subst (AreNumbered number) (sym pushed) (All-append P old (offer ∷ []) all (All-cons P offer [] one (All-nil P)))
numbered-push (Err none) number old new offer pushed all one = tt
