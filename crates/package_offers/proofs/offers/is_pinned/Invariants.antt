-- none so far is the version
use Rattle.std.proofs.Common.{◌≡◌, drop, map}
use Rattle.std.specs.BTreeMap.{is_at}
use Rattle.std.specs.List.{list_any}
use Rattle.jl_versions.specs.Order.{version_cmp}
use Rattle.package_offers.proofs.offers.is_pinned.Given as goal

abbrev pub invariant-loop-pin : goal.invariant-loop-pin
invariant-loop-pin l =
    list_any (is_at (version_cmp l.version)) (map (λ v. v.now) l.pinned) ≡ list_any (is_at (version_cmp l.version)) (map (λ v. v.now) (drop l.pin-index l.pinned))
