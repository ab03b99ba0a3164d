-- The identifiers so far are put, and the rest is to be put.
use Rattle.std.proofs.Common.{◌≡◌, ℕ, ◌||◌, List, drop}
use Rattle.std.specs.List.{list_any}
use Rattle.std.specs.Str.{bytes_eq}
use Rattle.manifest_file.specs.Steps.{has_id}
use Rattle.offer_terms.specs.declared.demand.VersionPair.{VersionPair}
use Rattle.manifest_writing.proofs.manifest.pinned_ids.Given as goal

abbrev pub invariant-loop-pin : goal.invariant-loop-pin
invariant-loop-pin l = (q : List ℕ) → list_any (λ (pin : VersionPair). bytes_eq pin.uuid q) l.pins ≡ (has_id l.ids q || list_any (λ (pin : VersionPair). bytes_eq pin.uuid q) (drop l.pin-index l.pins))
