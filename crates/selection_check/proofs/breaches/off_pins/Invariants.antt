-- The first of those so far, and then of the rest, is the first of all.
use Rattle.std.proofs.Common.{◌≡◌, None, drop, fold, map}
use Rattle.offer_terms.specs.Demanded.{version_entry}
use Rattle.selection_check.specs.Order.{first_id}
use Rattle.selection_check.specs.Found.{off_pin}
use Rattle.selection_check.proofs.breaches.off_pins.Given as goal

abbrev pub invariant-loop-pin : goal.invariant-loop-pin
invariant-loop-pin l =
    fold (λ first x. first_id l.book first (off_pin l.selection.items x)) None (map version_entry l.pins)
    ≡ fold (λ first x. first_id l.book first (off_pin l.selection.items x)) l.first (map version_entry (drop l.pin-index l.pins))
