use Rattle.std.proofs.Common.{◌≡◌, nat_le, drop}
use Rattle.toml.specs.Data.{items_depth, members_depth}
use Rattle.toml.specs.View.{items_view, members_view}
use Rattle.toml_view.proofs.nesting.+nesting.Given as goal

abbrev pub invariant-items_fit-items : goal.invariant-items_fit-items
invariant-items_fit-items l =
    nat_le (items_depth (items_view (drop l.item-index l.item-items))) l.room ≡ nat_le (items_depth (items_view l.item-items)) l.room

abbrev pub invariant-members_fit-members : goal.invariant-members_fit-members
invariant-members_fit-members l =
    (goal.iterator-members_fit-members).can_next l._key-iterator ×
    (goal.iterator-members_fit-members).is_finite l._key-iterator ×
    (nat_le (members_depth (members_view l._key-iterator)) l.room ≡ nat_le (members_depth (members_view l.table.entries)) l.room)
