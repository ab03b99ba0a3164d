use Rattle.std.proofs.Common.{◌≡◌, ◌≤◌, IfSome, drop, string_bytes}
use Rattle.pkg_world.specs.Each.{onto}
use Rattle.offers_command.specs.OffersDue.{packages_in}
use Rattle.offers_command.proofs.offers_answer.add_packages.Given as goal

abbrev pub invariant-uuids : goal.invariant-uuids
invariant-uuids g l =
    (g.S.Store.files l.store ≡ g.S.Store.files l.initial.store) ×
    (g.S.Store.read_faults l.initial.store ≤ g.S.Store.read_faults l.store) ×
    (g.S.Store.write_faults l.store ≡ g.S.Store.write_faults l.initial.store) ×
    IfSome (g.S.Store.files l.initial.store) (λ all. onto (string_bytes l.initial.text) (packages_in all l.list l.uuids) ≡ onto (string_bytes l.text) (packages_in all l.list (drop l.uuid-index l.uuids)))
