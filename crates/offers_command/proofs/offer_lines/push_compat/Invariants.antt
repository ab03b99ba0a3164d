use Rattle.std.proofs.Common.{◌≡◌, ◌++◌, drop, map, string_bytes}
use Rattle.std.specs.List.{flat_map}
use Rattle.package_tables.specs.Row.{allowed_in}
use Rattle.offers_command.specs.OfferLines as spec
use Rattle.offers_command.proofs.offer_lines.push_compat.Given as goal

abbrev pub invariant-loop-name : goal.invariant-loop-name
invariant-loop-name l =
    string_bytes l.initial.text ++ flat_map spec.entry_line (map allowed_in l.list) ≡ string_bytes l.text ++ flat_map spec.entry_line (map allowed_in (drop l.name-index l.list))
