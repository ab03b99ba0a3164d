use Rattle.std.proofs.Common.{◌≡◌, ◌++◌, drop, string_bytes}
use Rattle.std.specs.List.{flat_map}
use Rattle.offers_command.specs.OfferLines as spec
use Rattle.offers_command.proofs.offer_lines.push_ids.Given as goal

abbrev pub invariant-loop-name : goal.invariant-loop-name
invariant-loop-name l =
    string_bytes l.initial.text ++ flat_map (spec.id_line l.word) l.ids ≡ string_bytes l.text ++ flat_map (spec.id_line l.word) (drop l.name-index l.ids)
