use Rattle.std.proofs.Common.{◌≡◌, ◌++◌, string_bytes}
use Rattle.std.specs.BTreeMap.{btree_map_len}
use Rattle.offers_command.specs.OfferLines as spec
use Rattle.offers_command.proofs.offer_lines.push_versions.Given as goal

abbrev pub invariant-versions : goal.invariant-versions
invariant-versions l = string_bytes l.initial.text ++ spec.all_lines l.fn.versions.entries ≡ string_bytes l.text ++ spec.all_lines l.versions.entries

abbrev pub decreases-versions : goal.decreases-versions
decreases-versions l = btree_map_len l.versions
