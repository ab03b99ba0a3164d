-- The triggers so far have identifiers, and these are put.
use Rattle.std.proofs.Common.{◌≡◌, ◌++◌, drop, is_some}
use Rattle.std.specs.List.{list_all, filter_map}
use Rattle.extension_rules.specs.Rules.{trigger_id}
use Rattle.extension_rules.proofs.trigger_ids.ids_of.Given as goal

abbrev pub invariant-loop-name : goal.invariant-loop-name
invariant-loop-name l =
    (list_all (λ name. is_some (trigger_id l.weakdeps l.deps name)) l.names ≡ list_all (λ name. is_some (trigger_id l.weakdeps l.deps name)) (drop l.name-index l.names)) ×
    (filter_map (trigger_id l.weakdeps l.deps) l.names ≡ l.ids.items ++ filter_map (trigger_id l.weakdeps l.deps) (drop l.name-index l.names))
