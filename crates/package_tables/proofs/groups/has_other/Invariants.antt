-- those so far have the first one's value
use Rattle.std.proofs.Common.{◌≡◌, not, drop, map}
use Rattle.std.specs.List.{list_any}
use Rattle.package_tables.proofs.groups.has_other.Given as goal

abbrev pub invariant-loop-entry : goal.invariant-loop-entry
invariant-loop-entry g l =
    list_any (λ e. not (g.T.SectionValue.same l.first.value e.value)) (map (λ e. e.now) l.more)
    ≡ list_any (λ e. not (g.T.SectionValue.same l.first.value e.value)) (map (λ e. e.now) (drop l.entry-index l.more))
