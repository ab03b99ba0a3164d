-- What is to be added is what the sources fix that are left.
use Rattle.std.proofs.Common.{◌≡◌, ◌++◌, drop}
use Rattle.std.specs.List.{flat_map}
use Rattle.fixed_packages.specs.Candidates.{source_fixes}
use Rattle.fixed_packages.proofs.candidate.add_sources.Given as goal

abbrev pub invariant-loop-name : goal.invariant-loop-name
invariant-loop-name l =
    l.found.items ++ flat_map (source_fixes l.file l.ids.entries) (drop l.name-index l.sources) ≡ l.initial.found.items ++ flat_map (source_fixes l.file l.ids.entries) l.sources
