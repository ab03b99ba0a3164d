use Rattle.std.proofs.Common.{◌≡◌, ◌++◌, drop, map, option_map}
use Rattle.command_words.specs.Parts as spec
use Rattle.command_words.proofs.parts.packages_of.Given as goal

abbrev pub invariant-loop-word : goal.invariant-loop-word
invariant-loop-word l =
    spec.each spec.package_of (map (λ word. word.now) l.words)
    ≡ option_map (λ more. l.packages.items ++ more) (spec.each spec.package_of (map (λ word. word.now) (drop l.word-index l.words)))
