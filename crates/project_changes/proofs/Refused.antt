-- The first refusal counts.
use Rattle.std.proofs.Common.{◌≡◌, ℕ, ◌+◌, ◌<◌, List, length, get_or, drop, ap, sym, ◌∙◌, subst}
use Rattle.std.proofs.lemmas.List.{drop_more}
use Rattle.std.specs.Prelude.{Result, Ok}
use Rattle.pkg_world.specs.Each.{then_ok}
use Rattle.project_file.specs.Said as project
use Rattle.project_changes.specs.Refusals.{ChangeRefusal}
use Rattle.project_changes.specs.Faults.{Refuses}
use Rattle.project_changes.specs.Words.{word_by_word}
use Rattle.project_changes.specs.declared.fault.ChangeFault.{ChangeFault}
use Rattle.project_changes.specs.declared.fault.ChangeFault.TheVariants.{NameTaken, UnknownName, UnknownPackage, AmbiguousName, NotInProject, NotInManifest, NotPinned, Memory}

pub refused-then : {S T : Type 0} (change : Result S ChangeRefusal) (next : S → Result T ChangeRefusal) (fault : ChangeFault) → Refuses change fault → Refuses (then_ok change next) fault
refused-then change next (NameTaken had) h = ap (λ r. then_ok r next) h
refused-then change next (UnknownName name) h = ap (λ r. then_ok r next) h
refused-then change next (UnknownPackage id) h = ap (λ r. then_ok r next) h
refused-then change next (AmbiguousName least other) h = ap (λ r. then_ok r next) h
refused-then change next (NotInProject name) h = ap (λ r. then_ok r next) h
refused-then change next (NotInManifest name) h = ap (λ r. then_ok r next) h
refused-then change next (NotPinned name) h = ap (λ r. then_ok r next) h
refused-then change next Memory h = tt

module _ {W : Type 0} (change : project.Said → W → Result project.Said ChangeRefusal) (said : project.Said) (words : List W) (place : ℕ) (d : W) (inside : place < length words)
    (whole : Result project.Said ChangeRefusal) (so_far : whole ≡ word_by_word change said (drop place words)) where
  opened : whole ≡ then_ok (change said (get_or words place d)) (λ next. word_by_word change next (drop (place + 1) words))
  opened = so_far ∙ ap (word_by_word change said) (drop_more words place d inside)

  -- one word more
  pub goes-on : (next : project.Said) → change said (get_or words place d) ≡ Ok next → whole ≡ word_by_word change next (drop (place + 1) words)
  goes-on next there = opened ∙ ap (λ r. then_ok r (λ next. word_by_word change next (drop (place + 1) words))) there

  -- a word that is refused
  pub stops : (fault : ChangeFault) → Refuses (change said (get_or words place d)) fault → Refuses whole fault
  stops fault there =
      subst (λ r. Refuses r fault) (sym opened) (refused-then (change said (get_or words place d)) (λ next. word_by_word change next (drop (place + 1) words)) fault there)
