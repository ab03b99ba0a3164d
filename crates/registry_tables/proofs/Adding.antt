-- Going over depots and names: the paths so far, and those of the rest.
use Rattle.std.proofs.Common.{◌≡◌, Result, OnOk, ℕ, Bool, List, [], ◌∷◌, ◌++◌, map, filter, flat_map, Option, Some, None, IfSome, sym, ap, ◌∙◌, append_assoc}
use Rattle.std.proofs.lemmas.List.{map-append}
use Rattle.std.proofs.lemmas.List.Elements.{filter-append}
use Rattle.pkg_world.specs.Path.{Path, is_plain}
use Rattle.std.specs.Option.{unwrap_or}
use Rattle.pkg_world.specs.Tree.{Files, at, names_at}
use Rattle.registry_tables.specs.declared.fault.RegFault.{RegFault}
use Rattle.registry_tables.specs.Registries.{children, folders, packed, is_registry, is_packed, in_folder, registries_of, Adds}
use Rattle.registry_tables.specs.declared.found.Registries.{Registries}

-- what was found since the beginning, and what the rest gives, is all that is to be found
abbrev pub Comes : List Path → List Path → List Path → List Path → Registries → Registries → Type 0
Comes folders packed all_folders all_packed old new =
    (new.folders.items ++ folders ≡ old.folders.items ++ all_folders) × (new.packed.items ++ packed ≡ old.packed.items ++ all_packed)

rest-next : (old one more whole new : List Path) → old ++ (one ++ more) ≡ whole → new ≡ old ++ one → new ++ more ≡ whole
rest-next old one more whole new e h = ap (λ t. t ++ more) h ∙ append_assoc old one more ∙ e

children-append : (folder : Path) (names more : List (List ℕ)) → children folder (names ++ more) ≡ children folder names ++ children folder more
children-append folder names more =
    ap (map (λ name. folder ++ name ∷ [])) (filter-append is_plain names more) ∙ map-append (λ name. folder ++ name ∷ []) (filter is_plain names) (filter is_plain more)

kept-append : (test : Path → Bool) (folder : Path) (names more : List (List ℕ))
    → filter test (children folder (names ++ more)) ≡ filter test (children folder names) ++ filter test (children folder more)
kept-append test folder names more =
    ap (filter test) (children-append folder names more) ∙ filter-append test (children folder names) (children folder more)

kept-next : (test : Path → Bool) (folder : Path) (name : List ℕ) (names rest more : List (List ℕ)) (old new whole : List Path) → rest ≡ name ∷ more
    → old ++ filter test (children folder rest) ≡ whole → new ≡ old ++ filter test (children folder (name ∷ [])) → new ++ filter test (children folder more) ≡ whole
kept-next test folder name names rest more old new whole there e h =
    rest-next old (filter test (children folder (name ∷ []))) (filter test (children folder more)) whole new
    (ap (λ t. old ++ t) (sym (kept-append test folder (name ∷ []) more) ∙ ap (λ t. filter test (children folder t)) (sym there)) ∙ e) h

-- one name more
pub names-next : (files : Option Files) (folder : Path) (name : List ℕ) (names rest more : List (List ℕ)) (first old new : Registries) → rest ≡ name ∷ more
    → IfSome files (λ all. Comes (filter (is_registry all) (children folder rest)) (filter (is_packed all) (children folder rest))
    (filter (is_registry all) (children folder names)) (filter (is_packed all) (children folder names)) first old)
    → IfSome files (λ all. Adds (filter (is_registry all) (children folder (name ∷ []))) (filter (is_packed all) (children folder (name ∷ []))) old new)
    → IfSome files (λ all. Comes (filter (is_registry all) (children folder more)) (filter (is_packed all) (children folder more))
    (filter (is_registry all) (children folder names)) (filter (is_packed all) (children folder names)) first new)
names-next None folder name names rest more first old new there before added = before
names-next (Some all) folder name names rest more first old new there before added =
    (kept-next (is_registry all) folder name names rest more _ _ _ there before.0 added.0, kept-next (is_packed all) folder name names rest more _ _ _ there before.1 added.1)

depots-append : (test : Path → Bool) (files : Files) (depot : Path) (old whole new : List Path) (rest more : List Path) → rest ≡ depot ∷ more
    → old ++ flat_map (λ d. filter test (in_folder files (registries_of d))) rest ≡ whole → new ≡ old ++ filter test (in_folder files (registries_of depot))
    → new ++ flat_map (λ d. filter test (in_folder files (registries_of d))) more ≡ whole
depots-append test files depot old whole new rest more there e h =
    rest-next old (filter test (in_folder files (registries_of depot))) (flat_map (λ d. filter test (in_folder files (registries_of d))) more) whole new
    (ap (λ t. old ++ flat_map (λ d. filter test (in_folder files (registries_of d))) t) (sym there) ∙ e) h

-- one depot more
pub depots-next : (files : Option Files) (depot : Path) (depots rest more : List Path) (first old new : Registries) → rest ≡ depot ∷ more
    → IfSome files (λ all. Comes (folders all rest) (packed all rest) (folders all depots) (packed all depots) first old)
    → IfSome files (λ all. Adds (filter (is_registry all) (in_folder all (registries_of depot))) (filter (is_packed all) (in_folder all (registries_of depot))) old new)
    → IfSome files (λ all. Comes (folders all more) (packed all more) (folders all depots) (packed all depots) first new)
depots-next None depot depots rest more first old new there before added = before
depots-next (Some all) depot depots rest more first old new there before added =
    (depots-append (is_registry all) all depot _ _ _ rest more there before.0 added.0, depots-append (is_packed all) all depot _ _ _ rest more there before.1 added.1)

-- the names of a depot's folder
pub depot-names : (files : Option Files) (depot folder : Path) (names : List (List ℕ)) (old new : Registries) (answer : Result (Unit {0}) RegFault) → folder ≡ registries_of depot
    → IfSome files (λ all. Some names ≡ names_at (at folder all))
    → IfSome files (λ all. OnOk answer (Adds (filter (is_registry all) (children folder names)) (filter (is_packed all) (children folder names)) old new))
    → IfSome files (λ all. OnOk answer (Adds (filter (is_registry all) (in_folder all (registries_of depot))) (filter (is_packed all) (in_folder all (registries_of depot))) old new))
depot-names None depot folder names old new answer here listed added = tt
depot-names (Some all) depot folder names old new answer here listed added =
    let same : children folder names ≡ in_folder all (registries_of depot) =
    ap (λ n. children folder (unwrap_or n [])) listed ∙ ap (in_folder all) here in
    rw (← same) added
