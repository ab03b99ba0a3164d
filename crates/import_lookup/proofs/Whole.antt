-- What the reading of a stack says of imports over the files.
use Rattle.std.proofs.Common.{◌≡◌, ℕ, true, List, Option, Some, None, IfSome, IfOk, IfErr, Ok, Err, Result, refl, sym, ap, ◌∙◌}
use Rattle.pkg_world.specs.declared.place.Place.{Place}
use Rattle.pkg_world.specs.Tree.{Files}
use Rattle.env_maps.specs.declared.id.Context.{Context}
use Rattle.project_places.specs.declared.fault.EnvFault.{EnvFault}
use Rattle.project_places.specs.declared.fault.EnvFault.TheVariants.{ReadFault, BadFile, Memory}
use Rattle.env_maps.specs.ByName.{is_among}
use Rattle.pkg_world.specs.Each.{then_ok}
use Rattle.project_places.specs.Files.{Read, Refuses, Loads}
use Rattle.env_maps.specs.Library.{library_in}
use Rattle.import_lookup.specs.declared.answer.ImportAnswer.{ImportAnswer}
use Rattle.import_lookup.specs.declared.loaded.Environment.{Environment}
use Rattle.import_lookup.specs.declared.loaded.Loaded.{Loaded}
use Rattle.import_lookup.specs.Import.{import_over, maps_of}
use Rattle.import_lookup.specs.LoadPath.{environments}
use Rattle.import_lookup.specs.Loading.{all_loaded, loaded_maps, Held, held_of, stack_in, answered, import_in, serves}
use Rattle.import_lookup.proofs.Agreement.{import_same}

-- a stack that is refused refuses every import
refused_by : {S T : Type 0} (reading : Read S) (refused : _) (next : S → Read T) → reading ≡ Err refused → then_ok reading next ≡ Err refused
refused_by reading refused next e = rw e refl

by_envs : (files : Files) (place : Place) (names : List (List ℕ)) (context : Context) (name : List ℕ) (fault : EnvFault) (found : Read (List Environment))
    → Refuses (then_ok found (held_of files place names)) fault → Refuses (then_ok found (answered files place names context name)) fault
by_envs files place names context name (ReadFault path) found h = tt
by_envs files place names context name (BadFile path cause) (Ok envs) h = refused_by (held_of files place names envs) (path, cause) (λ held. Ok (import_over files (maps_of files place.stdlib) envs context name)) h
by_envs files place names context name (BadFile path cause) (Err refused) h = let same : refused ≡ (path, cause) = cc in ap Err same
by_envs files place names context name Memory found h = tt

pub stack_refused : (files : Files) (place : Place) (names : List (List ℕ)) (context : Context) (name : List ℕ) (fault : EnvFault)
    → Refuses (stack_in files place names) fault → Refuses (import_in files place names context name) fault
stack_refused files place names context name fault h = by_envs files place names context name fault (environments files place) h

-- an import over a stack that was loaded
record IsHeld (files : Files) (place : Place) (names : List (List ℕ)) (envs : List Environment) (held : Held) : Type 0 where
  pub loaded : all_loaded files names envs ≡ Ok held.envs
  pub library : library_in files place.stdlib names ≡ Ok held.library

held_by : (files : Files) (place : Place) (names : List (List ℕ)) (envs : List Environment) (held : Held) (one : Read (List Loaded)) (two : Read (List (List ℕ × Option (List ℕ))))
    → all_loaded files names envs ≡ one → library_in files place.stdlib names ≡ two
    → then_ok one (λ loaded. then_ok two (λ library. Ok (record { envs = loaded; library = library }))) ≡ Ok held → IsHeld files place names envs held
held_by files place names envs held (Ok loaded) (Ok library) e f h =
    let same : record { envs = loaded; library = library } ≡ held = cc in
    record { loaded = e ∙ ap Ok (ap (λ s. s.envs) same); library = f ∙ ap Ok (ap (λ s. s.library) same) }
held_by files place names envs held (Ok loaded) (Err refused) e f h = let no-way : ⊥ = cc in absurd no-way
held_by files place names envs held (Err refused) two e f h = let no-way : ⊥ = cc in absurd no-way

whole_by : (files : Files) (place : Place) (names : List (List ℕ)) (context : Context) (name : List ℕ) (held : Held) (found : Read (List Environment))
    → serves names context ≡ true → is_among name names ≡ true → then_ok found (held_of files place names) ≡ Ok held
    → then_ok found (answered files place names context name) ≡ Ok (import_over files (loaded_maps files held.library) held.envs context name)
whole_by files place names context name held (Ok envs) served among h =
    let is = held_by files place names envs held (all_loaded files names envs) (library_in files place.stdlib names) refl refl h in
    ap (λ reading. then_ok reading (λ stack. Ok (import_over files (maps_of files place.stdlib) envs context name))) h
    ∙ ap Ok (import_same files place.stdlib names held.library envs held.envs context name is.loaded is.library served among)
whole_by files place names context name held (Err refused) served among h = let no-way : ⊥ = cc in absurd no-way

pub import_whole : (files : Files) (place : Place) (names : List (List ℕ)) (context : Context) (name : List ℕ) (held : Held) (answer : ImportAnswer)
    → answer ≡ import_over files (loaded_maps files held.library) held.envs context name → stack_in files place names ≡ Ok held
    → serves names context ≡ true → is_among name names ≡ true → import_in files place names context name ≡ Ok answer
import_whole files place names context name held answer is h served among =
    whole_by files place names context name held (environments files place) served among h ∙ ap Ok (sym is)

pub whole_told : (files : Option Files) (answer : Result ImportAnswer EnvFault) (held : Held) (context : Context) (name : List ℕ)
    → IfSome files (λ all. IfOk answer (λ given. given ≡ import_over all (loaded_maps all held.library) held.envs context name))
    → IfSome files (λ all. IfOk answer (λ given. (place : Place) → (names : List (List ℕ)) → stack_in all place names ≡ Ok held → serves names context ≡ true → is_among name names ≡ true → import_in all place names context name ≡ Ok given))
whole_told None answer held context name told = tt
whole_told (Some all) (Ok given) held context name told = λ place names h served among. import_whole all place names context name held given told h served among
whole_told (Some all) (Err fault) held context name told = tt

pub refused_told : (files : Option Files) (place : Place) (names : List (List ℕ)) (answer : Result Held EnvFault)
    → IfSome files (λ all. Loads (stack_in all place names) answer)
    → IfSome files (λ all. IfErr answer (λ fault. (context : Context) → (name : List ℕ) → Refuses (import_in all place names context name) fault))
refused_told None place names answer told = tt
refused_told (Some all) place names (Ok held) told = tt
refused_told (Some all) place names (Err fault) told = λ context name. stack_refused all place names context name fault told
