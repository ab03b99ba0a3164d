-- Going over a table: what was read so far, and the rest.
use Rattle.std.proofs.Common.{◌≡◌, ℕ, List, [], ◌∷◌, ◌++◌, map, Result, Ok, Err, String, Global, string_bytes, refl, sym, ap, ◌∙◌, append_assoc}
use Rattle.toml.specs.Data.{Data}
use Rattle.toml.specs.View.{view, members_view}
use Rattle.toml.specs.declared.value.Value.{Value}
use Rattle.toml_view.specs.Answers.{Refuses}
use Rattle.toml_view.specs.Reading.{at, chained, mapped, each}
use Rattle.toml_view.specs.declared.refusal.Refusal.{Refusal}
use Rattle.toml_view.specs.declared.refusal.Stop.{Stop}
use Rattle.toml_view.specs.declared.refusal.Stop.TheVariants.{Refused, Memory}
use Rattle.pkg_world.specs.Each.{onto}

abbrev pub TomlEntry : Type 0
TomlEntry = String Global × Value

-- one item more
pub onto_next : {T : Type 0} (done : List T) (v : T) (rest : Result (List T) Refusal) → onto done (mapped (λ vs. v ∷ vs) rest) ≡ onto (done ++ v ∷ []) rest
onto_next done v (Ok rest) = ap Ok (sym (append_assoc done (v ∷ []) rest))
onto_next done v (Err refusal) = refl

mapped_next : {S T : Type 0} (f : S → T) (done : List T) (v : S) (rest : Result (List S) Refusal) → onto done (mapped (map f) (mapped (λ vs. v ∷ vs) rest)) ≡ onto (done ++ f v ∷ []) (mapped (map f) rest)
mapped_next f done v (Ok rest) = ap Ok (sym (append_assoc done (f v ∷ []) (map f rest)))
mapped_next f done v (Err refusal) = refl

-- the entry of one name more
pub entries-next : {S T : Type 0} (f : List ℕ × S → T) (read : Data → Result S Refusal) (done : List T) (es rest : List TomlEntry) (e : TomlEntry) (v : S)
    → es ≡ e ∷ rest → at (string_bytes e.0) (read (view e.1)) ≡ Ok v
    → onto done (mapped (map f) (each read (members_view es))) ≡ onto (done ++ f (string_bytes e.0, v) ∷ []) (mapped (map f) (each read (members_view rest)))
entries-next f read done es rest e v iter found =
    ap (λ t. onto done (mapped (map f) (each read (members_view t)))) iter
    ∙ ap (λ r. onto done (mapped (map f) (chained (λ w. mapped (λ vs. (string_bytes e.0, w) ∷ vs) (each read (members_view rest))) r))) found
    ∙ mapped_next f done (string_bytes e.0, v) (each read (members_view rest))

-- a refusal on the way is that of the whole
pub refuses_whole : {S T : Type 0} (stop : Stop) (step : Result S Refusal) (next : S → Result (List T) Refusal) (done : List T) (whole : Result (List T) Refusal)
    → Refuses stop step → whole ≡ onto done (chained next step) → Refuses stop whole
refuses_whole (Refused refusal) step next done whole h same = same ∙ ap (λ r. onto done (chained next r)) h
refuses_whole Memory step next done whole h same = tt
