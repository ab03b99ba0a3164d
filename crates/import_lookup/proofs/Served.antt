-- The names for which an import reads files are the context's and the imported one.
use Rattle.std.proofs.Common.{◌≡◌, ℕ, Bool, true, false, ◌||◌, if◌then◌else◌, List, [], ◌∷◌, refl, ap, ◌∙◌}
use Rattle.std.proofs.lemmas.Slice.Eq.{bytes_eq-Decides}
use Rattle.std.specs.Str.{bytes_eq}
use Rattle.env_maps.specs.declared.id.Context.{Context}
use Rattle.env_maps.specs.declared.id.Context.TheVariants.{Top, Package, Extension}
use Rattle.env_maps.specs.ByName.{is_among}
use Rattle.import_lookup.specs.Loading.{names_of, serves}

same : (name : List ℕ) → bytes_eq name name ≡ true
same name = (bytes_eq-Decides name name).1 refl

first : (name : List ℕ) (more : List (List ℕ)) → is_among name (name ∷ more) ≡ true
first name more = rw (same name) refl

or_true : (b : Bool) → (b || true) ≡ true
or_true true = refl
or_true false = refl

second : (name other : List ℕ) → is_among name (other ∷ name ∷ []) ≡ true
second name other = rw (same name) (or_true (bytes_eq other name))

served : (from name : List ℕ) (same : Bool) → bytes_eq from name ≡ same → is_among from (if same then name ∷ [] else from ∷ name ∷ []) ≡ true
served from name true e = ap (λ n. is_among n (name ∷ [])) ((bytes_eq-Decides from name).0 e) ∙ first name []
served from name false e = first from (name ∷ [])

had : (from name : List ℕ) (same : Bool) → is_among name (if same then name ∷ [] else from ∷ name ∷ []) ≡ true
had from name true = first name []
had from name false = second name from

pub names_serve : (context : Context) (name : List ℕ) → serves (names_of context name) context ≡ true
names_serve Top name = refl
names_serve (Package id) name = served id.name name (bytes_eq id.name name) refl
names_serve (Extension uuid parent extension) name = served parent name (bytes_eq parent name) refl

pub names_have : (context : Context) (name : List ℕ) → is_among name (names_of context name) ≡ true
names_have Top name = first name []
names_have (Package id) name = had id.name name (bytes_eq id.name name)
names_have (Extension uuid parent extension) name = had parent name (bytes_eq parent name)
