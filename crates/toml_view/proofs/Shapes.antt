-- The readings of identifiers and texts refuse another kind and nothing else.
use Rattle.std.proofs.Common.{◌≡◌, ℕ, List, ◌∷◌, Option, Some, None, Result, Ok, Err, refl}
use Rattle.toml.specs.Data.{Data, Items, no_items, item, Members, no_members, member, get_member, as_str, as_array, as_table}
use Rattle.uuid.specs.Text.{parsed}
use Rattle.toml_view.specs.declared.refusal.Flaw.TheVariants.{Shape}
use Rattle.toml_view.specs.declared.refusal.Refusal.{Refusal}
use Rattle.toml_view.specs.declared.refusal.Stop.{Stop}
use Rattle.toml_view.specs.declared.refusal.Stop.TheVariants.{Refused, Memory as StopMemory}
use Rattle.toml_view.specs.Answers.{Refuses, HasShape}
use Rattle.toml_view.specs.Reading.{at, or_shape, chained, mapped, text_of, uuid_of, items_read, list_of, one_or, texts_of, each, table_of, opt_at, or_empty, opt, table_at, texts_at}

abbrev pub AreShapes : {T : Type 0} → Result T Refusal → Type 0
AreShapes (Ok value) = Unit {0}
AreShapes (Err refusal) = refusal.flaw ≡ Shape

-- what is refused of such a reading has another kind, or is absent
pub stop_shape : {T : Type 0} (stop : Stop) (reading : Result T Refusal) → AreShapes reading → Refuses stop reading → HasShape stop
stop_shape (Refused refusal) reading shapes e = rw e at shapes
stop_shape StopMemory reading shapes e = tt

at_shapes : {T : Type 0} (key : List ℕ) (r : Result T Refusal) → AreShapes r → AreShapes (at key r)
at_shapes key (Ok value) shapes = tt
at_shapes key (Err refusal) shapes = shapes

mapped_shapes : {S T : Type 0} (f : S → T) (r : Result S Refusal) → AreShapes r → AreShapes (mapped f r)
mapped_shapes f (Ok value) shapes = tt
mapped_shapes f (Err refusal) shapes = shapes

chained_shapes : {S T : Type 0} (next : S → Result T Refusal) (r : Result S Refusal) → ((s : S) → AreShapes (next s)) → AreShapes r → AreShapes (chained next r)
chained_shapes next (Ok value) after shapes = after value
chained_shapes next (Err refusal) after shapes = shapes

or_shapes : {T : Type 0} (o : Option T) → AreShapes (or_shape o)
or_shapes None = refl
or_shapes (Some value) = tt

text_shapes : (value : Data) → AreShapes (text_of value)
text_shapes value = or_shapes (as_str value)

uuid_shapes : (value : Data) → AreShapes (uuid_of value)
uuid_shapes value = chained_shapes (λ text. or_shape (parsed text)) (text_of value) (λ text. or_shapes (parsed text)) (text_shapes value)

items_shapes : {T : Type 0} (read : Data → Result T Refusal) → ((value : Data) → AreShapes (read value)) → (items : Items) → AreShapes (items_read read items)
items_shapes read all no_items = tt
items_shapes read all (item value more) =
    chained_shapes (λ v. mapped (λ vs. v ∷ vs) (items_read read more)) (read value) (λ v. mapped_shapes (λ vs. v ∷ vs) (items_read read more) (items_shapes read all more)) (all value)

each_shapes : {T : Type 0} (read : Data → Result T Refusal) → ((value : Data) → AreShapes (read value)) → (members : Members) → AreShapes (each read members)
each_shapes read all no_members = tt
each_shapes read all (member key value more) =
    chained_shapes (λ v. mapped (λ vs. (key, v) ∷ vs) (each read more)) (at key (read value))
    (λ v. mapped_shapes (λ vs. (key, v) ∷ vs) (each read more) (each_shapes read all more))
    (at_shapes key (read value) (all value))

one_shapes : (text : Option (List ℕ)) (many : Result (List (List ℕ)) Refusal) → AreShapes many → AreShapes (one_or text many)
one_shapes (Some text) many shapes = tt
one_shapes None many shapes = shapes

texts_shapes : (value : Data) → AreShapes (texts_of value)
texts_shapes value =
    one_shapes (as_str value) (list_of text_of value) (chained_shapes (items_read text_of) (or_shape (as_array value)) (items_shapes text_of text_shapes) (or_shapes (as_array value)))

opt_shapes : {T : Type 0} (read : Data → Result T Refusal) (key : List ℕ) → ((value : Data) → AreShapes (read value)) → (there : Option Data) → AreShapes (opt_at read key there)
opt_shapes read key all None = tt
opt_shapes read key all (Some value) = mapped_shapes (λ v. Some v) (at key (read value)) (at_shapes key (read value) (all value))

-- what stands at a key as a table of identifiers
pub uuids_at_shapes : (key : List ℕ) (members : Members) → AreShapes (table_at uuid_of key members)
uuids_at_shapes key members =
    mapped_shapes or_empty (opt (table_of uuid_of) key members)
    (opt_shapes (table_of uuid_of) key (λ value. chained_shapes (each uuid_of) (or_shape (as_table value)) (each_shapes uuid_of uuid_shapes) (or_shapes (as_table value))) (get_member key members))

-- what stands at a key as texts
pub texts_at_shapes : (key : List ℕ) (members : Members) → AreShapes (texts_at key members)
texts_at_shapes key members = mapped_shapes or_empty (opt texts_of key members) (opt_shapes texts_of key texts_shapes (get_member key members))
