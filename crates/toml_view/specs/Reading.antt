-- What is read at the keys of a table, and where the first refusal stands. A reading is a function of the value: what it
-- means, or its refusal, whose path begins at that value.
use Rattle.std.specs.Prelude.{ℕ, Bool, List, [], ◌∷◌, ◌++◌, is_some, Option, Some, None, Result, Ok, Err}
use Rattle.toml.specs.Data.{Data, Items, no_items, item, Members, no_members, member, get_member, as_str, as_bool, as_array, as_table}
use Rattle.uuid.specs.Text.{parsed}
use Rattle.pkg_world.specs.TreeIds.{tree_of}
use Rattle.jl_versions.specs.Meant.{version_meant}
use Rattle.jl_versions.specs.declared.version.Version.{Version}
use Rattle.toml_view.specs.declared.refusal.Flaw.TheVariants.{Shape, Version as BadVersionAt}
use Rattle.toml_view.specs.declared.refusal.Refusal.{Refusal}

-- a value of another kind
abbrev pub shape : Refusal
shape = record { path = None; flaw = Shape }

-- what follows a key in a path
abbrev pub dotted : Option (List ℕ) → List ℕ
dotted None = []
dotted (Some rest) = 46 ∷ rest

-- a refusal as it is seen from the table above, whose key leads to it: the keys are joined by dots
abbrev pub under : List ℕ → Refusal → Refusal
under key refusal = record { path = Some (key ++ dotted refusal.path); flaw = refusal.flaw }

-- a reading as it is seen from the table above
abbrev pub at : {T : Type 0} → List ℕ → Result T Refusal → Result T Refusal
at key (Ok value) = Ok value
at key (Err refusal) = Err (under key refusal)

-- a value of the wanted kind, or its refusal
abbrev pub or_shape : {T : Type 0} → Option T → Result T Refusal
or_shape None = Err shape
or_shape (Some value) = Ok value

-- one reading and then the next: the first refusal counts
abbrev pub chained : {S T : Type 0} → (S → Result T Refusal) → Result S Refusal → Result T Refusal
chained next (Ok value) = next value
chained next (Err refusal) = Err refusal

abbrev pub mapped : {S T : Type 0} → (S → T) → Result S Refusal → Result T Refusal
mapped f (Ok value) = Ok (f value)
mapped f (Err refusal) = Err refusal

-- a text
abbrev pub text_of : Data → Result (List ℕ) Refusal
text_of value = or_shape (as_str value)

-- whether a table has the key
abbrev pub has_key : List ℕ → Members → Bool
has_key key members = is_some (get_member key members)

-- what stands at a key that may be absent
abbrev pub opt_at : {T : Type 0} → (Data → Result T Refusal) → List ℕ → Option Data → Result (Option T) Refusal
opt_at read key None = Ok None
opt_at read key (Some value) = mapped (λ v. Some v) (at key (read value))

-- what stands at a needed key; where it is absent it is refused in its place
abbrev pub need_at : {T : Type 0} → (Data → Result T Refusal) → List ℕ → Option Data → Result T Refusal
need_at read key None = Err (under key shape)
need_at read key (Some value) = at key (read value)

abbrev pub opt : {T : Type 0} → (Data → Result T Refusal) → List ℕ → Members → Result (Option T) Refusal
opt read key members = opt_at read key (get_member key members)

abbrev pub need : {T : Type 0} → (Data → Result T Refusal) → List ℕ → Members → Result T Refusal
need read key members = need_at read key (get_member key members)

-- an identifier: a text that the crate `uuid` reads
abbrev pub uuid_of : Data → Result (List ℕ) Refusal
uuid_of value = chained (λ text. or_shape (parsed text)) (text_of value)

-- the identifier of a tree: a text of 40 hexadecimal digits
abbrev pub tree_id_of : Data → Result (List ℕ) Refusal
tree_id_of value = chained (λ text. or_shape (tree_of text)) (text_of value)

-- true or false
abbrev pub flag_of : Data → Result Bool Refusal
flag_of value = or_shape (as_bool value)

-- a version, or the first bad place of its text (Julia manual, Version Number Literals)
abbrev pub or_version : Result Version ℕ → Result Version Refusal
or_version (Ok version) = Ok version
or_version (Err place) = Err (record { path = None; flaw = BadVersionAt place })

abbrev pub version_at : Data → Result Version Refusal
version_at value = chained (λ text. or_version (version_meant text)) (text_of value)

-- the members of a list in its order
abbrev pub items_read : {T : Type 0} → (Data → Result T Refusal) → Items → Result (List T) Refusal
items_read read no_items = Ok []
items_read read (item value more) = chained (λ v. mapped (λ vs. v ∷ vs) (items_read read more)) (read value)

abbrev pub list_of : {T : Type 0} → (Data → Result T Refusal) → Data → Result (List T) Refusal
list_of read value = chained (items_read read) (or_shape (as_array value))

-- a text alone, or a list of texts
abbrev pub one_or : Option (List ℕ) → Result (List (List ℕ)) Refusal → Result (List (List ℕ)) Refusal
one_or (Some text) many = Ok (text ∷ [])
one_or None many = many

abbrev pub texts_of : Data → Result (List (List ℕ)) Refusal
texts_of value = one_or (as_str value) (list_of text_of value)

-- the values of a table with their keys, in the order of the keys, each with all that is in it before the next
abbrev pub each : {T : Type 0} → (Data → Result T Refusal) → Members → Result (List (List ℕ × T)) Refusal
each read no_members = Ok []
each read (member key value more) = chained (λ v. mapped (λ vs. (key, v) ∷ vs) (each read more)) (at key (read value))

abbrev pub table_of : {T : Type 0} → (Data → Result T Refusal) → Data → Result (List (List ℕ × T)) Refusal
table_of read value = chained (each read) (or_shape (as_table value))

-- an absent list or table is empty
abbrev pub or_empty : {T : Type 0} → Option (List T) → List T
or_empty None = []
or_empty (Some vs) = vs

abbrev pub table_at : {T : Type 0} → (Data → Result T Refusal) → List ℕ → Members → Result (List (List ℕ × T)) Refusal
table_at read key members = mapped or_empty (opt (table_of read) key members)

abbrev pub texts_at : List ℕ → Members → Result (List (List ℕ)) Refusal
texts_at key members = mapped or_empty (opt texts_of key members)
