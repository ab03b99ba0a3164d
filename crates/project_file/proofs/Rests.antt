-- What is left of a table without the named keys.
use Rattle.std.proofs.Common.{◌≡◌, ℕ, Bool, true, false, not, List, [], ◌∷◌, filter, String, Global, string_bytes, refl, ap, sym, subst, ◌∙◌, ◌≤◌, max, arith, inl, inr}
use Rattle.std.proofs.lemmas.Bool.{cases_Bool}
use Rattle.toml.specs.Data.{Data, depth, Members, no_members, member, members_depth}
use Rattle.toml_view.specs.Document.{nesting}
use Rattle.toml.specs.View.{view, members_view}
use Rattle.toml.specs.declared.value.Value.{Value}
use Rattle.project_file.specs.Keys.{is_named, unnamed, names_none}

abbrev pub Entry : Type 0
Entry = String Global × Value

abbrev pub is_kept : Entry → Bool
is_kept e = not (is_named (string_bytes e.0))

pub unnamed-view : (es : List Entry) → members_view (filter is_kept es) ≡ unnamed (members_view es)
unnamed-view [] = refl
unnamed-view (e ∷ es) =
    elim (cases_Bool (is_named (string_bytes e.0))) [
      | inl named ↦ rw named (unnamed-view es)
      | inr other ↦ rw other (ap (member (string_bytes e.0) (view e.1)) (unnamed-view es))
    ]

unnamed-other : (key : List ℕ) (value : Data) (more : Members) → is_named key ≡ false → unnamed (member key value more) ≡ member key value (unnamed more)
unnamed-other key value more other = rw other

unnamed-named : (key : List ℕ) (value : Data) (more : Members) → is_named key ≡ true → unnamed (member key value more) ≡ unnamed more
unnamed-named key value more named = rw named

names_none-other : (key : List ℕ) (value : Data) (more : Members) → is_named key ≡ false → names_none more ≡ true → names_none (member key value more) ≡ true
names_none-other key value more other none = rw (other, none)

pub names_none-unnamed : (members : Members) → names_none (unnamed members) ≡ true
names_none-unnamed no_members = refl
names_none-unnamed (member key value more) =
    elim (cases_Bool (is_named key)) [
      | inl named ↦ ap names_none (unnamed-named key value more named) ∙ names_none-unnamed more
      | inr other ↦ ap names_none (unnamed-other key value more other) ∙ names_none-other key value (unnamed more) other (names_none-unnamed more)
    ]

depth-unnamed : (members : Members) → members_depth (unnamed members) ≤ members_depth members
depth-unnamed no_members = omega arith
depth-unnamed (member key value more) =
    let less : members_depth (unnamed more) ≤ members_depth more = depth-unnamed more in
    elim (cases_Bool (is_named key)) [
      | inl named ↦ subst (λ ms. members_depth ms ≤ max (depth value) (members_depth more)) (sym (unnamed-named key value more named)) (omega (arith, less))
      | inr other ↦ subst (λ ms. members_depth ms ≤ max (depth value) (members_depth more)) (sym (unnamed-other key value more other)) (omega (arith, less))
    ]

-- what is left nests no deeper
pub nesting-unnamed : (members left : Members) → left ≡ unnamed members → nesting left ≤ nesting members
nesting-unnamed members left same = subst (λ ms. nesting ms ≤ nesting members) (sym same) (let less = depth-unnamed members in omega (arith, less))
