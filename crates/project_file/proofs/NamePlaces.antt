-- A name's place among pairs in the order of their names.
use Rattle.std.proofs.Common.{◌≡◌, ℕ, zero, suc, ◌+◌, ◌<◌, Bool, true, false, T, cond, not, List, [], ◌∷◌, ◌++◌, length, get_or, take, drop, Less, Equal, Greater, refl, sym, ap, subst, ◌∙◌, arith}
use Rattle.std.proofs.lemmas.Bool.{and_parts}
use Rattle.std.proofs.lemmas.List.{drop_more}
use Rattle.std.proofs.lemmas.Map.Lookups.{exact_bytes}
use Rattle.std.proofs.lemmas.Map.Text.{is_eq-slice_cmp}
use Rattle.std.specs.Cmp.Lexicographic.{slice_cmp, nat_list_cmp_total}
use Rattle.std.specs.FinMap.Entries.{below_all, by_order, is_sorted-put}
use Rattle.std.specs.List.{remove}
use Rattle.std.specs.Ordering.{nat_cmp, is_lt, is_eq, ordering_reverse}
use Rattle.std.specs.Str.{bytes_eq}
use Rattle.std.specs.declared.cmp.Ordering.{Ordering}
use Rattle.pkg_world.specs.ByName.{is_by_name}
use Rattle.project_file.specs.Edits.{with_entry, without_entry}

from_T : (b : Bool) → T b → b ≡ true
from_T true t = refl
from_T false t = absurd t

less : (o : Ordering) → is_lt o ≡ true → o ≡ Less
less Less h = refl
less Equal h = cc
less Greater h = cc

-- a list with an entry more stays in order
pub by_name-with_entry : {X : Type 0} (name : List ℕ) (v : X) (es : List (List ℕ × X)) → is_by_name es ≡ true → is_by_name (with_entry name v es) ≡ true
by_name-with_entry name v es h = from_T (is_by_name (with_entry name v es)) (is_sorted-put (slice_cmp nat_cmp) nat_list_cmp_total name v es (subst T (sym h) tt))

-- the entry stands where the name was
pub with_entry-met : {X : Type 0} (name : List ℕ) (v : X) (es : List (List ℕ × X)) (place : ℕ) (d : List ℕ × X) → place < length es → slice_cmp nat_cmp name (get_or es place d).0 ≡ Equal
    → with_entry name v es ≡ take place es ++ with_entry name v (drop place es) → with_entry name v es ≡ take place es ++ (name, v) ∷ drop (place + 1) es
with_entry-met name v es place d inside tie so_far =
    let e = get_or es place d in
    let rest = drop (place + 1) es in
    so_far
    ∙ ap (λ left. take place es ++ with_entry name v left) (drop_more es place d inside)
    ∙ ap (λ o. take place es ++ by_order o ((name, v) ∷ e ∷ rest) ((e.0, v) ∷ rest) (e ∷ with_entry name v rest)) tie
    ∙ ap (λ k. take place es ++ (k, v) ∷ rest) (sym (exact_bytes name e.0 tie))

other : (a b : List ℕ) → slice_cmp nat_cmp a b ≡ Less → bytes_eq a b ≡ false
other a b h = sym (is_eq-slice_cmp a b) ∙ ap is_eq h

later : (a b : List ℕ) → slice_cmp nat_cmp a b ≡ Less → bytes_eq b a ≡ false
later a b h = sym (is_eq-slice_cmp b a) ∙ ap is_eq (nat_list_cmp_total.antisymm b a ∙ ap ordering_reverse h)

below_at : {X : Type 0} (name : List ℕ) (es : List (List ℕ × X)) (place : ℕ) (d : List ℕ × X) → below_all (slice_cmp nat_cmp) name es ≡ true → place < length es
    → slice_cmp nat_cmp name (get_or es place d).0 ≡ Less
below_at name [] place d h inside = let none : ⊥ = omega arith in absurd none
below_at name (e ∷ es) zero d h inside = less (slice_cmp nat_cmp name e.0) (and_parts (is_lt (slice_cmp nat_cmp name e.0)) (below_all (slice_cmp nat_cmp) name es) h).0
below_at name (e ∷ es) (suc n) d h inside =
    below_at name es n d (and_parts (is_lt (slice_cmp nat_cmp name e.0)) (below_all (slice_cmp nat_cmp) name es) h).1 (omega arith)

without_below : {X : Type 0} (name : List ℕ) (es : List (List ℕ × X)) → below_all (slice_cmp nat_cmp) name es ≡ true → without_entry name es ≡ es
without_below name [] h = refl
without_below name (e ∷ es) h =
    let (here, more) = and_parts (is_lt (slice_cmp nat_cmp name e.0)) (below_all (slice_cmp nat_cmp) name es) h in
    ap (λ b. cond (not b) (e ∷ without_entry name es) (without_entry name es)) (later name e.0 (less (slice_cmp nat_cmp name e.0) here)) ∙ ap (λ es. e ∷ es) (without_below name es more)

-- without its place the list is without the name
pub without_entry-met : {X : Type 0} (name : List ℕ) (es : List (List ℕ × X)) (place : ℕ) (d : List ℕ × X) → is_by_name es ≡ true → place < length es
    → bytes_eq (get_or es place d).0 name ≡ true → (get_or es place d).0 ≡ name → without_entry name es ≡ remove es place
without_entry-met name [] place d rise inside same is = let none : ⊥ = omega arith in absurd none
without_entry-met name (e ∷ es) zero d rise inside same is =
    let below : below_all (slice_cmp nat_cmp) name es ≡ true = ap (λ n. below_all (slice_cmp nat_cmp) n es) (sym is) ∙ (and_parts (below_all (slice_cmp nat_cmp) e.0 es) (is_by_name es) rise).0 in
    ap (λ b. cond (not b) (e ∷ without_entry name es) (without_entry name es)) same ∙ without_below name es below
without_entry-met name (e ∷ es) (suc n) d rise inside same is =
    let (here, more) = and_parts (below_all (slice_cmp nat_cmp) e.0 es) (is_by_name es) rise in
    let before : slice_cmp nat_cmp e.0 name ≡ Less = ap (slice_cmp nat_cmp e.0) (sym is) ∙ below_at e.0 es n d here (omega arith) in
    ap (λ b. cond (not b) (e ∷ without_entry name es) (without_entry name es)) (other e.0 name before) ∙ ap (λ es. e ∷ es) (without_entry-met name es n d more (omega arith) same is)
