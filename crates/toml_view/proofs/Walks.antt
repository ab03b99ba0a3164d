-- Going over a list or a table: what was read so far, and the rest.
use Rattle.std.proofs.Common.{◌≡◌, ℕ, true, List, [], ◌∷◌, ◌++◌, map, Result, Ok, Err, String, Global, string_bytes, string_cmp, Less, refl, sym, ap, ◌∙◌, append_assoc}
use Rattle.std.proofs.lemmas.List.{map-append}
use Rattle.std.specs.Ordering.{nat_cmp}
use Rattle.std.specs.Cmp.Lexicographic.{slice_cmp}
use Rattle.std.specs.FinMap.Entries.{below_all}
use Rattle.std.specs.List.{AllByRecursion}
use Rattle.std.specs.List.Sorted.{IsStrictlySortedBy}
use Rattle.std.specs.Map.{keys_of}
use Rattle.pkg_world.specs.ByName.{is_by_name}
use Rattle.toml.specs.Data.{Data}
use Rattle.toml.specs.declared.value.Value.{Value}
use Rattle.toml_view.specs.declared.refusal.Refusal.{Refusal}
use Rattle.toml.specs.View.{view, members_view}
use Rattle.toml_view.specs.Reading.{at, chained, mapped, each}

abbrev pub Entry : Type 0
Entry = String Global × Value

-- a reading of the rest, behind what was read
abbrev pub onto : {T : Type 0} → List T → Result (List T) Refusal → Result (List T) Refusal
onto done (Ok rest) = Ok (done ++ rest)
onto done (Err refusal) = Err refusal

pub onto_next : {T : Type 0} (done : List T) (v : T) (rest : Result (List T) Refusal) → onto done (mapped (λ vs. v ∷ vs) rest) ≡ onto (done ++ v ∷ []) rest
onto_next done v (Ok rest) = ap Ok (sym (append_assoc done (v ∷ []) rest))
onto_next done v (Err refusal) = refl

pub onto_none : {T : Type 0} (reading : Result (List T) Refusal) → onto [] reading ≡ reading
onto_none (Ok rest) = refl
onto_none (Err refusal) = refl

below_all-keys : {T : Type 0} (k : String Global) (pairs : List (List ℕ × T)) (es : List Entry) → map (λ p. p.0) pairs ≡ map (λ e. string_bytes e.0) es
    → AllByRecursion (λ y. string_cmp k y ≡ Less) (keys_of es) → below_all (slice_cmp nat_cmp) (string_bytes k) pairs ≡ true
below_all-keys k [] [] same h = refl
below_all-keys k [] (e ∷ es) same h = refl
below_all-keys k (p ∷ pairs) [] same h = cc
below_all-keys k (p ∷ pairs) (e ∷ es) same h =
    let head : p.0 ≡ string_bytes e.0 = cc in
    let tail : map (λ p. p.0) pairs ≡ map (λ e. string_bytes e.0) es = cc in
    rw (head, h.0, below_all-keys k pairs es tail h.1)

-- pairs with the keys of a table are in the order of their names
pub by_name-keys : {T : Type 0} (pairs : List (List ℕ × T)) (es : List Entry) → map (λ p. p.0) pairs ≡ map (λ e. string_bytes e.0) es
    → IsStrictlySortedBy string_cmp (keys_of es) → is_by_name pairs ≡ true
unfolding IsStrictlySortedBy
by_name-keys [] es same h = refl
by_name-keys (p ∷ pairs) [] same h = cc
by_name-keys (p ∷ pairs) (e ∷ es) same h =
    let head : p.0 ≡ string_bytes e.0 = cc in
    let tail : map (λ p. p.0) pairs ≡ map (λ e. string_bytes e.0) es = cc in
    rw (head, below_all-keys e.0 pairs es tail h.0, by_name-keys pairs es tail h.1)

-- one more pair of a table
pub pairs-next : {T : Type 0} (read : Data → Result T Refusal) (pairs : List (List ℕ × T)) (name : List ℕ) (v : T) (es rest : List Entry) (e : Entry)
    (whole : Result (List (List ℕ × T)) Refusal) → es ≡ e ∷ rest → name ≡ string_bytes e.0 → at (string_bytes e.0) (read (view e.1)) ≡ Ok v
    → whole ≡ onto pairs (each read (members_view es)) → whole ≡ onto (pairs ++ (name, v) ∷ []) (each read (members_view rest))
pairs-next read pairs name v es rest e whole iter head found same =
    same ∙ ap (λ t. onto pairs (each read (members_view t))) iter
    ∙ ap (λ r. onto pairs (chained (λ w. mapped (λ vs. (string_bytes e.0, w) ∷ vs) (each read (members_view rest))) r)) found
    ∙ onto_next pairs (string_bytes e.0, v) (each read (members_view rest))
    ∙ ap (λ n. onto (pairs ++ (n, v) ∷ []) (each read (members_view rest))) (sym head)

pub names-next : {T : Type 0} (pairs : List (List ℕ × T)) (es : List Entry) (p : List ℕ × T) (e : Entry) → map (λ q. q.0) pairs ≡ map (λ x. string_bytes x.0) es
    → p.0 ≡ string_bytes e.0 → map (λ q. q.0) (pairs ++ p ∷ []) ≡ map (λ x. string_bytes x.0) (es ++ e ∷ [])
names-next pairs es p e same head =
    map-append (λ q. q.0) pairs (p ∷ []) ∙ ap (λ t. t ++ p.0 ∷ []) same ∙ ap (λ n. map (λ x. string_bytes x.0) es ++ n ∷ []) head
    ∙ sym (map-append (λ x. string_bytes x.0) es (e ∷ []))
