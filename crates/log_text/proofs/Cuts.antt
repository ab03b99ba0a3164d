-- Cutting bytes at the first of a kind.
use Rattle.std.proofs.Common.{◌≡◌, ℕ, ◌+◌, ◌<◌, Bool, true, false, not, List, [], ◌∷◌, ◌++◌, length, take, drop, get_or, None, Some, option_map, refl, sym, ◌∙◌, ap, arith, append_assoc, length-append}
use Rattle.std.specs.Prelude.{◌==◌, nat_lt}
use Rattle.std.specs.List.{list_all, position, position_or_len}
use Rattle.std.proofs.lemmas.Bool.{and_parts, eq-eqb, eqb-true, lt-ltb}
use Rattle.std.proofs.lemmas.List.{take_at, drop_at, drop_more, take-append-drop}
use Rattle.std.proofs.lemmas.List.Quantifiers.{position-Some}
use Rattle.std.proofs.lemmas.Option.{none-some, some_pair_parts}
use Rattle.log_text.specs.Meant.{cut_at}

-- without such a byte
abbrev pub is_free : ℕ → List ℕ → Bool
is_free mark bytes = list_all (λ byte. not (byte == mark)) bytes

before_mark : (m : ℕ) (front rest : List ℕ) → is_free m front ≡ true → position_or_len (λ byte. byte == m) (front ++ m ∷ rest) ≡ length front
before_mark m [] rest free = rw (eq-eqb m m refl) refl
before_mark m (b ∷ bs) rest free =
    let parts = and_parts (not (b == m)) (is_free m bs) free in
    rw (parts.0, before_mark m bs rest parts.1) (omega arith)

drop_front : (m : ℕ) (front rest : List ℕ) → drop (length front + 1) (front ++ m ∷ rest) ≡ rest
drop_front m front rest = ap (λ xs. drop (length front + 1) xs) (sym (append_assoc front (m ∷ []) rest)) ∙ drop_at (front ++ m ∷ []) rest (length front + 1) (length-append front (m ∷ []))

-- bytes are cut at the first place of the mark
pub cut_found : (m i : ℕ) (bytes front rest : List ℕ) → Some i ≡ position (λ byte. byte == m) bytes → front ≡ take i bytes → rest ≡ drop (i + 1) bytes → cut_at m bytes ≡ Some (front, rest)
unfolding cut_at
cut_found m i bytes front rest here before behind = rw (← here, before, behind) refl

pub cut_nowhere : (m : ℕ) (bytes : List ℕ) → None ≡ position (λ byte. byte == m) bytes → cut_at m bytes ≡ None
unfolding cut_at
cut_nowhere m bytes here = rw (← here) refl

-- bytes are cut behind a front that is free of the mark
pub cut_front : (m : ℕ) (front rest : List ℕ) → is_free m front ≡ true → cut_at m (front ++ m ∷ rest) ≡ Some (front, rest)
unfolding cut_at
cut_front m front rest free =
    let bytes = front ++ m ∷ rest in
    let at = before_mark m front rest free in
    let inside : nat_lt (length front) (length bytes) ≡ true = lt-ltb (length front) (length bytes) (omega (arith, length-append front (m ∷ rest))) in
    let placed : position (λ byte. byte == m) bytes ≡ Some (length front) = rw (at, inside) refl in
    rw (placed, take_at front (m ∷ rest) (length front) refl, drop_front m front rest) refl

-- what is cut stands before the mark and behind it
pub cut_joins : (m : ℕ) (bytes front rest : List ℕ) → cut_at m bytes ≡ Some (front, rest) → bytes ≡ front ++ m ∷ rest
unfolding cut_at
cut_joins m bytes front rest e =
    elim (position (λ byte. byte == m) bytes) as (λ o. position (λ byte. byte == m) bytes ≡ o → option_map {U = List ℕ × List ℕ} (λ place. (take place bytes, drop (place + 1) bytes)) o ≡ Some (front, rest) → bytes ≡ front ++ m ∷ rest) [
      | None ↦ λ _ none. absurd (none-some (front, rest) none)
      | Some i ↦ λ here some. joined i (position-Some (λ byte. byte == m) bytes i 0 here) (some_pair_parts (take i bytes) front (drop (i + 1) bytes) rest some)
    ] refl e
  where
    joined : (i : ℕ) → (i < length bytes) × ((get_or bytes i 0 == m) ≡ true) × ((k : ℕ) → k < i → (get_or bytes k 0 == m) ≡ false) → (take i bytes ≡ front) × (drop (i + 1) bytes ≡ rest) → bytes ≡ front ++ m ∷ rest
    joined i found parts =
        sym (take-append-drop i bytes)
        ∙ ap (λ xs. take i bytes ++ xs) (drop_more bytes i 0 found.0)
        ∙ ap (λ b. take i bytes ++ b ∷ drop (i + 1) bytes) (eqb-true (get_or bytes i 0) m found.1)
        ∙ ap (λ xs. xs ++ m ∷ drop (i + 1) bytes) parts.0
        ∙ ap (λ xs. front ++ m ∷ xs) parts.1

-- two fronts that are free of the mark, and what stands behind it, are the same in the same bytes
pub cut_same : (m : ℕ) (one front rest more : List ℕ) → is_free m one ≡ true → is_free m front ≡ true → one ++ m ∷ rest ≡ front ++ m ∷ more → (one ≡ front) × (rest ≡ more)
cut_same m one front rest more free clear same =
    some_pair_parts one front rest more (sym (cut_front m one rest free) ∙ ap (cut_at m) same ∙ cut_front m front more clear)
