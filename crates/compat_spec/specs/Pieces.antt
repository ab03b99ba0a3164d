-- The pieces of a text, and steps that may fail.
--     pieces c text    what stands between the bytes c
--     words text       the runs of bytes between spaces
--     is_text p text           whether the text is p
--     without_prefix p text    what follows p, where the text begins with p
--     without_spaces text      the text from its first byte on that is no space
--     all_some os              the values, where each is there
use Rattle.std.specs.Prelude.{ℕ, Bool, true, false, not, List, [], ◌∷◌, filter, Option, None, Some, ◌==◌, ◌&&◌, if◌then◌else◌}
use Rattle.std.specs.List.{slice_split}
use Rattle.std.specs.Option.{option_and_then}

infixl 10 ◌>>=◌
abbrev pub ◌>>=◌ : {A B : Type 0} → Option A → (A → Option B) → Option B
o >>= f = option_and_then f o

abbrev pub pieces : ℕ → List ℕ → List (List ℕ)
pieces c text = slice_split (λ b. b == c) text

abbrev pub is_empty : List ℕ → Bool
is_empty [] = true
is_empty (b ∷ bs) = false

-- the pieces that are not empty
abbrev pub filled : List (List ℕ) → List (List ℕ)
filled pieces = filter (λ piece. not (is_empty piece)) pieces

-- the runs of bytes between spaces
abbrev pub words : List ℕ → List (List ℕ)
words text = filled (pieces 32 text)

abbrev pub all_some : {A : Type 0} → List (Option A) → Option (List A)
all_some [] = Some []
all_some (o ∷ os) = do
  x ← o
  xs ← all_some os
  Some (x ∷ xs)

abbrev pub is_text : List ℕ → List ℕ → Bool
is_text [] [] = true
is_text [] (b ∷ bs) = false
is_text (p ∷ ps) [] = false
is_text (p ∷ ps) (b ∷ bs) = b == p && is_text ps bs

abbrev pub without_prefix : List ℕ → List ℕ → Option (List ℕ)
without_prefix [] text = Some text
without_prefix (p ∷ ps) [] = None
without_prefix (p ∷ ps) (b ∷ bs) = if b == p then without_prefix ps bs else None

abbrev pub without_spaces : List ℕ → List ℕ
without_spaces [] = []
without_spaces (b ∷ bs) = if b == 32 then without_spaces bs else b ∷ bs
