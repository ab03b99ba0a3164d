-- The pieces of a text, from its first byte on.
use Rattle.std.proofs.Common.{◌≡◌, ℕ, true, false, cond, eqb, List, [], ◌∷◌, Option, Some, None, refl, ap, ◌∙◌}
use Rattle.std.specs.List.{slice_split, onto_first}
use Rattle.compat_spec.specs.Pieces.{◌>>=◌, pieces, filled, words}

-- what stands before the first byte c
abbrev pub before : ℕ → List ℕ → List ℕ
before c [] = []
before c (b ∷ bs) = cond (eqb b c) [] (b ∷ before c bs)

-- the pieces behind the first byte c
abbrev pub behind : ℕ → List ℕ → List (List ℕ)
behind c [] = []
behind c (b ∷ bs) = cond (eqb b c) (before c bs ∷ behind c bs) (behind c bs)

pub pieces_are : (c : ℕ) (text : List ℕ) → pieces c text ≡ before c text ∷ behind c text
pieces_are c [] = refl
pieces_are c (b ∷ bs) =
    elim (eqb b c) as (λ t. cond t ([] ∷ slice_split (λ b. eqb b c) bs) (onto_first b (slice_split (λ b. eqb b c) bs)) ≡ cond t [] (b ∷ before c bs) ∷ cond t (before c bs ∷ behind c bs) (behind c bs)) [
      | true ↦ ap (λ (ps : List (List ℕ)). [] ∷ ps) (pieces_are c bs)
      | false ↦ ap (λ (ps : List (List ℕ)). onto_first b ps) (pieces_are c bs)
    ]

pub words_are : (text : List ℕ) → words text ≡ filled (before 32 text ∷ behind 32 text)
words_are text = ap filled (pieces_are 32 text)

-- words that begin with a byte that is no space
pub words_begin : (b : ℕ) (bytes : List ℕ) → eqb b 32 ≡ false → words (b ∷ bytes) ≡ (b ∷ before 32 bytes) ∷ filled (behind 32 bytes)
words_begin b bytes e = words_are (b ∷ bytes) ∙ rw e refl

-- ---- steps that may fail

abbrev pub nothing : (B : Type 0) → Option B
nothing B = None

pub bind_none : {A : Type 0} (B : Type 0) (o : Option A) → (o >>= λ x. nothing B) ≡ nothing B
bind_none B None = refl
bind_none B (Some x) = refl

-- a step, what it makes, and what is read from there
pub bind_through : {A B C D : Type 0} (o : Option A) (f : A → Option B) (k : B → Option C) (make : A → D) (from : D → Option C)
    → ((x : A) → (f x >>= k) ≡ from (make x)) → ((o >>= f) >>= k) ≡ ((o >>= λ x. Some (make x)) >>= from)
bind_through None f k make from same = refl
bind_through (Some x) f k make from same = same x
