-- The order of versions (Julia's `VersionNumber`): the three numbers, then the pre-release, then the build, by lists.
--     IsBelow v w         v comes before w
--     version_cmp v w     what comparing them answers
use Rattle.std.specs.Prelude.{◌≡◌, ◌<◌, ◌⊎◌, List, [], ◌∷◌}
use Rattle.std.specs.declared.cmp.Ordering.{Ordering}
use Rattle.std.specs.declared.cmp.Ordering.TheVariants.{Less, Greater}
use Rattle.std.specs.Ordering.{nat_cmp, bool_cmp, on, then_cmp}
use Rattle.std.specs.Cmp.Lexicographic.{slice_cmp}
use Rattle.jl_versions.specs.Words.{is_empty}
use Rattle.jl_versions.specs.Triple.{triple_of}
use Rattle.jl_versions.specs.declared.ident.Ident.{Ident}
use Rattle.jl_versions.specs.declared.ident.Ident.TheVariants.{Number, Word}
use Rattle.jl_versions.specs.declared.version.Version.{Version}

-- The first items that differ decide, and a proper front is below the longer list.
abbrev pub IsListBelow : {X : Type 0} → (X → X → Type 0) → List X → List X → Type 0
IsListBelow Below xs [] = ⊥
IsListBelow Below [] (y ∷ ys) = Unit {0}
IsListBelow Below (x ∷ xs) (y ∷ ys) = Below x y ⊎ ((x ≡ y) × IsListBelow Below xs ys)

-- Numbers go by value, words by bytes, and a number is below a word.
abbrev pub IsIdentBelow : Ident → Ident → Type 0
IsIdentBelow (Number m) (Number n) = m < n
IsIdentBelow (Number m) (Word w) = Unit {0}
IsIdentBelow (Word v) (Number n) = ⊥
IsIdentBelow (Word v) (Word w) = IsListBelow (λ a b. a < b) v w

-- With a pre-release is below without one; two pre-releases go by their lists.
abbrev pub IsPreBelow : List Ident → List Ident → Type 0
IsPreBelow [] js = ⊥
IsPreBelow (i ∷ is) [] = Unit {0}
IsPreBelow (i ∷ is) (j ∷ js) = IsListBelow IsIdentBelow (i ∷ is) (j ∷ js)

-- The numbers first; where they are equal the pre-releases; where those are equal too the builds.
abbrev pub IsBelow : Version → Version → Type 0
IsBelow v w =
    IsListBelow (λ a b. a < b) (triple_of v) (triple_of w)
    ⊎ ((triple_of v ≡ triple_of w) × (IsPreBelow v.pre w.pre ⊎ ((v.pre ≡ w.pre) × IsListBelow IsIdentBelow v.build w.build)))

-- what comparing two identifiers answers
abbrev pub ident_cmp : Ident → Ident → Ordering
ident_cmp (Number m) (Number n) = nat_cmp m n
ident_cmp (Number m) (Word w) = Less
ident_cmp (Word v) (Number n) = Greater
ident_cmp (Word v) (Word w) = slice_cmp nat_cmp v w

abbrev pub idents_cmp : List Ident → List Ident → Ordering
idents_cmp = slice_cmp ident_cmp

-- a list that isn't empty is below an empty one
abbrev pub pre_cmp : List Ident → List Ident → Ordering
pre_cmp = then_cmp (on is_empty bool_cmp) idents_cmp

-- what comparing two versions answers
abbrev pub version_cmp : Version → Version → Ordering
version_cmp = then_cmp (on triple_of (slice_cmp nat_cmp)) (then_cmp (on (λ v. v.pre) pre_cmp) (on (λ v. v.build) idents_cmp))
