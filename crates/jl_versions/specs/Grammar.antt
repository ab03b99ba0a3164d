-- Which texts are versions, and which version each means (Julia manual, Version Number Literals; no parts but these).
--     Reads text v            the text is a version text, and means v
--     IsVersionText text      the text is a version text
-- A version text is an optional `v`, one to three numbers joined by dots, then optionally `-` and identifiers, then
-- optionally `+` and identifiers. Identifiers are joined by dots. A missing number is 0.
use Rattle.std.specs.Prelude.{◌≡◌, ℕ, ◌^◌, ◌<◌, ◌≤◌, ◌≢◌, ◌⊎◌, List, [], ◌∷◌, ◌++◌, length, IsTrue, slice_index}
use Rattle.std.specs.List.{list_all}
use Rattle.jl_versions.specs.Words.{is_digit, number_of, is_word}
use Rattle.jl_versions.specs.declared.ident.Ident.{Ident}
use Rattle.jl_versions.specs.declared.ident.Ident.TheVariants.{Number, Word}
use Rattle.jl_versions.specs.declared.version.Version.{Version}

-- one or more digits that mean n, which is below the limit; zeros may lead
pub record IsNumeral (limit n : ℕ) (text : List ℕ) : Type 0 where
  pub some : text ≢ []
  pub digits : IsTrue (list_all is_digit text)
  pub value : n ≡ number_of text
  pub small : n < limit

-- each of the three numbers is below 2 ^ 32
abbrev pub IsNumber : ℕ → List ℕ → Type 0
IsNumber n text = IsNumeral (2 ^ 32) n text

-- digits alone are a number below 2 ^ 64, anything else is a word
abbrev pub IsIdent : Ident → List ℕ → Type 0
IsIdent (Number n) text = IsNumeral (2 ^ 64) n text
IsIdent (Word word) text = (word ≡ text) × IsTrue (is_word text)

-- one or more texts of the items, joined by dots
abbrev pub IsJoined : {X : Type 0} → (X → List ℕ → Type 0) → List X → List ℕ → Type 0
IsJoined Means [] text = ⊥
IsJoined Means (x ∷ []) text = Means x text
IsJoined Means (x ∷ y ∷ ys) text = (front rest : List ℕ) × (text ≡ front ++ 46 ∷ rest) × Means x front × IsJoined Means (y ∷ ys) rest

-- the sign and the identifiers behind it, or nothing where there are none
abbrev pub IsLabel : ℕ → List Ident → List ℕ → Type 0
IsLabel sign [] text = text ≡ []
IsLabel sign (i ∷ is) text = (rest : List ℕ) × (text ≡ sign ∷ rest) × IsJoined IsIdent (i ∷ is) rest

-- the pre-release and the build
pub record IsTail (pre build : List Ident) (text : List ℕ) : Type 0 where
  pub pre_text : List ℕ
  pub build_text : List ℕ
  pub joined : text ≡ pre_text ++ build_text
  pub pre_means : IsLabel 45 pre pre_text
  pub build_means : IsLabel 43 build build_text

-- the three numbers, of which the last ones may be missing
pub record AreNumbers (v : Version) (numbers : List ℕ) : Type 0 where
  pub few : length numbers ≤ 3
  pub major : v.major ≡ slice_index numbers 0
  pub minor : v.minor ≡ slice_index numbers 1
  pub patch : v.patch ≡ slice_index numbers 2

-- what stands behind the optional `v`
pub record IsBody (v : Version) (text : List ℕ) : Type 0 where
  pub numbers : List ℕ
  pub numbers_text : List ℕ
  pub tail_text : List ℕ
  pub joined : text ≡ numbers_text ++ tail_text
  pub numbers_mean : IsJoined IsNumber numbers numbers_text
  pub values : AreNumbers v numbers
  pub tail_means : IsTail v.pre v.build tail_text

abbrev pub Reads : List ℕ → Version → Type 0
Reads text v = IsBody v text ⊎ ((rest : List ℕ) × (text ≡ 118 ∷ rest) × IsBody v rest)

abbrev pub IsVersionText : List ℕ → Type 0
IsVersionText text = (v : Version) × Reads text v
