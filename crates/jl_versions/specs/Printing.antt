-- How a version is printed: three numbers, `-` and the pre-release if there is one, `+` and the build if there is one.
--     printed v       the text
--     IsVersion v     the parts are such as a version has: numbers in range, and words that are words
use Rattle.std.specs.Prelude.{ℕ, ◌^◌, ◌<◌, List, [], ◌∷◌, ◌++◌, IsTrue, Bool, nat_lt}
use Rattle.std.specs.List.{list_all}
use Rattle.std.specs.Fmt.{decimal}
use Rattle.jl_versions.specs.Words.{is_word}
use Rattle.jl_versions.specs.declared.ident.Ident.{Ident}
use Rattle.jl_versions.specs.declared.ident.Ident.TheVariants.{Number, Word}
use Rattle.jl_versions.specs.declared.version.Version.{Version}

-- a number has no leading zeros, and a word is its bytes
abbrev pub ident_text : Ident → List ℕ
ident_text (Number n) = decimal n
ident_text (Word word) = word

-- the identifiers, the first behind the sign and each other one behind a dot
abbrev pub label_text : ℕ → List Ident → List ℕ
label_text sign [] = []
label_text sign (i ∷ is) = sign ∷ (ident_text i ++ label_text 46 is)

-- the three numbers, joined by dots
abbrev pub numbers_text : Version → List ℕ
numbers_text v = decimal v.major ++ (46 ∷ (decimal v.minor ++ (46 ∷ decimal v.patch)))

-- the text of a version
abbrev pub printed : Version → List ℕ
printed v = numbers_text v ++ (label_text 45 v.pre ++ label_text 43 v.build)

-- an identifier's number is below 2 ^ 64, and its word is a word
abbrev pub is_label : Ident → Bool
is_label (Number n) = nat_lt n (2 ^ 64)
is_label (Word word) = is_word word

-- the parts are such as a version has
pub record IsVersion (v : Version) : Type 0 where
  pub major : v.major < 2 ^ 32
  pub minor : v.minor < 2 ^ 32
  pub patch : v.patch < 2 ^ 32
  pub pre : IsTrue (list_all is_label v.pre)
  pub build : IsTrue (list_all is_label v.build)
