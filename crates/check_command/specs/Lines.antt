-- The lines of `check`: `good`, then `raisable UUID VERSION` where a package can be raised. (own rule)
use Rattle.std.specs.Prelude.{ℕ, List, [], ◌∷◌, ◌++◌, codes, Option, Some, None}
use Rattle.uuid.specs.Text.{hyphenated_text, lower}
use Rattle.jl_versions.specs.Printing.{printed}
use Rattle.jl_versions.specs.declared.version.Version.{Version}
use Rattle.offer_terms.specs.Offered.{Id}

abbrev pub good_line : List ℕ
good_line = codes "good" ++ 10 ∷ []

abbrev pub raise_line : Id → Version → List ℕ
raise_line uuid version = codes "raisable " ++ (hyphenated_text lower uuid ++ (codes " " ++ (printed version ++ 10 ∷ [])))

-- the lines, with the package that can be raised and the version
abbrev pub good_text : Option (Id × Version) → List ℕ
good_text None = good_line
good_text (Some raise) = good_line ++ raise_line raise.0 raise.1
