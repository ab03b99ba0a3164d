-- The machine that reads version texts byte by byte. The rule is `Reads` of Grammar; this says where each byte leads.
use Rattle.std.specs.Prelude.{ℕ, ◌+◌, ◌*◌, ◌-◌, ◌^◌, List, [], ◌∷◌, ◌++◌, Option, None, Some, nat_lt, ◌==◌, if◌then◌else◌, slice_index, unwrap_or}
use Rattle.std.specs.Option.{option_and_then}
use Rattle.jl_versions.specs.Words.{is_digit, is_ident_byte}
use Rattle.jl_versions.specs.declared.ident.Ident.{Ident}
use Rattle.jl_versions.specs.declared.version.Version.{Version}
use Rattle.jl_versions.specs.declared.reader.Earlier.{Earlier}
use Rattle.jl_versions.specs.declared.reader.Earlier.TheVariants.{Nothing, Major, MajorMinor}
use Rattle.jl_versions.specs.declared.reader.Stage.{Stage}
use Rattle.jl_versions.specs.declared.reader.Stage.TheVariants.{Fresh, Figures, Label}
use Rattle.jl_versions.specs.Pieces.{ident_of}

-- the three numbers, where n is the last that is given
abbrev pub triple_after : Earlier → ℕ → List ℕ
triple_after Nothing n = n ∷ 0 ∷ 0 ∷ []
triple_after (Major a) n = a ∷ n ∷ 0 ∷ []
triple_after (MajorMinor a b) n = a ∷ b ∷ n ∷ []

-- where a dot behind the number n leads
abbrev pub next_number : Earlier → ℕ → Option Stage
next_number Nothing n = Some (Figures (Major n) None)
next_number (Major a) n = Some (Figures (MajorMinor a n) None)
next_number (MajorMinor a b) n = None

-- where a byte that is no digit leads behind the number n
abbrev pub after_number : Earlier → ℕ → ℕ → Option Stage
after_number earlier n byte =
    if byte == 46 then next_number earlier n
    else (if byte == 45 then Some (Label (triple_after earlier n) None [] [])
    else (if byte == 43 then Some (Label (triple_after earlier n) (Some []) [] []) else None))

-- where one more digit leads, which has to leave the number below 2 ^ 32
abbrev pub after_digit : Earlier → ℕ → Option Stage
after_digit earlier n = if nat_lt n (2 ^ 32) then Some (Figures earlier (Some n)) else None

abbrev pub number_step : Earlier → Option ℕ → ℕ → Option Stage
number_step earlier now byte =
    if is_digit byte then after_digit earlier (10 * unwrap_or now 0 + (byte - 48))
    else option_and_then (λ n. after_number earlier n byte) now

-- a plus ends the pre-release and begins the build
abbrev pub begin_build : List ℕ → Option (List Ident) → List Ident → Option Stage
begin_build triple None done = Some (Label triple (Some done) [] [])
begin_build triple (Some pre) done = None

-- where a byte that belongs to no identifier leads, behind the identifiers done
abbrev pub after_ident : List ℕ → Option (List Ident) → List Ident → ℕ → Option Stage
after_ident triple pre done byte =
    if byte == 46 then Some (Label triple pre done [])
    else (if byte == 43 then begin_build triple pre done else None)

abbrev pub label_step : List ℕ → Option (List Ident) → List Ident → List ℕ → ℕ → Option Stage
label_step triple pre done piece byte =
    if is_ident_byte byte then Some (Label triple pre done (piece ++ byte ∷ []))
    else option_and_then (λ i. after_ident triple pre (done ++ i ∷ []) byte) (ident_of piece)

unfoldable pub step : Stage → ℕ → Option Stage
step Fresh byte = if byte == 118 then Some (Figures Nothing None) else number_step Nothing None byte
step (Figures earlier now) byte = number_step earlier now byte
step (Label triple pre done piece) byte = label_step triple pre done piece byte

-- the version with these parts
abbrev pub version_of : List ℕ → List Ident → List Ident → Version
version_of triple pre build = record { major = slice_index triple 0; minor = slice_index triple 1; patch = slice_index triple 2; pre = pre; build = build }

-- the version, where done are its last identifiers
abbrev pub labelled : List ℕ → Option (List Ident) → List Ident → Version
labelled triple None done = version_of triple done []
labelled triple (Some pre) done = version_of triple pre done

-- the version that the bytes so far mean, if they are a version's text
unfoldable pub finish : Stage → Option Version
finish Fresh = None
finish (Figures earlier None) = None
finish (Figures earlier (Some n)) = Some (version_of (triple_after earlier n) [] [])
finish (Label triple pre done piece) = option_and_then (λ i. Some (labelled triple pre (done ++ i ∷ []))) (ident_of piece)
