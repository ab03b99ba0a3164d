-- The identifier that one or more letters, digits or hyphens spell.
use Rattle.std.specs.Prelude.{ℕ, ◌^◌, List, Option, None, Some, nat_lt, if◌then◌else◌}
use Rattle.std.specs.List.{list_all}
use Rattle.jl_versions.specs.Words.{is_digit, number_of, is_empty}
use Rattle.jl_versions.specs.declared.ident.Ident.{Ident}
use Rattle.jl_versions.specs.declared.ident.Ident.TheVariants.{Number, Word}

-- digits alone, read as a number below 2 ^ 64
abbrev pub number_ident : ℕ → Option Ident
number_ident n = if nat_lt n (2 ^ 64) then Some (Number n) else None

-- the identifier that the bytes spell: a number if they are digits alone, and else a word
unfoldable pub ident_of : List ℕ → Option Ident
ident_of bytes =
    if is_empty bytes then None
    else (if list_all is_digit bytes then number_ident (number_of bytes) else Some (Word bytes))
