-- A version's three numbers, and the version that has nothing else.
use Rattle.std.specs.Prelude.{ℕ, List, [], ◌∷◌, slice_index}
use Rattle.jl_versions.specs.declared.version.Version.{Version}

-- major, minor, patch
abbrev pub triple_of : Version → List ℕ
triple_of v = v.major ∷ v.minor ∷ v.patch ∷ []

-- the version with these three numbers, without pre-release and build
abbrev pub release : List ℕ → Version
release triple = record { major = slice_index triple 0; minor = slice_index triple 1; patch = slice_index triple 2; pre = []; build = [] }
