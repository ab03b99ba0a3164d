-- Laws on the definitions.
use Rattle.std.specs.Prelude.{◌≡◌, ℕ, ◌<◌, ◌^◌, true, List, ◌++◌}
use Rattle.pkg_world.specs.Path.{Path, are_plain, path_text}
use Rattle.depot_hash.specs.Checksum.{crc32c}

-- a checksum goes on where that of the bytes before stopped
abbrev pub ChecksumGoesOn : Type 0
ChecksumGoesOn = (start : ℕ) (a b : List ℕ) → start < 2 ^ 32 → crc32c (crc32c start a) b ≡ crc32c start (a ++ b)

-- a path's text tells the path, so that files that can be run may be looked up by the texts of their paths
abbrev pub OneTextOnePath : Type 0
OneTextOnePath = (p q : Path) → are_plain p ≡ true → are_plain q ≡ true → path_text p ≡ path_text q → p ≡ q
