-- The texts of a made world. (own rule)
use Rattle.std.specs.Prelude.{ℕ, ◌/◌, ◌%◌, List, ◌++◌, codes}
use Rattle.std.specs.Fmt.{decimal}
use Rattle.world_maker.specs.declared.ranges.Span.{Span}

-- three digits
abbrev pub three : ℕ → List ℕ
three k = decimal (k / 100 % 10) ++ (decimal (k / 10 % 10) ++ decimal (k % 10))

-- the name and the identifier of package k
abbrev pub name : ℕ → List ℕ
name k = codes "P" ++ three k

abbrev pub uuid : ℕ → List ℕ
uuid k = codes "00000000-0000-4000-9000-000000000" ++ three k

-- version i of each package
abbrev pub version : ℕ → List ℕ
version i = codes "1." ++ (decimal i ++ codes ".0")

-- the tree of version i of package k
abbrev pub tree : ℕ → ℕ → List ℕ
tree k i = codes "000000000000000000000000000000000000" ++ (three k ++ decimal i)

-- a range of versions
abbrev pub range_text : Span → List ℕ
range_text span = codes "1." ++ (decimal span.low ++ (codes "-1." ++ decimal span.high))
