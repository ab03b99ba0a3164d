-- Git's ids of objects (Git's object format).
use Rattle.std.specs.Prelude.{ℕ, List, ◌∷◌, ◌++◌, length, codes, decimal}
use Rattle.sha1.specs.Sha1.{sha1}

-- an object's id: the SHA-1 of its kind, a space, the number of its bytes, a zero byte, and the bytes
abbrev pub object_id : List ℕ → List ℕ → List ℕ
object_id kind bytes = sha1 (kind ++ codes " " ++ decimal (length bytes) ++ 0 ∷ bytes)

-- a file's id
abbrev pub blob_id : List ℕ → List ℕ
blob_id bytes = object_id (codes "blob") bytes
