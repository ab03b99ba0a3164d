-- Pairs in the order of the bytes of their keys, of which the first of a key counts.
use Rattle.std.specs.Prelude.{ℕ, List, fold, is_some, if◌then◌else◌}
use Rattle.std.specs.BTreeMap.{insert_entry}
use Rattle.package_tables.specs.Row.{by_bytes, value_of}

-- one more at its place in the order, unless its key is there
abbrev pub put_new : {T : Type 0} → List (List ℕ × T) → List ℕ → T → List (List ℕ × T)
put_new done key value = if is_some (value_of key done) then done else insert_entry by_bytes done key value

-- more of them, one after the other
abbrev pub put_pairs : {T : Type 0} → List (List ℕ × T) → List (List ℕ × T) → List (List ℕ × T)
put_pairs done pairs = fold (λ es p. put_new es p.0 p.1) done pairs
