use Rattle.std.proofs.Common.{◌≡◌, ℕ, List, take}
use Rattle.std.specs.BTreeSet.{contains_text}
use Rattle.std.specs.List.{list_any}
use Rattle.std.specs.Str.{bytes_eq}
use Rattle.pkg_world.specs.Path.{path_text}
use Rattle.depot_hash.proofs.folders.texts_of.Given as goal

abbrev pub invariant-loop-path : goal.invariant-loop-path
invariant-loop-path l = (name : List ℕ) → contains_text l.texts name ≡ list_any (λ path. bytes_eq (path_text path) name) (take l.path-index l.path-items)
