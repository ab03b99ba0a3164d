use Rattle.std.proofs.Common.{◌≡◌, ℕ, List, take, nat_lt, count_by, nat_cmp}
use Rattle.std.specs.Option.{option_copied}
use Rattle.std.specs.BTreeSet.{contains}
use Rattle.std.specs.Str.{bytes_eq}
use Rattle.std.specs.Cmp.Lexicographic.{slice_cmp}
use Rattle.depot_hash.specs.Trees.{IsFirstTwice}
use Rattle.depot_hash.proofs.trees.first_twice.Given as goal

abbrev pub invariant-loop-entry : goal.invariant-loop-entry
invariant-loop-entry l = record {
  met : (name : List ℕ) → contains (slice_cmp nat_cmp) l.met name ≡ nat_lt 0 (count_by (λ entry. bytes_eq entry.name name) (take l.entry-index l.entries));
  first : IsFirstTwice (take l.entry-index l.entries) (option_copied l.first);
}
