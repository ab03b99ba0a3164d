use Rattle.std.proofs.Common.{List, ℕ, [], nat_cmp}
use Rattle.std.specs.BTreeMap.{insert_entry}
use Rattle.std.specs.Cmp.Lexicographic.{slice_cmp}
use Rattle.std.proofs.lemmas.List.Sums.{fold_more}
use Rattle.depot_hash.specs.Trees.{git_key}
use Rattle.depot_hash.specs.declared.entries.TreeEntry.{TreeEntry}
use Rattle.depot_hash.proofs.Keys.{seen_insert}
use Rattle.depot_hash.proofs.trees.by_key.Goals as goal

pub loop-entry-preserved : goal.loop-entry-preserved
loop-entry-preserved c =
    let more = fold_more (λ (placed : List (List ℕ × TreeEntry)) (entry : TreeEntry). insert_entry (slice_cmp nat_cmp) placed (git_key entry) entry) [] c.args.entries.now c.loop-entry.entry-index c.entry-item.result c.loop-entry-test.true in
    rw (c.in_ok-insert.ensures.entries, seen_insert, c.loop-entry.invariant, more, ← c.entry-item.is, c.of.ensures)
