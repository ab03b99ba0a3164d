use Rattle.std.proofs.Common.{◌≡◌, List, ℕ, nat_cmp, subst, arith}
use Rattle.std.proofs.lemmas.Grind.{common_steps}
use Rattle.std.specs.Cmp.Lexicographic.{slice_cmp}
use Rattle.std.specs.List.Sorted.{IsStrictlySortedBy}
use Rattle.pkg_world.specs.Tree.{names}
use Rattle.pkg_world.specs.Stored.{files_view}
use Rattle.pkg_world.proofs.Kept.{names-keys, names_ascend}
use Rattle.pkg_world.proofs.tree.names_in.Goals as goal

pub loop-name-init : goal.loop-name-init
loop-name-init c = rw (c.make-found.ensures.items, c.into_iter-name-iterator.ensures.into_iter_gives, c.keys-name-items.ensures.rest) (names-keys c.args.entries.now.entries)

pub returns-clause-sorted : goal.returns-clause-sorted
returns-clause-sorted c =
    let all : names (files_view c.args.entries.now) ≡ c.loop-name.found.items = grind (arith, common_steps) in
    subst (λ (ns : List (List ℕ)). IsStrictlySortedBy (slice_cmp nat_cmp) ns) all (names_ascend c.args.entries.now.entries c.keys-name-items.ensures.ordered)
