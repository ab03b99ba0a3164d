-- The name is there.
use Rattle.std.proofs.Common.{rules, ◌≡◌, ◌+◌, ◌-◌, ◌∷◌, ◌++◌, length, get_or, take, drop, Equal, arith, ap, sym, ◌∙◌}
use Rattle.std.proofs.lemmas.Grind.{common_steps}
use Rattle.std.specs.Cmp.Lexicographic.{slice_cmp}
use Rattle.std.specs.Ordering.{nat_cmp}
use Rattle.project_file.proofs.NamePlaces.{with_entry-met}
use Rattle.project_file.proofs.edits.around.Goals as goal

pub returns-in-Equal : goal.returns-in-Equal
returns-in-Equal c id =
    let place = c.loop-place.place in
    let all : take (length c.args.pairs.now - (place + 1)) (drop (place + 1) c.args.pairs.now) ≡ drop (place + 1) c.args.pairs.now = grind (arith, common_steps) in
    let tie : slice_cmp nat_cmp c.args.name.now (get_or c.args.pairs.now place c.index-pairs-place.result).0 ≡ Equal = search rules in
    with_entry-met c.args.name.now id c.args.pairs.now place c.index-pairs-place.result c.loop-place-test.true tie (c.loop-place.invariant.1 id)
    ∙ ap (λ rest. take place c.args.pairs.now ++ (c.args.name.now, id) ∷ rest) (sym all)
