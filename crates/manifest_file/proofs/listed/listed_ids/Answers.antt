use Rattle.std.proofs.Common.{◌≡◌, ◌∷◌, drop, ◌+◌, ap, ◌∙◌, arith}
use Rattle.std.proofs.lemmas.Grind.{common_steps}
use Rattle.manifest_file.specs.Saying.{all_read, listed_id}
use Rattle.manifest_file.specs.Sorting.{bearers_by}
use Rattle.manifest_file.specs.Steps.{onto}
use Rattle.manifest_file.proofs.Faults.{refuses_first}
use Rattle.manifest_file.proofs.listed.listed_ids.Goals as goal

pub returns-in-Err : goal.returns-in-Err
returns-in-Err c =
    let read = listed_id (bearers_by c.args.index.now) c.args.from.now in
    let rest = drop (c.loop-name.name-index + 1) c.args.names.now in
    let here : drop c.loop-name.name-index c.args.names.now ≡ c.name-item.result ∷ rest = grind (arith, common_steps) in
    refuses_first read c.loop-name.pairs.items c.name-item.result rest (all_read read c.args.names.now) c.in-Err.fault
    (c.loop-name.invariant ∙ ap (λ r. onto c.loop-name.pairs.items (all_read read r)) here) c.in-Err.ensures
