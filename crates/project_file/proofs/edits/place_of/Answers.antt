-- The name is at that place alone.
use Rattle.std.proofs.Common.{rules, ◌≡◌, get_or, true}
use Rattle.std.proofs.lemmas.Slice.Eq.{bytes_eq-Decides}
use Rattle.std.specs.Str.{bytes_eq}
use Rattle.project_file.proofs.NamePlaces.{without_entry-met}
use Rattle.project_file.proofs.edits.place_of.Goals as goal

pub returns-then-eq-clause-left : goal.returns-then-eq-clause-left
returns-then-eq-clause-left g c =
    let place = c.loop-place.place in
    let same : bytes_eq (get_or c.args.pairs.now place c.index-pairs-place.result).0 c.args.name.now ≡ true = search rules in
    let is : (get_or c.args.pairs.now place c.index-pairs-place.result).0 ≡ c.args.name.now = search (rules, bytes_eq-Decides) in
    without_entry-met c.args.name.now c.args.pairs.now place c.index-pairs-place.result c.requires c.loop-place-test.true same is
