use Rattle.std.proofs.Common.{Some, cond, ap, ◌∙◌}
use Rattle.std.proofs.lemmas.Map.Text.{is_eq-slice_cmp}
use Rattle.home_commands.specs.StanzaPlaces.{place_in}
use Rattle.home_commands.proofs.stanza_places.add.Goals as goal

pub returns : goal.returns
returns c = λ q.
    c.in_ok-insert.ensures.updates.0 q ∙ ap (λ b. cond b (Some c.args.place) (place_in c.args.places.now q)) (is_eq-slice_cmp c.args.uuid q)
