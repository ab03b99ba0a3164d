use Rattle.std.proofs.Common.{◌≡◌, ◌∷◌, ◌-◌, map, drop, ap, sym, ◌∙◌, arith}
use Rattle.std.proofs.lemmas.Grind.{common_steps}
use Rattle.manifest_file.specs.Said.{said_stanza}
use Rattle.home_commands.specs.StanzaPlaces.{place_in, stanza_at}
use Rattle.home_commands.specs.StatusDue.{stanza_with}
use Rattle.home_commands.proofs.StanzaFound.{found_next, at_drop}
use Rattle.home_commands.proofs.stanza_places.places_of.Goals as goal

pub loop-left-preserved : goal.loop-left-preserved
loop-left-preserved c =
    let (within, tells) = c.loop-left.invariant in
    let ss = c.args.stanzas.now in
    let x = c.index-stanzas-left.result in
    let here : drop (c.loop-left.left - 1) ss ≡ x ∷ drop c.loop-left.left ss = grind (arith, common_steps) in (
      omega arith,
      λ q. ap (stanza_at ss) (c.in_ok-add.ensures q)
          ∙ found_next ss x (c.loop-left.left - 1) q (place_in c.loop-left.places q) (map said_stanza (drop c.loop-left.left ss)) (at_drop ss (c.loop-left.left - 1) x (drop c.loop-left.left ss) here) (tells q)
          ∙ ap (λ l. stanza_with q (map said_stanza l)) (sym here),
    )
