use Rattle.std.proofs.Common.{rules, ◌≡◌, ◌∷◌, ◌-◌, if◌then◌else◌, map, drop, ap, sym, ◌∙◌, arith}
use Rattle.std.proofs.lemmas.Grind.{common_steps}
use Rattle.std.specs.Str.{bytes_eq}
use Rattle.manifest_file.specs.Said.{said_stanza}
use Rattle.manifest_file.specs.Sorting.{bearers_by}
use Rattle.manifest_file.specs.Written.{bearers_among, one_more}
use Rattle.manifest_file.proofs.Groups.{among_next}
use Rattle.manifest_file.proofs.bearers.index_of_stanzas.Goals as goal

pub loop-left-preserved : goal.loop-left-preserved
loop-left-preserved c =
    let (within, tells) = c.loop-left.invariant in
    let ss = c.args.stanzas.now in
    let x = c.index-stanzas-left.result in
    let rest = map said_stanza (drop c.loop-left.left ss) in
    let here : drop (c.loop-left.left - 1) ss ≡ x ∷ drop c.loop-left.left ss = grind (arith, common_steps) in
    let named : c.as_str-name.result.now ≡ x.name = search rules in
    let old = bearers_by c.loop-left.index in
    let bearers : c.one_more-bearers.result ≡ one_more x.uuid (old x.name) = c.one_more-bearers.ensures ∙ ap (one_more x.uuid) (c.named.ensures ∙ ap old named) in (
      omega arith,
      λ q. among_next x.name x.uuid q old (bearers_by c.add.new.index q) rest
          (c.in_ok-add.ensures q ∙ ap (λ n. if bytes_eq n q then c.one_more-bearers.result else old q) named ∙ ap (λ b. if bytes_eq x.name q then b else old q) bearers) tells
          ∙ ap (λ l. bearers_among (map said_stanza l) q) (sym here),
    )
