use Rattle.std.proofs.Common.{◌≡◌, ◌∙◌, ◌&&◌, not, true, ap, sym}
use Rattle.version_graph.specs.Graph.{is_forbidden}
use Rattle.version_graph.specs.Domain.{has}
use Rattle.maxsum_messages.proofs.Best.{forbidden-turned}
use Rattle.maxsum_messages.proofs.saying.raw_at.Goals as goal

pub returns-then-has-clause-best : goal.returns-then-has-clause-best
returns-then-has-clause-best g c inside value weighed =
    let graph = c.args.instance.now in
    let met = c.requires.closed.meets c.args.q c.args.j c.args.p inside c.requires.first c.requires.apart in
    c.best_partner.ensures.best (has c.args.domains.now c.args.p) value met.partner weighed
    (ap (λ b. b && not (is_forbidden graph c.args.p met.partner c.args.q c.args.j)) met.there ∙ ap not (forbidden-turned graph c.args.p met.partner c.args.q c.args.j c.requires.apart ∙ met.allowed))
