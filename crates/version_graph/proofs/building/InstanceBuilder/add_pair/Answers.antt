use Rattle.std.proofs.Common.{◌≡◌, ◌∙◌, ◌<◌, ◌||◌, ap, arith, Bool, true, false, refl}
use Rattle.version_graph.specs.Graph.{is_key, is_forbidden}
use Rattle.version_graph.proofs.BuildLemmas.{forbidden-added, on-ok}
use Rattle.version_graph.proofs.building.InstanceBuilder.add_pair.Goals as goal

pub returns-then-p-q-clause-ok : goal.returns-then-p-q-clause-ok
returns-then-p-q-clause-ok c = on-ok c.list_pair.result _ _
    (λ added. forbidden-added c.args.self.now c.list_pair.new.self c.args.p c.args.i c.args.q c.args.j c.if-p-q.true added) c.list_pair.ensures.ok

swap : (a b : Bool) → (a || b) ≡ (b || a)
swap true true = refl
swap true false = refl
swap false true = refl
swap false false = refl

pub returns-else-p-q-clause-ok : goal.returns-else-p-q-clause-ok
returns-else-p-q-clause-ok c = on-ok c.list_pair-else-p-q.result _ _
    (λ added a b d e.
    let below : c.args.q < c.args.p = omega arith in
    forbidden-added c.args.self.now c.list_pair-else-p-q.new.self c.args.q c.args.j c.args.p c.args.i below added a b d e
    ∙ ap (λ x. is_forbidden c.args.self.now a b d e || x) (swap (is_key a b d e c.args.q c.args.j c.args.p c.args.i) (is_key a b d e c.args.p c.args.i c.args.q c.args.j)))
    c.list_pair-else-p-q.ensures.ok
