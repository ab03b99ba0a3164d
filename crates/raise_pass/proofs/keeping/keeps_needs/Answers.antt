use Rattle.std.proofs.Common.{◌∙◌, sym, arith, get_or}
use Rattle.raise_pass.proofs.ReachLemmas.{need-known}
use Rattle.raise_pass.proofs.KeepLemmas.{need-apart, row-list, keeps-all}
use Rattle.raise_pass.proofs.keeping.keeps_needs.Goals as goal

pub is_wanted-requires-clause-second : goal.is_wanted-requires-clause-second
is_wanted-requires-clause-second c =
    let g = c.args.instance.now in
    let row = c.of-needed.result.now in
    let list = row-list g c.args.needs.now c.args.p c.args.i row c.requires.needs c.requires.known c.requires.old c.of-needed.ensures in
    need-known g c.args.p c.args.i (get_or row c.loop-q.q-index 0) (list.sound c.loop-q.q-index (omega arith))

pub is_wanted-requires-clause-apart : goal.is_wanted-requires-clause-apart
is_wanted-requires-clause-apart c =
    let g = c.args.instance.now in
    let row = c.of-needed.result.now in
    let list = row-list g c.args.needs.now c.args.p c.args.i row c.requires.needs c.requires.known c.requires.old c.of-needed.ensures in
    need-apart g c.args.p c.args.i (get_or row c.loop-q.q-index 0) (list.sound c.loop-q.q-index (omega arith))

pub returns-then-not-is_wanted : goal.returns-then-not-is_wanted
returns-then-not-is_wanted c = λ k.
    let g = c.args.instance.now in
    let row = c.of-needed.result.now in
    let list = row-list g c.args.needs.now c.args.p c.args.i row c.requires.needs c.requires.known c.requires.old c.of-needed.ensures in
    let is = sym (k.kept (get_or row c.loop-q.q-index 0) (list.sound c.loop-q.q-index (omega arith))) ∙ sym c.is_wanted.ensures ∙ c.if-not-is_wanted.true in
    absurd (cc)

pub returns : goal.returns
returns c =
    let g = c.args.instance.now in
    let row = c.of-needed.result.now in
    let list = row-list g c.args.needs.now c.args.p c.args.i row c.requires.needs c.requires.known c.requires.old c.of-needed.ensures in
    keeps-all g c.args.p c.args.i c.args.j row list (λ k b. c.loop-q.invariant.met k (omega (arith, b)))
