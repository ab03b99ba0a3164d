use Rattle.std.proofs.Common.{sym, ◌∙◌, ap, arith}
use Rattle.raise_pass.specs.Reached.{is_marked}
use Rattle.raise_pass.proofs.MarkLemmas.{room-left, listed-more, grows-more, marked-set, grows-none, marked-same}
use Rattle.raise_pass.proofs.reaching.mark.Goals as goal

pub append-requires : goal.append-requires
append-requires c = room-left c.args.instance.now c.args.reached.now.items c.args.order.now.items c.args.p _ c.requires.listed c.requires.known (ap (λ m. is_marked m c.args.p) (sym c.as_slice.ensures.value) ∙ sym c.is_set.ensures ∙ c.if-is_set.false) c.requires.room

pub returns-clause-listed : goal.returns-clause-listed
returns-clause-listed c = listed-more c.args.instance.now c.args.reached.now.items _ c.args.order.now.items _ c.args.p c.requires.listed c.requires.known (ap (λ m. is_marked m c.args.p) (sym c.as_slice.ensures.value) ∙ sym c.is_set.ensures ∙ c.if-is_set.false) c.set.ensures c.append.ensures.items

pub returns-clause-grows : goal.returns-clause-grows
returns-clause-grows c = grows-more c.args.instance.now c.args.reached.now.items _ c.args.order.now.items _ c.args.p c.requires.listed c.requires.known c.set.ensures c.append.ensures.items

pub returns-clause-marks : goal.returns-clause-marks
returns-clause-marks c = λ q. ap (λ m. is_marked m q) c.set.ensures ∙ marked-set c.args.reached.now.items c.args.p (omega (arith, c.requires.known, c.requires.listed.each)) q

pub returns-then-is_set-clause-marks : goal.returns-then-is_set-clause-marks
returns-then-is_set-clause-marks c = λ q. marked-same c.args.reached.now.items c.args.p q (ap (λ m. is_marked m c.args.p) (sym c.as_slice.ensures.value) ∙ sym c.is_set.ensures ∙ c.if-is_set.true)

pub returns-then-is_set-clause-grows : goal.returns-then-is_set-clause-grows
returns-then-is_set-clause-grows c = grows-none c.args.reached.now.items c.args.order.now.items
