use Rattle.std.proofs.Common.{length, ap, arith}
use Rattle.std.proofs.lemmas.List.{length-map}
use Rattle.std.proofs.lemmas.Option.{slice_get_within}
use Rattle.offer_terms.specs.Offered.{offering}
use Rattle.offer_terms.specs.Booked.{package_at}
use Rattle.selection_check.proofs.RaiseLemmas.{first_pass}
use Rattle.selection_check.proofs.raising.raise_above.Goals as goal

pub returns-then-passes : goal.returns-then-passes
returns-then-passes c = first_pass c.if-passes.ensures c.loop-place.invariant

pub returns : goal.returns
returns c = λ j l.
    let inside = slice_get_within (package_at c.args.book.now c.args.package).offers j l.offer l.there in
    c.loop-place.invariant j (omega (arith, inside, c.loop-place-test.false, ap length c.offers.ensures.offers, length-map c.offers.result.now offering)) l
