use Rattle.std.proofs.Common.{map, arith}
use Rattle.std.proofs.lemmas.List.{length-map}
use Rattle.offer_terms.specs.Offered.{Id, Allows, allowing}
use Rattle.selection_check.specs.Opening.{AllowsOther}
use Rattle.selection_check.proofs.OpenLemmas.{first_more, mapped_at, offer_shut}
use Rattle.selection_check.proofs.opening.shut_others.Goals as goal

pub loop-entry-preserved : goal.loop-entry-preserved
loop-entry-preserved c =
    let inv = c.loop-entry.invariant in
    record {
      narrows = first_more c.args.book.now c.args.table.now c.loop-entry.table c.shut_other.new.table (λ (e : Id × Allows). AllowsOther c.args.uuid.now e) (map allowing c.args.entries.now) c.loop-entry.entry-index (allowing c.entry-item.result) inv.narrows
          (mapped_at allowing c.args.entries.now c.loop-entry.entry-index c.entry-item.result (omega arith) c.entry-item.is) c.shut_other.ensures.narrows;
      made = c.shut_other.ensures.made;
    }

pub returns-clause-narrows : goal.returns-clause-narrows
returns-clause-narrows c =
    offer_shut c.args.book.now c.args.table.now c.loop-entry.table c.args.uuid.now (map allowing c.args.entries.now) c.loop-entry.entry-index c.loop-entry.invariant.narrows
    (omega (arith, c.loop-entry-test.false, length-map c.args.entries.now allowing))
