use Rattle.std.proofs.Common.{false, map, arith}
use Rattle.std.proofs.lemmas.List.{length-map}
use Rattle.jl_versions.specs.declared.version.Version.{Version}
use Rattle.offer_terms.specs.Offered.{Id}
use Rattle.offer_terms.specs.Demanded.{version_entry}
use Rattle.selection_check.specs.Opening.{AllowsOf}
use Rattle.selection_check.proofs.OpenLemmas.{first_more, mapped_at, pins_shut}
use Rattle.selection_check.proofs.opening.shut_pinned.Goals as goal

pub loop-pin-preserved : goal.loop-pin-preserved
loop-pin-preserved c =
    let inv = c.loop-pin.invariant in
    record {
      narrows = first_more c.args.book.now c.args.table.now c.loop-pin.table c.shut.new.table (λ (p : Id × Version). AllowsOf p.0 (λ _. false)) (map version_entry c.args.pins.now) c.loop-pin.pin-index (version_entry c.pin-item.result) inv.narrows
          (mapped_at version_entry c.args.pins.now c.loop-pin.pin-index c.pin-item.result (omega arith) c.pin-item.is) c.shut.ensures.narrows;
      made = c.shut.ensures.made;
    }

pub returns-clause-narrows : goal.returns-clause-narrows
returns-clause-narrows c =
    pins_shut c.args.book.now c.args.table.now c.loop-pin.table (map version_entry c.args.pins.now) c.loop-pin.pin-index c.loop-pin.invariant.narrows
    (omega (arith, c.loop-pin-test.false, length-map c.args.pins.now version_entry))
