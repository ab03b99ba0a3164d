use Rattle.std.proofs.Common.{map, arith}
use Rattle.std.proofs.lemmas.List.{length-map}
use Rattle.jl_versions.specs.declared.version.Version.{Version}
use Rattle.offer_terms.specs.Offered.{Id}
use Rattle.offer_terms.specs.Demanded.{version_entry}
use Rattle.book_graph.specs.Building.{OfPlace, IsOffered, is_other}
use Rattle.book_graph.proofs.Steps.{bars_begin, bars_next_of, bars_all_of, mapped_at}
use Rattle.book_graph.proofs.barring.bar_pins.Goals as goal

pub loop-pin-init : goal.loop-pin-init
loop-pin-init c = bars_begin c.args.builder.now (OfPlace (λ (p : Id × Version). IsOffered c.args.book.now p.0 (is_other p.1)) (map version_entry c.args.pins.now))

pub loop-pin-preserved : goal.loop-pin-preserved
loop-pin-preserved c =
    bars_next_of c.args.builder.now c.loop-pin.builder c.bar.new.builder (λ (p : Id × Version). IsOffered c.args.book.now p.0 (is_other p.1)) (map version_entry c.args.pins.now) c.loop-pin.pin-index (version_entry c.pin-item.result) c.loop-pin.invariant
    (mapped_at version_entry c.args.pins.now c.loop-pin.pin-index c.pin-item.result (omega arith) c.pin-item.is) c.bar.ensures

pub returns : goal.returns
returns c =
    bars_all_of c.args.builder.now c.loop-pin.builder (λ (p : Id × Version). IsOffered c.args.book.now p.0 (is_other p.1)) (map version_entry c.args.pins.now) c.loop-pin.pin-index
    (omega (arith, c.loop-pin-test.false, length-map c.args.pins.now version_entry)) c.loop-pin.invariant
