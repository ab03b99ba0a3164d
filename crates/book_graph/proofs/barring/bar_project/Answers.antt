use Rattle.std.proofs.Common.{List, map, arith}
use Rattle.std.proofs.lemmas.List.{length-map}
use Rattle.compat_spec.specs.declared.part.Part.{Part}
use Rattle.offer_terms.specs.Offered.{Id}
use Rattle.offer_terms.specs.Demanded.{spec_entry}
use Rattle.book_graph.specs.Building.{OfPlace, IsOffered, is_outside}
use Rattle.book_graph.proofs.Steps.{bars_begin, bars_next_of, bars_all_of, mapped_at}
use Rattle.book_graph.proofs.barring.bar_project.Goals as goal

pub loop-entry-init : goal.loop-entry-init
loop-entry-init c = bars_begin c.args.builder.now (OfPlace (λ (e : Id × List Part). IsOffered c.args.book.now e.0 (is_outside e.1)) (map spec_entry c.args.entries.now))

pub loop-entry-preserved : goal.loop-entry-preserved
loop-entry-preserved c =
    bars_next_of c.args.builder.now c.loop-entry.builder c.bar.new.builder (λ (e : Id × List Part). IsOffered c.args.book.now e.0 (is_outside e.1)) (map spec_entry c.args.entries.now) c.loop-entry.entry-index (spec_entry c.entry-item.result) c.loop-entry.invariant
    (mapped_at spec_entry c.args.entries.now c.loop-entry.entry-index c.entry-item.result (omega arith) c.entry-item.is) c.bar.ensures

pub returns : goal.returns
returns c =
    bars_all_of c.args.builder.now c.loop-entry.builder (λ (e : Id × List Part). IsOffered c.args.book.now e.0 (is_outside e.1)) (map spec_entry c.args.entries.now) c.loop-entry.entry-index
    (omega (arith, c.loop-entry-test.false, length-map c.args.entries.now spec_entry)) c.loop-entry.invariant
