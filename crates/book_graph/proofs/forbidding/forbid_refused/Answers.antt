use Rattle.std.proofs.Common.{map, arith}
use Rattle.std.proofs.lemmas.List.{length-map}
use Rattle.offer_terms.specs.Offered.{Id, Allows, allowing}
use Rattle.book_graph.specs.Building.{OfPlace, IsFrom, IsOffered, is_refused}
use Rattle.book_graph.proofs.Steps.{forbids_begin, forbids_next_of, forbids_all_of, mapped_at}
use Rattle.book_graph.proofs.forbidding.forbid_refused.Goals as goal

pub loop-entry-init : goal.loop-entry-init
loop-entry-init c = forbids_begin c.args.builder.now (OfPlace (λ (e : Id × Allows). IsFrom c.args.package c.args.state (IsOffered c.args.book.now e.0 (is_refused e.1))) (map allowing c.args.entries.now))

pub loop-entry-preserved : goal.loop-entry-preserved
loop-entry-preserved c =
    forbids_next_of c.args.builder.now c.loop-entry.builder c.forbid_entry.new.builder (λ (e : Id × Allows). IsFrom c.args.package c.args.state (IsOffered c.args.book.now e.0 (is_refused e.1))) (map allowing c.args.entries.now) c.loop-entry.entry-index (allowing c.entry-item.result) c.loop-entry.invariant
    (mapped_at allowing c.args.entries.now c.loop-entry.entry-index c.entry-item.result (omega arith) c.entry-item.is) c.in_ok-forbid_entry.ensures

pub returns : goal.returns
returns c =
    forbids_all_of c.args.builder.now c.loop-entry.builder (λ (e : Id × Allows). IsFrom c.args.package c.args.state (IsOffered c.args.book.now e.0 (is_refused e.1))) (map allowing c.args.entries.now) c.loop-entry.entry-index
    (omega (arith, c.loop-entry-test.false, length-map c.args.entries.now allowing)) c.loop-entry.invariant
