use Rattle.std.proofs.Common.{arith}
use Rattle.offer_terms.specs.Demanded.{wanted}
use Rattle.book_graph.specs.StandsFor.{sizes_of}
use Rattle.book_graph.proofs.Counts.{within_total}
use Rattle.book_graph.proofs.Made.{stands_from, same_graph, past_sums, if_ok, on_ok, if_err}
use Rattle.book_graph.proofs.making.make_instance.Goals as goal

pub open_builder-requires-clause-small : goal.open_builder-requires-clause-small
open_builder-requires-clause-small c = within_total (sizes_of c.args.book.now) c.state_total-total.result c.state_total-total.ensures.total (omega arith)

pub returns-clause-stands : goal.returns-clause-stands
returns-clause-stands c =
    if_ok c.finish.result _ _
    (λ g same. stands_from c.args.book.now (wanted c.args.demand.now) c.in_ok-builder.builder c.bar_states.new.builder c.forbid_excluded.new.builder g
    c.in_ok-builder.ensures.sized c.in_ok-builder.ensures.open c.bar_states.ensures c.in_ok-forbid_excluded.ensures same)
    c.finish.ensures.ok

pub returns-clause-fits : goal.returns-clause-fits
returns-clause-fits c =
    let g = c.forbid_excluded.new.builder in
    on_ok c.finish.result _ _
    (λ within. record {
      few = omega arith;
      small = within_total (sizes_of c.args.book.now) c.state_total-total.result c.state_total-total.ensures.total (omega arith);
      sums = record {
        graph = g;
        stands = stands_from c.args.book.now (wanted c.args.demand.now) c.in_ok-builder.builder c.bar_states.new.builder g g
            c.in_ok-builder.ensures.sized c.in_ok-builder.ensures.open c.bar_states.ensures c.in_ok-forbid_excluded.ensures (same_graph g);
        says = within;
      };
    })
    c.finish.ensures.within

pub returns-clause-past : goal.returns-clause-past
returns-clause-past c =
    let g = c.forbid_excluded.new.builder in
    if_err c.finish.result _ _
    (λ fault. past_sums c.args.book.now (wanted c.args.demand.now) g fault
    (record { few = omega arith; small = within_total (sizes_of c.args.book.now) c.state_total-total.result c.state_total-total.ensures.total (omega arith) })
    (stands_from c.args.book.now (wanted c.args.demand.now) c.in_ok-builder.builder c.bar_states.new.builder g g
    c.in_ok-builder.ensures.sized c.in_ok-builder.ensures.open c.bar_states.ensures c.in_ok-forbid_excluded.ensures (same_graph g)))
    c.finish.ensures.err
