use Rattle.std.proofs.Common.{subst, map}
use Rattle.std.proofs.lemmas.Option.{slice_get_within}
use Rattle.offer_terms.specs.Offered.{Text, Id, Allows, offering, allowing}
use Rattle.offer_terms.specs.Booked.{package_at}
use Rattle.book_graph.specs.Building.{Forbids, OfOne, IsFrom, IsAbsent, IsOffered, is_refused}
use Rattle.book_graph.proofs.Pairs.{forbids_by_offer}
use Rattle.book_graph.proofs.forbidding.forbid_of_offer.Goals as goal

pub forbid_absent-requires-clause-state : goal.forbid_absent-requires-clause-state
forbid_absent-requires-clause-state c = slice_get_within (package_at c.args.book.now c.args.package).offers c.args.state (offering c.args.offer.now) c.requires.there

pub forbid_refused-requires-clause-state : goal.forbid_refused-requires-clause-state
forbid_refused-requires-clause-state c = slice_get_within (package_at c.args.book.now c.args.package).offers c.args.state (offering c.args.offer.now) c.requires.there

pub returns : goal.returns
returns c =
    let book = c.args.book.now in
    let mid = c.forbid_absent.new.builder in
    let new = c.forbid_refused.new.builder in
    forbids_by_offer book c.args.package c.args.state (offering c.args.offer.now) c.args.builder.now mid new
    (subst (λ xs. Forbids c.args.builder.now mid (OfOne (λ (d : Text × Id). IsFrom c.args.package c.args.state (IsAbsent book d.1)) xs)) c.items.ensures.items c.in_ok-forbid_absent.ensures)
    (subst (λ xs. Forbids mid new (OfOne (λ (e : Id × Allows). IsFrom c.args.package c.args.state (IsOffered book e.0 (is_refused e.1))) (map allowing xs))) c.items-2.ensures c.in_ok-forbid_refused.ensures)
