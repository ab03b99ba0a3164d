use Rattle.std.proofs.Common.{ℕ, List, subst}
use Rattle.offer_terms.specs.Offered.{Id}
use Rattle.offer_terms.specs.Booked.{book_offers}
use Rattle.offer_terms.specs.Demanded.{wanted}
use Rattle.selection_check.specs.Order.{id_cmp, both_cmp, IsFirst, first_id}
use Rattle.selection_check.specs.Breaches.{LacksRoot, ProjectExcludes, Excludes, BreaksPin}
use Rattle.selection_check.specs.Found.{first_lacking, first_outside_spec, first_off_pin}
use Rattle.selection_check.proofs.Orders.{none_of, some_of}
use Rattle.selection_check.proofs.Clauses.{roots_first, project_first, pins_first}
use Rattle.selection_check.proofs.Exits.{feasible, at_root, at_offer, at_dep, at_project, at_outside, at_pin}
use Rattle.selection_check.proofs.checking.breach.Goals as goal

pub returns-in-Some : goal.returns-in-Some
returns-in-Some c =
    let book = c.args.book.now in
    let w = wanted c.args.demand.now in
    let s = c.args.selection.now.items in
    at_root book w s c.in-Some.uuid (some_of (id_cmp book) (LacksRoot w s) (first_lacking book s w.roots) c.in-Some.uuid c.in-Some.ensures (roots_first book w s))

pub returns-in-Some-missing_offer : goal.returns-in-Some-missing_offer
returns-in-Some-missing_offer c =
    let book = c.args.book.now in
    let w = wanted c.args.demand.now in
    let s = c.args.selection.now.items in
    at_offer book w s (none_of (id_cmp book) (LacksRoot w s) (first_lacking book s w.roots) c.in_default.ensures (roots_first book w s)) c.in-Some-missing_offer.uuid c.in-Some-missing_offer.ensures

pub returns-in-Some-missing_dep : goal.returns-in-Some-missing_dep
returns-in-Some-missing_dep c =
    let book = c.args.book.now in
    let w = wanted c.args.demand.now in
    let s = c.args.selection.now.items in
    at_dep book w s (none_of (id_cmp book) (LacksRoot w s) (first_lacking book s w.roots) c.in_default.ensures (roots_first book w s)) c.in_default-missing_offer.ensures
    c.in-Some-missing_dep.pair c.in-Some-missing_dep.ensures

pub returns-in-Some-outside_project : goal.returns-in-Some-outside_project
returns-in-Some-outside_project c =
    let book = c.args.book.now in
    let w = wanted c.args.demand.now in
    let s = c.args.selection.now.items in
    at_project book w s (none_of (id_cmp book) (LacksRoot w s) (first_lacking book s w.roots) c.in_default.ensures (roots_first book w s)) c.in_default-missing_offer.ensures c.in_default-missing_dep.ensures
    c.in-Some-outside_project.uuid (some_of (id_cmp book) (ProjectExcludes w s) (first_outside_spec book s w.compat) c.in-Some-outside_project.uuid c.in-Some-outside_project.ensures (project_first book w s))

pub returns-in-Some-outside : goal.returns-in-Some-outside
returns-in-Some-outside c =
    let book = c.args.book.now in
    let w = wanted c.args.demand.now in
    let s = c.args.selection.now.items in
    at_outside book w s (none_of (id_cmp book) (LacksRoot w s) (first_lacking book s w.roots) c.in_default.ensures (roots_first book w s)) c.in_default-missing_offer.ensures c.in_default-missing_dep.ensures
    (none_of (id_cmp book) (ProjectExcludes w s) (first_outside_spec book s w.compat) c.in_default-outside_project.ensures (project_first book w s))
    c.in-Some-outside.pair
    (subst (λ (julia : List ℕ). IsFirst (both_cmp book) (λ (x : Id × Id). Excludes (book_offers book) julia s x.0 x.1) c.in-Some-outside.pair) c.requires c.in-Some-outside.ensures)

pub returns-in-Some-broken_pin : goal.returns-in-Some-broken_pin
returns-in-Some-broken_pin c =
    let book = c.args.book.now in
    let w = wanted c.args.demand.now in
    let s = c.args.selection.now.items in
    at_pin book w s (none_of (id_cmp book) (LacksRoot w s) (first_lacking book s w.roots) c.in_default.ensures (roots_first book w s)) c.in_default-missing_offer.ensures c.in_default-missing_dep.ensures
    (none_of (id_cmp book) (ProjectExcludes w s) (first_outside_spec book s w.compat) c.in_default-outside_project.ensures (project_first book w s))
    (subst (λ (julia : List ℕ). (x : Id × Id) → Excludes (book_offers book) julia s x.0 x.1 → ⊥) c.requires c.in_default-outside.ensures)
    c.in-Some-broken_pin.uuid (some_of (id_cmp book) (BreaksPin w s) (first_id book (first_off_pin book s w.pins) (first_off_pin book s w.held)) c.in-Some-broken_pin.uuid c.in-Some-broken_pin.ensures (pins_first book w s))

pub returns-in-None : goal.returns-in-None
returns-in-None c =
    let book = c.args.book.now in
    let w = wanted c.args.demand.now in
    let s = c.args.selection.now.items in
    feasible (book_offers book) w s c.items-pairs.ensures.rising (none_of (id_cmp book) (LacksRoot w s) (first_lacking book s w.roots) c.in_default.ensures (roots_first book w s)) c.in_default-missing_offer.ensures c.in_default-missing_dep.ensures
    (none_of (id_cmp book) (ProjectExcludes w s) (first_outside_spec book s w.compat) c.in_default-outside_project.ensures (project_first book w s))
    (subst (λ (julia : List ℕ). (x : Id × Id) → Excludes (book_offers book) julia s x.0 x.1 → ⊥) c.requires c.in_default-outside.ensures)
    (none_of (id_cmp book) (BreaksPin w s) (first_id book (first_off_pin book s w.pins) (first_off_pin book s w.held)) c.in-None.ensures (pins_first book w s))
