use Rattle.std.proofs.Common.{map, ap, ◌∙◌}
use Rattle.jl_versions.specs.Triple.{triple_of}
use Rattle.offer_terms.specs.Offered.{offering, allowing}
use Rattle.selection_check.specs.Order.{id_cmp}
use Rattle.selection_check.specs.Breaches.{OfferLacks, OfferExcludes}
use Rattle.selection_check.specs.Found.{first_lacking_other, first_outside}
use Rattle.selection_check.proofs.Orders.{none_of, some_of}
use Rattle.selection_check.proofs.Clauses.{deps_first, compat_first}
use Rattle.selection_check.proofs.raising.is_met.Goals as goal

pub returns-in-Some : goal.returns-in-Some
returns-in-Some c = λ met.
    let book = c.args.book.now in
    let s = c.args.selection.now.items in
    let u = c.args.uuid.now in
    let offer = offering c.args.offer.now in
    let lacks = some_of (id_cmp book) (OfferLacks s u offer) (first_lacking_other book s u offer.deps) c.in-Some.field-0 (c.in-Some.ensures ∙ ap (first_lacking_other book s u) c.items.ensures.items) (deps_first book s u offer) in
    met.needs c.in-Some.field-0 lacks.here

pub returns-in-Some-outside_of : goal.returns-in-Some-outside_of
returns-in-Some-outside_of c = λ met.
    let book = c.args.book.now in
    let s = c.args.selection.now.items in
    let u = c.args.uuid.now in
    let offer = offering c.args.offer.now in
    let julia = triple_of c.args.julia.now in
    let excludes = some_of (id_cmp book) (OfferExcludes julia s u offer) (first_outside book julia s u offer.compat) c.in-Some-outside_of.field-0
    (c.in-Some-outside_of.ensures ∙ ap (λ xs. first_outside book julia s u (map allowing xs)) c.items-in-None.ensures) (compat_first julia s u book offer) in
    met.fits c.in-Some-outside_of.field-0 excludes.here

pub returns-in-None-outside_of : goal.returns-in-None-outside_of
returns-in-None-outside_of c =
    let book = c.args.book.now in
    let s = c.args.selection.now.items in
    let u = c.args.uuid.now in
    let offer = offering c.args.offer.now in
    let julia = triple_of c.args.julia.now in
    record {
      needs = none_of (id_cmp book) (OfferLacks s u offer) (first_lacking_other book s u offer.deps) (c.in-None.ensures ∙ ap (first_lacking_other book s u) c.items.ensures.items) (deps_first book s u offer);
      fits = none_of (id_cmp book) (OfferExcludes julia s u offer) (first_outside book julia s u offer.compat)
          (c.in-None-outside_of.ensures ∙ ap (λ xs. first_outside book julia s u (map allowing xs)) c.items-in-None.ensures) (compat_first julia s u book offer);
    }
