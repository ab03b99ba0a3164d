use Rattle.std.proofs.Common.{◌≡◌, ◌-◌, ◌^◌, is_some, bytes_eq, refl, sym, ap, ◌∙◌, subst}
use Rattle.indexmap.proofs.CallerLemmas.{insert_entry-new}
use Rattle.offer_terms.specs.Booked.{number_of}
use Rattle.offer_terms.specs.Kept.{IsKept}
use Rattle.offer_terms.proofs.Books.{none_from, number_of-packed, entered_there, entered_packed, few_entries, kept-entered}
use Rattle.offer_terms.proofs.book.Book.enter.Goals as goal

pub returns-then-is_some-clause-ok : goal.returns-then-is_some-clause-ok
returns-then-is_some-clause-ok c =
    let number : number_of c.args.self.now c.args.uuid ≡ c.get_index_of.result =
    ap (λ b. number_of b c.args.uuid) (sym c.self.view_is) ∙ number_of-packed c.self.inside.packages.entries c.args.uuid ∙ sym c.get_index_of.ensures.index in
    entered_there c.args.self.now c.args.uuid c.args.name.now (ap is_some number ∙ sym c.is_some.ensures ∙ c.if-is_some.true)

pub invariant_of-self-2 : goal.invariant_of-self-2
invariant_of-self-2 c =
    let absent = none_from _ (sym c.get_index_of.ensures.found ∙ sym c.is_some.ensures ∙ c.if-is_some.false) in
    let new = c.in_ok-insert.ensures.entries ∙ insert_entry-new bytes_eq c.self.inside.packages c.args.uuid _ absent in
    subst IsKept (sym new) (kept-entered c.self.inside.packages.entries _ c.self.invariant (few_entries c.self.inside.packages.entries c.args.self.now (2 ^ 32 - 1) c.self.view_is c.requires) c.make.ensures.items)

pub returns-clause-ok : goal.returns-clause-ok
returns-clause-ok c =
    let number : number_of c.args.self.now c.args.uuid ≡ c.get_index_of.result =
    ap (λ b. number_of b c.args.uuid) (sym c.self.view_is) ∙ number_of-packed c.self.inside.packages.entries c.args.uuid ∙ sym c.get_index_of.ensures.index in
    let absent = none_from _ (sym c.get_index_of.ensures.found ∙ sym c.is_some.ensures ∙ c.if-is_some.false) in
    let new = c.in_ok-insert.ensures.entries ∙ insert_entry-new bytes_eq c.self.inside.packages c.args.uuid _ absent in
    entered_packed c.self.inside.packages.entries c.insert.new.self.entries c.args.self.now c.args.uuid c.args.name.now _ c.self.view_is new
    c.in_ok-copy.ensures refl c.make.ensures.items (ap is_some number ∙ sym c.is_some.ensures ∙ c.if-is_some.false)
