use Rattle.std.proofs.Common.{find, sym, ap, ◌∙◌}
use Rattle.offer_terms.specs.Offered.{version_in, is_of}
use Rattle.selection_check.proofs.Ranks.{taken_of_number}
use Rattle.selection_check.proofs.selected.selected_offer.Goals as goal

pub returns-in-Some : goal.returns-in-Some
returns-in-Some c =
    c.offer_at.ensures ∙ ap (find (is_of c.in-Some.version.now)) c.offers.ensures.offers
    ∙ sym (taken_of_number c.args.book.now c.args.selection.now.items c.args.package c.in-Some.version.now c.packages-count.ensures.once c.requires
    (c.in-Some.ensures ∙ ap (version_in c.args.selection.now.items) c.uuid.ensures))
