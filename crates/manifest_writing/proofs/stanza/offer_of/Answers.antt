use Rattle.std.proofs.Common.{find, sym, ap, ◌∙◌}
use Rattle.offer_terms.specs.Offered.{is_of}
use Rattle.offer_terms.proofs.Books.{offers_at_number, offers_nowhere}
use Rattle.manifest_writing.proofs.stanza.offer_of.Goals as goal

pub returns-in-Some : goal.returns-in-Some
returns-in-Some c =
    c.at_version.ensures ∙ ap (find (is_of c.args.version.now)) (c.offers.ensures.offers ∙ sym (offers_at_number c.args.book.now c.args.uuid.now c.in-Some.package c.in-Some.ensures))

pub returns-in-None : goal.returns-in-None
returns-in-None c = sym (ap (find (is_of c.args.version.now)) (offers_nowhere c.args.book.now c.args.uuid.now c.in-None.ensures))
