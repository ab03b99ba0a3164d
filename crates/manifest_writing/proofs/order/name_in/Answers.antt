use Rattle.std.proofs.Common.{[], sym, ap, ◌∙◌}
use Rattle.std.proofs.lemmas.Option.{slice_get-get_or}
use Rattle.offer_terms.specs.Booked.{is_for, unread}
use Rattle.offer_terms.proofs.Finds.{find_there, find_nowhere, position_within}
use Rattle.manifest_writing.specs.Writing.{name_of}
use Rattle.manifest_writing.proofs.order.name_in.Goals as goal

pub returns-in-Some : goal.returns-in-Some
returns-in-Some c =
    let book = c.args.book.now in
    let u = c.args.uuid.now in
    let p = c.in-Some.package in
    c.as_str.ensures ∙ c.name.ensures ∙ sym (ap name_of (find_there (is_for u) book p c.in-Some.ensures ∙ slice_get-get_or book p (unread [] []) (position_within (is_for u) book p c.in-Some.ensures)))

pub returns-in-None : goal.returns-in-None
returns-in-None c = sym (ap name_of (find_nowhere (is_for c.args.uuid.now) c.args.book.now c.in-None.ensures))
