use Rattle.std.proofs.Common.{sym, ap, ◌∙◌}
use Rattle.offer_terms.specs.Booked.{number_of}
use Rattle.offer_terms.proofs.Books.{number_of-packed}
use Rattle.offer_terms.proofs.book.Book.number.Goals as goal

pub returns-in-Some : goal.returns-in-Some
returns-in-Some c = c.in-Some.ensures.index ∙ sym (number_of-packed c.self.inside.packages.entries c.args.uuid.now) ∙ ap (λ b. number_of b c.args.uuid.now) c.self.view_is

pub returns-in-None : goal.returns-in-None
returns-in-None c = c.in-None.ensures.index ∙ sym (number_of-packed c.self.inside.packages.entries c.args.uuid.now) ∙ ap (λ b. number_of b c.args.uuid.now) c.self.view_is
