use Rattle.std.proofs.Common.{bytes_eq, sym, ap, ◌∙◌, subst}
use Rattle.std.specs.List.{IsDistinct}
use Rattle.offer_terms.specs.Booked.{ids_of}
use Rattle.offer_terms.proofs.Books.{ids-packed}
use Rattle.offer_terms.proofs.book.Book.packages.Goals as goal

pub returns-clause-once : goal.returns-clause-once
returns-clause-once c = subst (IsDistinct bytes_eq) (sym (ids-packed c.self.inside.packages.entries) ∙ ap ids_of c.self.view_is) c.len.ensures.unique
