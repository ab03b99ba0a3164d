use Rattle.std.proofs.Common.{map, refl, sym, ap, ◌∙◌}
use Rattle.offer_terms.specs.Offered.{offering}
use Rattle.offer_terms.specs.Booked.{filled}
use Rattle.offer_terms.proofs.Books.{package_is, packed-filled, kept-filled}
use Rattle.offer_terms.proofs.book.Book.fill.Goals as goal

pub invariant_of-self : goal.invariant_of-self
invariant_of-self c = kept-filled c.self.inside.packages.entries c.args.package _ c.self.invariant c.requires.numbered c.requires.rising

pub returns : goal.returns
returns c =
    packed-filled c.self.inside.packages.entries c.args.package _ (sym (ap (λ it. it.name) (package_is c.self.inside.packages.entries c.args.package _ c.pair_mut-found.ensures.value))) refl
    ∙ ap (λ b. filled b c.args.package (map offering c.args.offers.items)) c.self.view_is
