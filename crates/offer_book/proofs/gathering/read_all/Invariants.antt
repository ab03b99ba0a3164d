-- The packages so far were read, and what is left to read gives what the whole gives.
use Rattle.std.proofs.Common.{◌≡◌, ◌≤◌, ◌-◌, IfSome, length}
use Rattle.offer_book.specs.AllOffers.{found_in}
use Rattle.offer_book.specs.Gathered.{most_packages}
use Rattle.offer_book.specs.Made.{scope_of, reaching, AreFirst}
use Rattle.offer_book.specs.Numbers.{walk}
use Rattle.offer_book.proofs.gathering.read_all.Given as goal

abbrev pub invariant-packages : goal.invariant-packages
invariant-packages g l =
    (g.S.Store.files l.store ≡ g.S.Store.files l.initial.store) ×
    (g.S.Store.read_faults l.initial.store ≤ g.S.Store.read_faults l.store) ×
    (g.S.Store.write_faults l.store ≡ g.S.Store.write_faults l.initial.store) ×
    (length l.book ≡ l.number) ×
    AreFirst l.book l.mentions.entries ×
    IfSome (g.S.Store.files l.initial.store) (λ all. walk (found_in all l.catalog (scope_of l.demand)) most_packages (reaching l.initial.mentions.entries l.initial.book)
    ≡ walk (found_in all l.catalog (scope_of l.demand)) (most_packages - l.number) (reaching l.mentions.entries l.book))
