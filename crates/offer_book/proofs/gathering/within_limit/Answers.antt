-- The limit is passed where one more package was mentioned than there are numbers.
use Rattle.std.proofs.Common.{◌<◌, ◌≤◌, length, refl, ap, arith}
use Rattle.offer_book.specs.Gathered.{within_limit}
use Rattle.offer_book.specs.Made.{reached}
use Rattle.offer_book.proofs.GatherLemmas.{many-pass, few-pass-not}
use Rattle.offer_book.proofs.gathering.within_limit.Goals as goal

pub returns-then-count-clause-book : goal.returns-then-count-clause-book
returns-then-count-clause-book c =
    let many : 4096 < length c.args.reached.mentions.entries = omega (arith, c.if-count.true, c.len-count.ensures.len) in
    (refl, refl, ap (within_limit (reached c.args.reached)) (many-pass (reached c.args.reached) many))

pub returns-clause-book : goal.returns-clause-book
returns-clause-book c =
    let few : length c.args.reached.mentions.entries ≤ 4096 = omega (arith, c.if-count.false, c.len-count.ensures.len) in
    ap (within_limit (reached c.args.reached)) (few-pass-not (reached c.args.reached) few)
