-- The names rise, so that halving finds the one.
use Rattle.std.proofs.Common.{rules, of_calls, get_or, sym, ap}
use Rattle.std.proofs.lemmas.Fn.{always_returns_same}
use Rattle.package_tables.specs.Row.{by_bytes}
use Rattle.package_offers.proofs.NamedLemmas.{named-hit, named-miss}
use Rattle.package_names.proofs.named.value_named.Goals as goal

pub returns-in-Ok : goal.returns-in-Ok
returns-in-Ok g c =
    let found = c.in-Ok.ensures.position (λ e. by_bytes e.0 c.args.name.now) (always_returns_same _ _ _ (λ a r f called. search (rules, of_calls))) in
    sym (named-hit c.args.pairs.now c.args.name.now c.in-Ok.place (get_or c.args.pairs.now c.in-Ok.place c.index-pairs-place.result) c.requires c.in-Ok.ensures.bound found
    (ap (get_or c.args.pairs.now c.in-Ok.place) c.index-pairs-place.is))

pub returns-in-Err : goal.returns-in-Err
returns-in-Err g c =
    let parted = c.in-Err.ensures.position (λ e. by_bytes e.0 c.args.name.now) (always_returns_same _ _ _ (λ a r f called. search (rules, of_calls))) in
    sym (named-miss c.args.pairs.now c.args.name.now c.in-Err.field-0 c.requires c.in-Err.ensures.bound parted)
