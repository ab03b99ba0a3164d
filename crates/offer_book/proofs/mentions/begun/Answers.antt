-- The roots are mentioned first, and the extra packages behind them.
use Rattle.std.proofs.Common.{[], map, sym, ap, ◌∙◌}
use Rattle.std.proofs.lemmas.List.Sums.{fold-append}
use Rattle.offer_book.specs.Made.{scope_of}
use Rattle.offer_book.specs.Numbers.{mention, mention_all, unnamed}
use Rattle.offer_book.proofs.mentions.begun.Goals as goal

pub returns : goal.returns
returns c =
    let extra = map unnamed c.args.extra.now.items in
    c.in_ok-mention_extra.ensures
    ∙ ap (λ list. mention_all c.mention_all.new.mentions.entries (map unnamed list)) c.items-2.ensures
    ∙ ap (λ ms. mention_all ms extra) (c.in_ok-mention_all.ensures ∙ ap (λ ms. mention_all ms c.items.result.now) c.new-mentions.ensures.empty ∙ ap (mention_all []) c.items.ensures.items)
    ∙ sym (fold-append mention [] (scope_of c.args.demand.now).roots extra)
