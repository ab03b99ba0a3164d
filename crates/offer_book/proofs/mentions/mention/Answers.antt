-- A package that is there stays where it is, and a new one comes last.
use Rattle.std.proofs.Common.{◌≡◌, ◌∷◌, ◌++◌, [], None, cond, bytes_eq, is_some, sym, ap, ◌∙◌}
use Rattle.indexmap.proofs.CallerLemmas.{insert_entry-new}
use Rattle.std.specs.Map.{lookup}
use Rattle.offer_terms.proofs.Books.{none_from}
use Rattle.offer_book.specs.Numbers.{is_mentioned}
use Rattle.offer_book.proofs.mentions.mention.Goals as goal

pub returns-then-contains_key : goal.returns-then-contains_key
returns-then-contains_key c =
    let old = c.args.mentions.now.entries in
    sym (ap (λ b. cond b old (old ++ (c.args.uuid, c.args.name.now) ∷ [])) (sym c.contains_key.ensures ∙ c.if-contains_key.true))

pub returns : goal.returns
returns c =
    let old = c.args.mentions.now.entries in
    let absent : is_mentioned old c.args.uuid ≡ _ = sym c.contains_key.ensures ∙ c.if-contains_key.false in
    c.in_ok-insert.ensures.entries ∙ insert_entry-new bytes_eq c.args.mentions.now c.args.uuid _ (none_from (lookup (bytes_eq c.args.uuid) old) absent)
    ∙ ap (λ name. old ++ (c.args.uuid, name) ∷ []) c.in_ok-copy.ensures
    ∙ sym (ap (λ b. cond b old (old ++ (c.args.uuid, c.args.name.now) ∷ [])) absent)
