use Rattle.offer_book.proofs.MentionLemmas.{firsts_are_once, firsts_are_named, front_comes_first}
use Rattle.offer_book.proofs.laws.first_mentions.Goals as goal

pub returns : goal.returns
returns c = record { once = firsts_are_once; named = firsts_are_named; front = front_comes_first }
