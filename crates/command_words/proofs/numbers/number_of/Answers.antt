-- Digits that `parse` refuses give no number.
use Rattle.std.proofs.Common.{rules}
use Rattle.command_words.proofs.Digits.{no_number}
use Rattle.command_words.proofs.numbers.number_of.Goals as goal

pub returns-in-Err : goal.returns-in-Err
returns-in-Err c = search (rules, no_number c.args.text.now c.in-Err.field-0 c.in-Err.ensures.value.0)
