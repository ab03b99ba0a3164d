use Rattle.std.proofs.Common.{map}
use Rattle.std.proofs.lemmas.Result.{IfOk-weaker}
use Rattle.command_words.proofs.Rules.{none_found}
use Rattle.command_words.specs.Seen.{entry_of, texts}
use Rattle.command_words.specs.Table.{definition}
use Rattle.clap.specs.Words.{app_of}
use Rattle.command_words.proofs.table.matched.Goals as goal

pub returns-in-Err : goal.returns-in-Err
returns-in-Err c =
    IfOk-weaker c.refused.result _ _ (λ found h. none_found (app_of c.in_ok-definition.definition) (definition c.args.command.now (map entry_of c.args.table.now)) (texts c.args.words.now) c.in-Err.error found c.in_ok-definition.ensures c.requires c.in-Err.ensures.kinds h) c.refused.ensures
