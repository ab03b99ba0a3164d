use Rattle.std.proofs.Common.{◌∙◌, [], ap, sym, slice_index_or}
use Rattle.clap.specs.Words.{App, with_rule}
use Rattle.command_words.proofs.Rules.{rules_at}
use Rattle.command_words.specs.Seen.{entry_of}
use Rattle.command_words.specs.Table.{rule}
use Rattle.command_words.specs.declared.table.Entry.TheVariants.{One}
use Rattle.command_words.proofs.table.defined.Goals as goal

pub loop-entry-preserved : goal.loop-entry-preserved
loop-entry-preserved c =
    let first = One (record { ref_ptr = (0, 0); now = [] }) in
    let entry = rule (entry_of (slice_index_or c.args.table.now c.loop-entry.entry-index first)) in
    c.in_ok-made.ensures
    ∙ (ap (λ (app : App). with_rule app entry) c.loop-entry.invariant ∙ sym (rules_at c.args.command.now c.args.table.now c.loop-entry.entry-index first c.loop-entry-test.true))
